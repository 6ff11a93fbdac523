-- Bytes behind a payload's own: its texts are still the first, where they stood, so that no earlier answer changes.
use Rattle.std.specs.Prelude.{ℕ, zero, suc, ◌+◌, ◌≤◌, ◌≡◌, refl, List, ◌∷◌, ◌++◌, Bool, true, false, cond, ◌&&◌, length, leb, Ok}
use Rattle.std.proofs.Math.Path.{ap}
use Rattle.std.proofs.Common.{◌∙◌, arith}
use Rattle.std.proofs.Math.ListN.{length-append, get_or-append}
use Rattle.std.proofs.Math.Dec.{eqb}
use borrow.Author.Tests.{le-leb}
use Rattle.basics.specs.Laws.Tests.{cases}
use Rattle.metadata.specs.declared.Span.{Span}
use Rattle.metadata.specs.Records.{tag_at, end_at, span_at, whole_at, starts_from, starts}
use Rattle.metadata.specs.Texts.{last_tag, texts_in, texts_of, seek_in}
use Rattle.metadata.specs.Laws.Walk.{whole_ends, Turn, walk_on}
use Rattle.metadata.specs.Laws.Texts.{seek_behind}

-- a sub-record that is whole is the same with bytes behind
module _ (s more : List ℕ) (p : ℕ) (w : whole_at s p ≡ true) where
  same_tag : tag_at (s ++ more) p ≡ tag_at s p
  same_tag = get_or-append s more 0 p (omega (arith, whole_ends s p w))

  same_end : end_at (s ++ more) p ≡ end_at s p
  same_end = ap (◌+◌ (p + 2)) (get_or-append s more 0 (p + 1) (omega (arith, whole_ends s p w)))

  still_whole : whole_at (s ++ more) p ≡ true
  unfolding whole_at
  still_whole = le-leb (end_at (s ++ more) p) (length (s ++ more)) (omega (arith, whole_ends s p w, same_end, length-append s more))

one_more : (b : Bool) (x y : Span) (xs ys rest : List Span) → x ≡ y → xs ≡ ys ++ rest → cond b (x ∷ xs) xs ≡ cond b (y ∷ ys) ys ++ rest
one_more true x y xs ys rest e f = rw (e, f)
one_more false x y xs ys rest e f = f

-- one turn of both walks
module _ (g f tag : ℕ) (s more : List ℕ) (p : ℕ) (w : whole_at s p ≡ true) (t : Turn f (s ++ more) p) (rest : List Span) where
  abbrev from : ℕ → List Span
  from q = texts_in tag (s ++ more) (starts_from t.rest (s ++ more) q)

  turn_behind : from (end_at s p) ≡ texts_in tag s (starts_from g s (end_at s p)) ++ rest
      → texts_in tag (s ++ more) (starts_from f (s ++ more) p) ≡ texts_in tag s (starts_from (suc g) s p) ++ rest
  unfolding starts_from texts_in
  turn_behind on =
      let span : span_at (s ++ more) p ≡ span_at s p = ap {B = Span} (λ (q : ℕ). record { from = p + 2; to = q }) (same_end s more p w) in
      let behind : from (end_at (s ++ more) p) ≡ texts_in tag s (starts_from g s (end_at s p)) ++ rest = ap from (same_end s more p w) ∙ on in
      rw (t.is, same_tag s more p w, w) (one_more (leb tag last_tag && eqb (tag_at s p) tag) _ _ _ _ rest span behind)

walk_behind : (g f tag : ℕ) (s more : List ℕ) (p : ℕ) → length (s ++ more) ≤ p + f
    → (rest : List Span) × (texts_in tag (s ++ more) (starts_from f (s ++ more) p) ≡ texts_in tag s (starts_from g s p) ++ rest)
unfolding starts_from texts_in
walk_behind zero f tag s more p h = (texts_in tag (s ++ more) (starts_from f (s ++ more) p), refl)
walk_behind (suc g) f tag s more p h =
    cases (whole_at s p)
    (λ w.
    let t : Turn f (s ++ more) p = walk_on f (s ++ more) p h (still_whole s more p w) in
    let on = walk_behind g t.rest tag s more (end_at s p) (omega (arith, t.enough, same_end s more p w)) in
    (on.0, turn_behind g f tag s more p w t on.0 on.1))
    (λ w. (texts_in tag (s ++ more) (starts_from f (s ++ more) p), rw w))

pub texts_behind : (tag : ℕ) (s more : List ℕ) → (rest : List Span) × (texts_of tag (s ++ more) ≡ texts_of tag s ++ rest)
unfolding starts
texts_behind tag s more = walk_behind (length s) (length (s ++ more)) tag s more 0 (omega arith)

pub bytes_behind : (tag n : ℕ) (x : Span) (s more : List ℕ) → seek_in n (texts_of tag s) ≡ Ok x → seek_in n (texts_of tag (s ++ more)) ≡ Ok x
bytes_behind tag n x s more q = let b = texts_behind tag s more in ap (seek_in n) b.1 ∙ seek_behind n x (texts_of tag s) b.0 q
