-- Sub-records written are read back, and a payload is whole exactly when it is the bytes of its sub-records.
use Rattle.std.specs.Prelude.{ℕ, zero, suc, ◌+◌, ◌-◌, ◌≤◌, ◌≡◌, refl, List, [], ◌∷◌, ◌++◌, map, true, false, ◌↔◌, length, get_or, take, drop}
use Rattle.std.proofs.Common.{sym, ap, ◌∙◌, append_assoc, append-nil, arith, length-drop, drop_of_length-le, take-append-drop, drop-drop, length-take-le, le-leb, le-ltb, ltb-false}
use Rattle.basics.specs.Lists.{part, joined}
use Rattle.basics.specs.Laws.Tests.{cases}
use Rattle.basics.specs.Laws.Lists.{drop_one}
use Rattle.basics.specs.Laws.Stands.{stands_at, stands_after, stands_part, stands_length}
use Rattle.metadata.specs.Records.{Sub, sub_bytes, payload_of, end_at, sub_at, whole_at, starts_from, starts, end_from, is_cut, subs_of}
use Rattle.metadata.specs.Laws.Walk.{whole_ends, past_end, walk_stops}

-- one that stands at p is read back
pub record Back (s : List ℕ) (p : ℕ) (r : Sub) (rest : List ℕ) : Type 0 where
  pub whole : whole_at s p ≡ true
  pub is : sub_at s p ≡ r
  pub behind : drop (end_at s p) s ≡ rest

sub_back : (s : List ℕ) (p : ℕ) (r : Sub) (rest : List ℕ) → drop p s ≡ sub_bytes r ++ rest → Back s p r rest
unfolding whole_at
sub_back s p r rest st =
    let t : get_or s p 0 ≡ r.tag = stands_at s p (sub_bytes r) rest st 0 p (omega arith) in
    let n : get_or s (p + 1) 0 ≡ length r.text = stands_at s p (sub_bytes r) rest st 1 (p + 1) refl in
    let l : length s - p ≡ length (sub_bytes r) + length rest = stands_length s p (sub_bytes r) rest st in
    let a : drop (p + 2) s ≡ r.text ++ rest = stands_after s p (r.tag ∷ length r.text ∷ []) (r.text ++ rest) st (p + 2) refl in
    let e : end_at s p ≡ p + 2 + length r.text = ap (◌+◌ (p + 2)) n in
    record {
      whole = le-leb (end_at s p) (length s) (omega arith);
      is = rw (t, stands_part s (p + 2) r.text rest a (end_at s p) e);
      behind = stands_after s (p + 2) r.text rest a (end_at s p) e;
    }

pub record AllBack (f : ℕ) (s : List ℕ) (p : ℕ) (rs : List Sub) : Type 0 where
  pub are : map (sub_at s) (starts_from f s p) ≡ rs
  pub end : length s ≤ end_from s p (starts_from f s p)

all_back : (rs : List Sub) (f : ℕ) (s : List ℕ) (p : ℕ) → drop p s ≡ payload_of rs → length s ≤ p + f → AllBack f s p rs
unfolding joined starts_from
all_back [] f s p st h =
    let l : length s - p ≡ 0 = sym (length-drop p s) ∙ ap length st in
    let e : starts_from f s p ≡ [] = walk_stops f s p (past_end s p (omega arith)) in
    record { are = rw e; end = rw e (omega arith) }
all_back (r ∷ rs) zero s p st h =
    let b : Back s p r (payload_of rs) = sub_back s p r (payload_of rs) st in
    let e : end_at s p ≤ length s = whole_ends s p b.whole in
    absurd (omega arith)
all_back (r ∷ rs) (suc f) s p st h =
    let b : Back s p r (payload_of rs) = sub_back s p r (payload_of rs) st in
    let on : AllBack f s (end_at s p) rs = all_back rs f s (end_at s p) b.behind (omega arith) in
    record { are = rw (b.whole, b.is, on.are); end = rw b.whole on.end }

-- reading what was written gives the same sub-records, and what was written is not cut
pub subs_back : (rs : List Sub) → subs_of (payload_of rs) ≡ rs
unfolding subs_of starts
subs_back rs = (all_back rs (length (payload_of rs)) (payload_of rs) 0 refl (omega arith)).are

pub whole_back : (rs : List Sub) → is_cut (payload_of rs) ≡ false
unfolding is_cut starts
whole_back rs = le-ltb _ _ (all_back rs (length (payload_of rs)) (payload_of rs) 0 refl (omega arith)).end

-- the bytes of one that is whole, and of all
one_written : (s : List ℕ) (p : ℕ) → whole_at s p ≡ true → sub_bytes (sub_at s p) ++ drop (end_at s p) s ≡ drop p s
one_written s p w =
    let e : end_at s p ≤ length s = whole_ends s p w in
    let k : ℕ = end_at s p - (p + 2) in
    let n : k ≡ get_or s (p + 1) 0 = omega arith in
    let l : length (part s (p + 2) (end_at s p)) ≡ get_or s (p + 1) 0 = length-take-le k (drop (p + 2) s) (omega (arith, length-drop (p + 2) s)) ∙ n in
    let j : p + 2 + k ≡ end_at s p = omega arith in
    let t : part s (p + 2) (end_at s p) ++ drop (end_at s p) s ≡ drop (p + 2) s =
    ap (λ (i : ℕ). take k (drop (p + 2) s) ++ drop i s) (sym j) ∙ ap (◌++◌ (take k (drop (p + 2) s))) (sym (drop-drop k (p + 2) s))
    ∙ take-append-drop k (drop (p + 2) s) in
    let a : drop p s ≡ get_or s p 0 ∷ drop (p + 1) s = drop_one s p (p + 1) (omega arith) (omega arith) in
    let b : drop (p + 1) s ≡ get_or s (p + 1) 0 ∷ drop (p + 2) s = drop_one s (p + 1) (p + 2) (omega arith) (omega arith) in
    ap {B = List ℕ} (λ m. get_or s p 0 ∷ m ∷ part s (p + 2) (end_at s p) ++ drop (end_at s p) s) l
    ∙ ap {B = List ℕ} (λ r. get_or s p 0 ∷ get_or s (p + 1) 0 ∷ r) t ∙ sym (a ∙ ap (◌∷◌ (get_or s p 0)) b)

all_written : (f : ℕ) (s : List ℕ) (p : ℕ)
    → payload_of (map (sub_at s) (starts_from f s p)) ++ drop (end_from s p (starts_from f s p)) s ≡ drop p s
unfolding starts_from joined
all_written zero s p = refl
all_written (suc f) s p =
    cases (whole_at s p)
    (λ w.
    rw w
    (append_assoc (sub_bytes (sub_at s p)) _ _ ∙ ap (◌++◌ (sub_bytes (sub_at s p))) (all_written f s (end_at s p)) ∙ one_written s p w))
    (λ w. rw w)

pub payload_back : (s : List ℕ) → is_cut s ≡ false → payload_of (subs_of s) ≡ s
unfolding is_cut subs_of starts
payload_back s h =
    let n : drop (end_from s 0 (starts_from (length s) s 0)) s ≡ [] = drop_of_length-le s (ltb-false _ _ h) in
    sym (append-nil _) ∙ ap (◌++◌ (payload_of (map (sub_at s) (starts_from (length s) s 0)))) (sym n) ∙ all_written (length s) s 0

pub whole_exactly : (s : List ℕ) → (is_cut s ≡ false) ↔ (payload_of (subs_of s) ≡ s)
whole_exactly s = (payload_back s, (λ e. rw (← e) (whole_back (subs_of s))))
