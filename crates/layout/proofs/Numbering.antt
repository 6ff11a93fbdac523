-- Pages numbered slot by slot: after s slots, each has its page, and each page so far its slot.
use Prim.Native.Nat.{ℕ, ◌≤◌, ◌<◌, ◌+◌, suc}
use mathlib.Core.List.{List}
use mathlib.Core.Bool.{Bool, cond, true, false, ◌&&◌}
use mathlib.Core.Path.{◌≡◌, refl, ◌∙◌, sym, ap}
use native.Mathlib.Omega.{arith}
use native.Mathlib.Numerals.{add-one}
use lib.ListN.{length, get_or, replicate, length-replicate, get_or-replicate, set, length-set}
use lib.Dec.{eqb}
use Rattle.std.proofs.lemmas.List.{set-get_or}
use lib.Seq.{get_or-set_same, get_or-set_other}
use borrow.Author.Tests.{eqb-true, eq-eqb, eqb-false, ne_eqb}
use Rattle.basics.specs.Counts.{count, nth}
use Rattle.basics.specs.Laws.Tables.{Filled, filled_none, filled_more, filled_all, table_of}
use Rattle.basics.specs.Laws.Tests.{cases, and_false}
use Rattle.basics.specs.Tables.{table}
use Rattle.places.specs.Limits.{slots}
use Rattle.layout.specs.Code.Survey.{is_used, numbered_of}

pub record Numbering (used : List Bool) (page slot : List ℕ) (n s : ℕ) : Type 0 where
  pub up : s ≤ slots
  pub few : n ≤ s
  pub pages : n ≡ count (is_used used) s
  pub each : Filled 0 slots (count (is_used used)) s page
  pub long : length slot ≡ slots
  pub back : (i : ℕ) → i < slots → get_or slot i 0 ≡ nth (is_used used) s i

pub numbering_none : (used : List Bool) → Numbering used (replicate slots 0) (replicate slots 0) 0 0
unfolding count nth
numbering_none used =
    record {
      up = omega arith;
      few = omega arith;
      pages = refl;
      each = filled_none 0 slots (count (is_used used)) (replicate slots 0) (length-replicate {A = ℕ} slots 0);
      long = length-replicate {A = ℕ} slots 0;
      back = λ i h. get_or-replicate {A = ℕ} slots i 0 0 h;
    }

count_next : (f : ℕ → Bool) (s n k : ℕ) → n ≡ count f s → k ≡ cond (f s) 1 0 → n + k ≡ count f (s + 1)
unfolding count
count_next f s n k e q = rw (add-one, q, ← e) (by (f s))
  where
    by : (b : Bool) → n + cond b 1 0 ≡ cond b (suc n) n
    by true = omega arith
    by false = omega arith

nth_next : (f : ℕ → Bool) (s i : ℕ) → nth f (s + 1) i ≡ cond (f s && eqb (count f s) i) s (nth f s i)
unfolding nth
nth_next f s i = rw add-one

and_yes : (b c : Bool) → c ≡ true → b && c ≡ b
and_yes true c e = e
and_yes false c e = refl

module _ (used : List Bool) (page slot : List ℕ) (n s : ℕ) (c : Numbering used page slot n s) where
  numbering_by : s < slots → (v k : ℕ) → v ≡ cond (is_used used s) s (get_or slot n 0) → (k ≡ cond (is_used used s) 1 0) × (k ≤ 1)
      → Numbering used (set page s n) (set slot n v) (n + k) (s + 1)
  numbering_by h v k ev ek =
      record {
        up = omega arith;
        few = omega (arith, c.few, ek.1);
        pages = count_next (is_used used) s n k c.pages ek.0;
        each = filled_more 0 slots (count (is_used used)) s n page c.each h c.pages;
        long = length-set slot n v ∙ c.long;
        back =
            λ i l.
            cases (eqb i n)
            (λ q.
            let e : i ≡ n = eqb-true i n q in
            rw e
            (get_or-set_same slot n v 0 (omega (arith, c.long, c.few))
            ∙ ev
            ∙ rw (c.back n (omega (arith, c.few)))
            (sym (nth_next (is_used used) s n ∙ ap (λ (b : Bool). cond b s (nth (is_used used) s n)) (and_yes (is_used used s) _ (eq-eqb (count (is_used used) s) n (sym c.pages)))))))
            (λ q.
            let d : i ≡ n → ⊥ = eqb-false i n q in
            get_or-set_other slot n i v 0 d
            ∙ c.back i l
            ∙ sym
            (nth_next (is_used used) s i
            ∙ ap (λ (b : Bool). cond b s (nth (is_used used) s i)) (and_false (is_used used s) _ (ne_eqb (count (is_used used) s) i (λ z. d (sym (c.pages ∙ z)))))));
      }

  pub numbering_used : s < slots → is_used used s ≡ true → Numbering used (set page s n) (set slot n s) (n + 1) (s + 1)
  numbering_used h e = numbering_by h s 1 (rw e refl) (rw e refl, omega arith)

  pub numbering_free : s < slots → is_used used s ≡ false → Numbering used (set page s n) slot n (s + 1)
  numbering_free h e =
      let z : n + 0 ≡ n = omega arith in
      rw (set-get_or slot n 0, z) at (numbering_by h (get_or slot n 0) 0 (rw e refl) (rw e refl, omega arith))

  pub numbering_all : slots ≤ s → record { page = page; slot = slot; pages = n } ≡ numbered_of used
  unfolding numbered_of
  numbering_all h =
      let e : s ≡ slots = omega (arith, c.up) in
      let p : page ≡ table slots (count (is_used used)) = filled_all 0 slots (count (is_used used)) s page c.each h in
      let q : slot ≡ table slots (nth (is_used used) s) = table_of 0 slots (nth (is_used used) s) slot c.long c.back in
      let q' : slot ≡ table slots (nth (is_used used) slots) = q ∙ ap (λ (m : ℕ). table slots (nth (is_used used) m)) e in
      let r : n ≡ count (is_used used) slots = c.pages ∙ ap (count (is_used used)) e in
      cc
