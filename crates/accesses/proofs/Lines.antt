-- One line as the code reads it: a law for each way out.
use Prim.Native.Nat.{ℕ, suc, ◌+◌, ◌*◌, ◌≤◌}
use mathlib.Core.Path.{◌≡◌, refl, sym, ap, ◌∙◌}
use mathlib.Core.List.{List, [], ◌∷◌}
use mathlib.Core.Bool.{Bool, true, false, cond, not}
use native.Mathlib.Omega.{arith}
use lib.Dec.{eqb}
use lib.ListN.{length, get_or}
use borrow.Author.Tests.{eq-eqb, ne_eqb}
use Rattle.basics.specs.Lists.{part}
use Rattle.basics.specs.Laws.Tests.{cases, not-true, not-false, true_is_not_false}
use Rattle.places.specs.Places.{console}
use Rattle.text.specs.Bytes.{text}
use Rattle.text.specs.Lines.{line_end, past_end, next_line}
use Rattle.text.specs.Laws.Lines.{end_within}
use Rattle.text.specs.Spelling.{same, digit_of}
use Rattle.std.specs.Prelude.{Option as Maybe, Some, None}
use Rattle.accesses.specs.declared.Access.{Access}
use Rattle.accesses.specs.declared.Access.TheVariants.{Read, Write, Reset}
use Rattle.accesses.specs.Line.{digit_at, is_digit, digits_at, word_at, is_reset, is_read, is_write, line_says}
use Rattle.accesses.specs.Code.Steps.{says, digit_said, number_of}

-- a digit of the byte that stands there
pub no_digit : (l : List ℕ) (i b r : ℕ) → b ≡ get_or l i 0 → r ≡ digit_of b → r ≡ 16 → None ≡ digit_said l i
no_digit l i b r e f h = rw (eq-eqb (digit_at l i) 16 (ap digit_of (sym e) ∙ sym f ∙ h))

pub a_digit : (l : List ℕ) (i b r : ℕ) → b ≡ get_or l i 0 → r ≡ digit_of b → (r ≡ 16 → ⊥) → Some r ≡ digit_said l i
a_digit l i b r e f h =
    let q : r ≡ digit_at l i = f ∙ ap digit_of e in
    rw (ne_eqb (digit_at l i) 16 (λ p. h (q ∙ p)), q)

-- what a digit found says of the byte, and a number found of the digits
digit_is : (l : List ℕ) (i a : ℕ) → digit_said l i ≡ Some a → (is_digit l i ≡ true) × (digit_at l i ≡ a)
digit_is l i a h =
    cases (is_digit l i) (λ e. let q : Some (digit_at l i) ≡ Some a = rw e at h in (e, cc)) (λ e. let q : None ≡ Some a = rw e at h in cc)

digit_not : (l : List ℕ) (i : ℕ) → digit_said l i ≡ None → is_digit l i ≡ false
digit_not l i h = cases (is_digit l i) (λ e. let q : Some (digit_at l i) ≡ None = rw e at h in cc) (λ e. e)

number_is : (l : List ℕ) (i a : ℕ) → number_of l i ≡ Some a → (digits_at l i ≡ true) × (word_at l i ≡ a)
number_is l i a h =
    cases (digits_at l i) (λ e. let q : Some (word_at l i) ≡ Some a = rw e at h in (e, cc)) (λ e. let q : None ≡ Some a = rw e at h in cc)

number_not : (l : List ℕ) (i : ℕ) → number_of l i ≡ None → digits_at l i ≡ false
number_not l i h = cases (digits_at l i) (λ e. let q : Some (word_at l i) ≡ None = rw e at h in cc) (λ e. e)

-- four digits: the first, second, third or fourth is none, or all are
module _ (l : List ℕ) (i : ℕ) (v : Maybe ℕ) (e : v ≡ digit_said l i) where
  pub first_none : v ≡ None → None ≡ number_of l i
  unfolding digits_at
  first_none h = rw (digit_not l i (sym e ∙ h))

  module _ (a : ℕ) (h : v ≡ Some a) (w : Maybe ℕ) (f : w ≡ digit_said l (i + 1)) where
    one : (is_digit l i ≡ true) × (digit_at l i ≡ a)
    one = digit_is l i a (sym e ∙ h)

    pub second_none : w ≡ None → None ≡ number_of l i
    unfolding digits_at
    second_none k = rw (one.0, digit_not l (i + 1) (sym f ∙ k))

    module _ (b : ℕ) (k : w ≡ Some b) (x : Maybe ℕ) (g : x ≡ digit_said l (i + 2)) where
      two : (is_digit l (i + 1) ≡ true) × (digit_at l (i + 1) ≡ b)
      two = digit_is l (i + 1) b (sym f ∙ k)

      pub third_none : x ≡ None → None ≡ number_of l i
      unfolding digits_at
      third_none m = rw (one.0, two.0, digit_not l (i + 2) (sym g ∙ m))

      module _ (c : ℕ) (m : x ≡ Some c) (y : Maybe ℕ) (p : y ≡ digit_said l (i + 3)) where
        three : (is_digit l (i + 2) ≡ true) × (digit_at l (i + 2) ≡ c)
        three = digit_is l (i + 2) c (sym g ∙ m)

        pub fourth_none : y ≡ None → None ≡ number_of l i
        unfolding digits_at
        fourth_none n = rw (one.0, two.0, three.0, digit_not l (i + 3) (sym p ∙ n))

        pub all_four : (d : ℕ) → y ≡ Some d → Some (((a * 16 + b) * 16 + c) * 16 + d) ≡ number_of l i
        unfolding digits_at word_at
        all_four d n =
            let four = digit_is l (i + 3) d (sym p ∙ n) in
            rw (one.0, two.0, three.0, four.0, one.1, two.1, three.1, four.1)

-- texts that are the same are as long as each other
same_length : (s t : List ℕ) → same s t ≡ true → length s ≡ length t
unfolding same
same_length [] [] e = refl
same_length [] (c ∷ t) e = true_is_not_false e refl
same_length (b ∷ s) [] e = true_is_not_false e refl
same_length (b ∷ s) (c ∷ t) e =
    cases (eqb b c) (λ q. ap suc (same_length s t (rw q at e))) (λ q. let z : false ≡ true = rw q at e in true_is_not_false z refl)

not_reset : (l : List ℕ) → (length l ≡ 4 → ⊥) → is_reset l ≡ false
unfolding is_reset
not_reset l h = cases (same l (text "op=x")) (λ e. absurd (h (same_length l (text "op=x") e))) (λ e. e)

not_read : (l : List ℕ) → (length l ≡ 14 → ⊥) → is_read l ≡ false
unfolding is_read
not_read l h = rw (ne_eqb (length l) 14 h)

not_write : (l : List ℕ) → (length l ≡ 25 → ⊥) → is_write l ≡ false
unfolding is_write
not_write l h = rw (ne_eqb (length l) 25 h)

-- a line of any other length
pub said_none : (l : List ℕ) → (length l ≡ 14 → ⊥) → (length l ≡ 25 → ⊥) → (length l ≡ 4 → ⊥) → None ≡ says (line_says l)
unfolding line_says
said_none l h k m = rw (not_reset l m, not_read l h, not_write l k)

-- `op=x`
module _ (l : List ℕ) (b : Bool) (e : b ≡ same l (text "op=x")) where
  pub reset_said : b ≡ true → Some Reset ≡ says (line_says l)
  unfolding line_says is_reset
  reset_said h = rw (← e, h)

  pub reset_none : length l ≡ 4 → b ≡ false → None ≡ says (line_says l)
  unfolding line_says is_reset
  reset_none n h = rw (not_read l (λ q. omega arith), not_write l (λ q. omega arith), ← e, h)

-- `op=r addr=HHHH`
module _ (l : List ℕ) (n : length l ≡ 14) (b : Bool) (e : b ≡ same (part l 0 10) (text "op=r addr=")) where
  read_by : (d : Bool) → is_read l ≡ d → says (line_says l) ≡ cond d (Some (Read (console (word_at l 10)))) None
  unfolding line_says
  read_by true q = rw (not_reset l (λ q. omega arith), q)
  read_by false q = rw (not_reset l (λ q. omega arith), q, not_write l (λ q. omega arith))

  pub read_other : not b ≡ true → None ≡ says (line_says l)
  unfolding is_read
  read_other h = sym (read_by false (rw (eq-eqb (length l) 14 n, ← e, not-true b h)))

  pub read_none : (x : Maybe ℕ) → not b ≡ false → x ≡ number_of l 10 → x ≡ None → None ≡ says (line_says l)
  unfolding is_read
  read_none x h f g = sym (read_by false (rw (eq-eqb (length l) 14 n, ← e, not-false b h, number_not l 10 (sym f ∙ g))))

  pub read_said : (x : Maybe ℕ) (a : ℕ) → not b ≡ false → x ≡ number_of l 10 → x ≡ Some a → Some (Read (console a)) ≡ says (line_says l)
  unfolding is_read
  read_said x a h f g =
      let q = number_is l 10 a (sym f ∙ g) in
      ap (λ (v : ℕ). Some (Read (console v))) (sym q.1) ∙ sym (read_by true (rw (eq-eqb (length l) 14 n, ← e, not-false b h, q.0)))

-- `op=w addr=HHHH value=HHHH`
module _ (l : List ℕ) (n : length l ≡ 25) (b : Bool) (e : b ≡ same (part l 0 10) (text "op=w addr=")) where
  write_by_lem : (d : Bool) → is_write l ≡ d → says (line_says l) ≡ cond d (Some (Write (console (word_at l 10)) (word_at l 21))) None
  unfolding line_says
  write_by_lem true q = rw (not_reset l (λ q. omega arith), not_read l (λ q. omega arith), q)
  write_by_lem false q = rw (not_reset l (λ q. omega arith), not_read l (λ q. omega arith), q)

  pub write_other : not b ≡ true → None ≡ says (line_says l)
  unfolding is_write
  write_other h = sym (write_by_lem false (rw (eq-eqb (length l) 25 n, ← e, not-true b h)))

  module _ (h : not b ≡ false) (d : Bool) (f : d ≡ same (part l 14 21) (text " value=")) where
    pub write_third : not d ≡ true → None ≡ says (line_says l)
    unfolding is_write
    write_third g = sym (write_by_lem false (rw (eq-eqb (length l) 25 n, ← e, not-false b h, ← f, not-true d g)))

    module _ (g : not d ≡ false) (x : Maybe ℕ) (p : x ≡ number_of l 10) where
      pub write_first : x ≡ None → None ≡ says (line_says l)
      unfolding is_write
      write_first m = sym (write_by_lem false (rw (eq-eqb (length l) 25 n, ← e, not-false b h, ← f, not-false d g, number_not l 10 (sym p ∙ m))))

      module _ (a : ℕ) (m : x ≡ Some a) (y : Maybe ℕ) (q : y ≡ number_of l 21) where
        first : (digits_at l 10 ≡ true) × (word_at l 10 ≡ a)
        first = number_is l 10 a (sym p ∙ m)

        pub write_second : y ≡ None → None ≡ says (line_says l)
        unfolding is_write
        write_second k = sym (write_by_lem false (rw (eq-eqb (length l) 25 n, ← e, not-false b h, ← f, not-false d g, first.0, number_not l 21 (sym q ∙ k))))

        pub write_said : (v : ℕ) → y ≡ Some v → Some (Write (console a) v) ≡ says (line_says l)
        unfolding is_write
        write_said v k =
            let second = number_is l 21 v (sym q ∙ k) in
            rw (← first.1, ← second.1)
            (sym (write_by_lem true (rw (eq-eqb (length l) 25 n, ← e, not-false b h, ← f, not-false d g, first.0, second.0))))

-- the line that stands at a place
pub said_at : (s : List ℕ) (at e : ℕ) (r : Maybe Access) → e ≡ line_end s at → r ≡ says (line_says (part s at e)) → r ≡ says (line_says (part s at (line_end s at)))
said_at s at e r p q = q ∙ ap (λ (k : ℕ). says (line_says (part s at k))) p

pub next_end : (s : List ℕ) (at e n : ℕ) → e ≡ line_end s at → n ≡ past_end s e → n ≡ next_line s at
next_end s at e n p q = q ∙ ap (past_end s) p

pub line_within : (s : List ℕ) (at e : ℕ) → e ≡ line_end s at → at ≤ length s → e ≤ length s
line_within s at e p h = omega (arith, end_within s at h)
