-- Laws of sign and size: a word's number is the integer that it stands for, and a number in range is read back as it was written.
use Rattle.std.specs.Prelude.{ℕ, zero, suc, ◌+◌, ◌-◌, ◌*◌, ◌/◌, ◌%◌, ◌<◌, ◌≤◌, Bool, true, false, cond, ◌&&◌, ◌⊎◌, ◌≡◌, refl, leb, ℤ, pos, negsuc, neg_ℤ, nat_abs, ◌+ℤ◌, ◌*ℤ◌}
use Rattle.std.proofs.Common.{inl, inr, sym, ap, ◌∙◌, mod-eq_of_lt, arith, le-leb, leb-true, leb-false}
use Rattle.std.proofs.Math.Nat.{mod_self}
use Rattle.std.proofs.Math.IntN.{pos-+ℤ-pos, neg_ℤ-+ℤ, pos-*ℤ-pos, pos-*ℤ-negsuc, negsuc-*ℤ-pos, negsuc-*ℤ-negsuc, zero-*ℤ, *ℤ-zero}
use Rattle.std.proofs.lemmas.Bool.{lt-leb}
use Rattle.basics.specs.Laws.Tests.{cases, true_is_not_false}
use Rattle.jlp.specs.declared.arith.Number.{Number}
use Rattle.jlp.specs.Arith.{word_values, number, number_of, word_of, unlike}
use Rattle.jlp.specs.Values.{integer_of, value_of}

-- the integer of a sign and a size
abbrev pub signed : Bool → ℕ → ℤ
signed true k = neg_ℤ (pos k)
signed false k = pos k

pub size_of : (n : Bool) (k : ℕ) → nat_abs (signed n k) ≡ k
size_of false k = refl
size_of true zero = refl
size_of true (suc k) = refl

pub times : (a b : Bool) (m n : ℕ) → signed a m *ℤ signed b n ≡ signed (unlike a b) (m * n)
times false false m n = pos-*ℤ-pos m n
times false true m zero = *ℤ-zero (pos m) ∙ ap (λ (k : ℕ). neg_ℤ (pos k)) {x = 0} {y = m * 0} (omega arith)
times false true m (suc n) = pos-*ℤ-negsuc m n
times true false zero n = zero-*ℤ (pos n) ∙ ap (λ (k : ℕ). neg_ℤ (pos k)) {x = 0} {y = 0 * n} (omega arith)
times true false (suc m) n = negsuc-*ℤ-pos m n
times true true zero n = zero-*ℤ (neg_ℤ (pos n)) ∙ ap pos {x = 0} {y = 0 * n} (omega arith)
times true true (suc m) zero = *ℤ-zero (negsuc m) ∙ ap pos {x = 0} {y = suc m * 0} (omega arith)
times true true (suc m) (suc n) = negsuc-*ℤ-negsuc m n

pub plus : (a : Bool) (m n : ℕ) → signed a m +ℤ signed a n ≡ signed a (m + n)
plus false m n = pos-+ℤ-pos m n
plus true m n = sym (neg_ℤ-+ℤ (pos m) (pos n)) ∙ ap neg_ℤ (pos-+ℤ-pos m n)

-- a word's number is its integer, by sign and size
abbrev pub valued : Number → ℤ
valued n = signed n.negative n.size

pub value_is : (s : Bool) (w : ℕ) → value_of s w ≡ valued (number_of s w)
value_is s w = by (s && leb 0x8000 w)
  where
    by : (b : Bool) → cond b (neg_ℤ (pos (word_values - w))) (pos w) ≡ valued (cond b (number true (word_values - w)) (number false w))
    by true = refl
    by false = refl

-- the sign and the size of a word's number; a signed one is at most 32,768, which is negative
pub record Signs (s : Bool) (w : ℕ) (n : Number) : Type 0 where
  pub most : n.size < word_values
  pub half : s ≡ true → n.size ≤ 0x8000
  pub some : (w ≡ 0 → ⊥) → 0 < n.size
  pub plain : s ≡ false → n.negative ≡ false
  pub least : s ≡ true → n.size ≡ 0x8000 → (w ≡ 0x8000) × (n.negative ≡ true)
  pub minus : n.size ≡ 1 → n.negative ≡ true → w ≡ 0xFFFF

pub signs : (s : Bool) (w : ℕ) → w < word_values → Signs s w (number_of s w)
signs false w h =
    record {
      most = h;
      half = λ e. true_is_not_false e refl;
      some = λ z. omega arith;
      plain = λ e. refl;
      least = λ e. true_is_not_false e refl;
      minus = λ z e. true_is_not_false e refl;
    }
signs true w h =
    cases (leb 0x8000 w)
    (λ e.
    let l : 0x8000 ≤ w = leb-true _ _ e in
    rw e
    (record {
      most = omega arith;
      half = λ t. omega arith;
      some = λ z. omega arith;
      plain = λ t. true_is_not_false refl t;
      least = λ t z. (omega arith, refl);
      minus = λ z t. omega arith;
    }))
    (λ e.
    let l : w < 0x8000 = leb-false _ _ e in
    rw e
    (record {
      most = h;
      half = λ t. omega arith;
      some = λ z. omega arith;
      plain = λ t. refl;
      least = λ t z. absurd (omega arith);
      minus = λ z t. true_is_not_false t refl;
    }))

-- a number in the range of m values, half of them negative
abbrev pub InRange : ℕ → Bool → ℕ → Type 0
InRange half n k = (k < half) ⊎ ((n ≡ true) × (k ≡ half))

module _ (m half : ℕ) (two : m ≡ half + half) (some : 0 < half) where
  signed_back : (n : Bool) (k : ℕ) → InRange half n k → integer_of m true (word_of m n k) ≡ signed n k
  signed_back false k (inl h) = rw (lt-leb (m / 2) k (omega arith))
  signed_back false k (inr h) = true_is_not_false h.0 refl
  signed_back true zero h = let z : m - 0 ≡ m = omega arith in rw (z, mod_self m, lt-leb (m / 2) 0 (omega arith))
  signed_back true (suc k) h =
      let w : suc k ≤ half = small h in
      let d : (m - suc k) % m ≡ m - suc k = mod-eq_of_lt (omega arith) in
      let b : m - (m - suc k) ≡ suc k = omega arith in
      rw (d, le-leb (m / 2) (m - suc k) (omega arith), b)
    where
      small : InRange half true (suc k) → suc k ≤ half
      small (inl l) = omega arith
      small (inr e) = omega (arith, e.1)

  -- it is read back as it was written; one that is not signed has no sign
  pub back : (s n : Bool) (k : ℕ) → (s ≡ false → n ≡ false) → (s ≡ true → InRange half n k) → integer_of m s (word_of m n k) ≡ signed n k
  back true n k p h = signed_back n k (h refl)
  back false n k p h = rw (p refl)
