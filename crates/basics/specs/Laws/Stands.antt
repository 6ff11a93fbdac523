-- What stands at a place of a list: `drop p s ≡ x ++ r` says that from place p of s there is x, and then r.
use Rattle.std.specs.Prelude.{ℕ, ◌+◌, ◌<◌, ◌-◌, ◌*◌, ◌%◌, ◌/◌, List, ◌++◌, ◌≡◌, drop, get_or, length, take}
use Rattle.std.proofs.Common.{ap, ◌∙◌, sym, arith, length-drop, length-append, get_or-drop, drop-drop}
use Rattle.std.proofs.Math.ListN.{get_or-append}
use Rattle.std.proofs.Math.Seq.{drop-append_seam, take-append_seam}
use Rattle.basics.specs.Lists.{part}
use Rattle.basics.specs.Bytes.{bytes16, at16}
use Rattle.basics.specs.Laws.Bytes.{length_bytes16, bytes16_low, bytes16_high}

module _ (s : List ℕ) (p : ℕ) (x r : List ℕ) (st : drop p s ≡ x ++ r) where
  -- an element
  pub stands_at : (i q : ℕ) → q ≡ p + i → get_or s q 0 ≡ get_or (x ++ r) i 0
  stands_at i q e = ap (λ (k : ℕ). get_or s k 0) e ∙ sym (get_or-drop p s i 0) ∙ ap (λ (l : List ℕ). get_or l i 0) st

  pub stands_in : (i q : ℕ) → q ≡ p + i → i < length x → get_or s q 0 ≡ get_or x i 0
  stands_in i q e h = stands_at i q e ∙ get_or-append x r 0 i h

  -- what comes after
  pub stands_after : (q : ℕ) → q ≡ p + length x → drop q s ≡ r
  stands_after q e = ap (λ (k : ℕ). drop k s) e ∙ sym (drop-drop (length x) p s) ∙ ap (drop (length x)) st ∙ drop-append_seam x r

  -- the part itself
  pub stands_part : (q : ℕ) → q ≡ p + length x → part s p q ≡ x
  stands_part q e =
      let k : q - p ≡ length x = omega arith in
      ap (λ (n : ℕ). take n (drop p s)) k ∙ ap (take (length x)) st ∙ take-append_seam x r

  -- the length of all
  pub stands_length : length s - p ≡ length x + length r
  stands_length = sym (length-drop p s) ∙ ap length st ∙ length-append x r

-- word i of the words that stand at p
pub stands_word : (s : List ℕ) (p : ℕ) (ws r : List ℕ) → drop p s ≡ bytes16 ws ++ r → (i q : ℕ) → q ≡ p + 2 * i → i < length ws → at16 s q ≡ get_or ws i 0
stands_word s p ws r st i q e h =
    let l : length (bytes16 ws) ≡ 2 * length ws = length_bytes16 ws in
    let a : get_or s q 0 ≡ get_or ws i 0 % 256 = stands_in s p (bytes16 ws) r st (2 * i) q e (omega arith) ∙ bytes16_low ws i in
    let b : get_or s (q + 1) 0 ≡ get_or ws i 0 / 256 = stands_in s p (bytes16 ws) r st (2 * i + 1) (q + 1) (omega arith) (omega arith) ∙ bytes16_high ws i in
    omega arith
