-- Laws of bankswitches: the loop that makes one, what each entry of the mapping then is, and how two of them and a flip go together.
use Rattle.std.specs.Prelude.{◌≡◌, ℕ, zero, suc, ◌+◌, ◌*◌, ◌/◌, ◌%◌, ◌<◌, ◌≤◌, Bool, true, false, cond, ◌&&◌, ◌⊎◌, List, [], ◌∷◌, length, ◌==◌, ◌≢◌, nat_le, slice_index, refl, Some, None}
use Rattle.std.proofs.Math.Path.{ap}
use Rattle.std.proofs.Common.{◌∙◌, eqb-true, ne_eqb}
use Rattle.std.proofs.Math.Logic.{inl, inr}
use native.Mathlib.Omega.{arith}
use Rattle.std.proofs.lemmas.Bool.{eqb-false}
use Rattle.basics.specs.Lists.{laid}
use Rattle.basics.specs.Laws.Lists.{laid_out, laid_in}
use Rattle.basics.specs.Laws.Tests.{compare, cases}
use Rattle.places.specs.Limits.{chapter_pages, chapter_paragraphs}
use Rattle.places.specs.declared.Console.{Console}
use Rattle.places.specs.Places.{console}
use Rattle.switches.specs.Flips.{Active, first_k, flip_permissions, flipped}
use Rattle.switches.specs.Banks.{half_page_paragraphs, register_at, BANKSW, banked, number_from, switched, bankswitched}
use Rattle.switches.specs.Laws.Flips.{length_turned, turned_in, turned_out, turned_at}

-- past the table there is no entry
pub get_d_past : (l : List ℕ) (p : ℕ) → length l ≤ p → slice_index l p ≡ 0
get_d_past [] p h = refl
get_d_past (x ∷ xs) zero h = absurd (omega arith)
get_d_past (x ∷ xs) (suc p) h = get_d_past xs p (omega arith)

-- the loop, done
pub switched_all : (h v j : ℕ) (t m : List ℕ) → j ≤ half_page_paragraphs → half_page_paragraphs ≤ j
    → t ≡ laid (half_page_paragraphs * h) j (number_from v) m → t ≡ switched h v m
unfolding switched
switched_all h v j t m a b q = let d : j ≡ half_page_paragraphs = omega arith in rw d at q

-- by its rule: entry p, number p % 8 of its half-page, takes its number where the half-page is h, or keeps its own
module _ (h v : ℕ) (m : List ℕ) (p : ℕ) where
  pub switched_in : p < length m → p / half_page_paragraphs ≡ h → slice_index (switched h v m) p ≡ number_from v (p % half_page_paragraphs)
  unfolding switched
  switched_in s e =
      let i : p ≡ half_page_paragraphs * h + p % half_page_paragraphs = omega arith in
      ap (λ (q : ℕ). slice_index (laid (half_page_paragraphs * h) half_page_paragraphs (number_from v) m) q) i
      ∙ laid_in (half_page_paragraphs * h) (number_from v) m half_page_paragraphs (p % half_page_paragraphs) (omega arith) (omega arith)

  pub switched_out : (p / half_page_paragraphs ≢ h) → slice_index (switched h v m) p ≡ slice_index m p
  unfolding switched
  switched_out n = laid_out (half_page_paragraphs * h) (number_from v) m half_page_paragraphs p (side (compare (p / half_page_paragraphs) h))
    where
      side : (p / half_page_paragraphs ≡ h) ⊎ ((p / half_page_paragraphs < h) ⊎ (h < p / half_page_paragraphs))
          → (p < half_page_paragraphs * h) ⊎ (half_page_paragraphs * h + half_page_paragraphs ≤ p)
      side (inl e) = absurd (n e)
      side (inr (inl l)) = inl (omega arith)
      side (inr (inr l)) = inr (omega arith)

  pub switched_at : p < length m
      → slice_index (switched h v m) p ≡ cond (p / half_page_paragraphs == h) (number_from v (p % half_page_paragraphs)) (slice_index m p)
  switched_at s =
      cases (p / half_page_paragraphs == h) (λ e. rw e (switched_in s (eqb-true _ _ e))) (λ e. rw e (switched_out (eqb-false _ _ e)))

-- the registers stand at $0040-$005F
pub register_low : (at : Console) (h : ℕ) → register_at at ≡ Some h → at.0 < 0x60
unfolding register_at
register_low at h e =
    cases (at.0 / 0x10 == 4) (λ a. omega (arith, eqb-true (at.0 / 0x10) 4 a))
    (λ a.
    cases (at.0 / 0x10 == 5) (λ b. omega (arith, eqb-true (at.0 / 0x10) 5 b))
    (λ b. let q : None ≡ Some h = rw (a, b) at e in let z : ◌≡◌ {A = ℕ} 0 1 = cc in absurd (omega arith)))

-- the two registers of chapter x move disjoint halves of it: $x000-$x7FF and $x800-$xFFF
pub record Halves (x v : ℕ) (a : Active) : Type 0 where
  pub lower : register_at (console (0x40 + x)) ≡ Some (16 * x)
  pub upper : register_at (console (0x50 + x)) ≡ Some (16 * x + 8)
  pub lower_moves : (p : ℕ) → (p / 16 ≡ x → 8 ≤ p % 16) → slice_index (bankswitched (16 * x) v a).mapping p ≡ slice_index a.mapping p
  pub upper_moves : (p : ℕ) → (p / 16 ≡ x → p % 16 < 8) → slice_index (bankswitched (16 * x + 8) v a).mapping p ≡ slice_index a.mapping p

pub halves : (x : ℕ) → x < 16 → (v : ℕ) (a : Active) → Halves x v a
unfolding register_at
halves x h v a =
    let l : (0x40 + x) / 0x10 ≡ 4 = omega arith in
    let u : (0x50 + x) / 0x10 ≡ 5 = omega arith in
    let d : (0x40 + x) % 0x10 ≡ x = omega arith in
    let e : (0x50 + x) % 0x10 ≡ x = omega arith in
    record {
      lower = rw (l, d);
      upper = rw (u, e);
      lower_moves = λ p k. switched_out (16 * x / 8) v a.mapping p (λ q. omega (arith, k (omega arith)));
      upper_moves = λ p k. switched_out ((16 * x + 8) / 8) v a.mapping p (λ q. omega (arith, k (omega arith)));
    }

-- BANKSW survives a switch, so that the next one acts
pub switch_keeps : (p v : ℕ) (a : Active) (q : ℕ) → banked (bankswitched p v a).permissions q ≡ banked a.permissions q
switch_keeps p v a q = refl

low_bits : (e : ℕ) → BANKSW (e % 8) ≡ false
low_bits e = ne_eqb (e % 8 / 8 % 2) 1 (λ q. omega arith)

either : (b : Bool) (e x : ℕ) → BANKSW x ≡ false → BANKSW (cond b (e % 8) x) ≡ false
either true e x h = low_bits e
either false e x h = h

-- a flip clears it in the paragraphs that it changes, and in no other
module _ (flips : List ℕ) (n : ℕ) (a : Active) (p : ℕ) where
  pub flip_clears : p < length a.permissions → p / chapter_paragraphs ≡ n / chapter_pages → first_k (n / chapter_pages) ≤ p % chapter_paragraphs
      → BANKSW (slice_index (flipped flips n a).permissions p) ≡ false
  flip_clears s e l =
      rw (turned_in (n / chapter_pages) (flip_permissions (slice_index flips n)) a.permissions p s e l)
      (low_bits (slice_index flips n))

  pub flip_spares : (p / chapter_paragraphs ≡ n / chapter_pages → p % chapter_paragraphs < first_k (n / chapter_pages))
      → slice_index (flipped flips n a).permissions p ≡ slice_index a.permissions p
  flip_spares o = turned_out (n / chapter_pages) (flip_permissions (slice_index flips n)) a.permissions p o

  -- so no flip sets it
  pub flip_leaves_clear : BANKSW (slice_index a.permissions p) ≡ false → BANKSW (slice_index (flipped flips n a).permissions p) ≡ false
  flip_leaves_clear h = by (compare p (length a.permissions))
    where
      past : length a.permissions ≤ p → BANKSW (slice_index (flipped flips n a).permissions p) ≡ false
      past l =
          rw (get_d_past (flipped flips n a).permissions p (omega (arith, length_turned (n / chapter_pages) (flip_permissions (slice_index flips n)) a.permissions)))

      by : (p ≡ length a.permissions) ⊎ ((p < length a.permissions) ⊎ (length a.permissions < p))
          → BANKSW (slice_index (flipped flips n a).permissions p) ≡ false
      by (inl e) = past (omega arith)
      by (inr (inr l)) = past (omega arith)
      by (inr (inl l)) =
          rw (turned_at (n / chapter_pages) (flip_permissions (slice_index flips n)) a.permissions p l)
          (either (p / chapter_paragraphs == n / chapter_pages && nat_le (first_k (n / chapter_pages)) (p % chapter_paragraphs)) (slice_index flips n) (slice_index a.permissions p) h)
