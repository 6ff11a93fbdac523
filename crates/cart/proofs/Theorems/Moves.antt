-- How much a write may move (02, W-212): the paragraphs in reach of its taker are as many as it reports, at most 16, and take what the
-- taker gives them; every other keeps its mapping and its permissions.
use Rattle.std.specs.Prelude.{◌≡◌, ℕ, zero, suc, ◌+◌, ◌-◌, ◌*◌, ◌/◌, ◌%◌, ◌<◌, ◌≤◌, Bool, true, false, cond, ◌&&◌, ◌⊎◌, List, length, ◌==◌, ◌≢◌, nat_le, nat_lt, slice_index, slice_index_or}
use Rattle.std.proofs.Math.Path.{refl}
use Rattle.std.proofs.Common.{ap, ◌∙◌, inl, inr}
use native.Mathlib.Omega.{arith}
use borrow.Author.Tests.{lt-ltb, le-ltb, le-leb, lt-leb}
use Rattle.basics.specs.Counts.{count}
use Rattle.basics.specs.Laws.Tests.{cases, compare, and_left, true_is_not_false}
use Rattle.places.specs.declared.Console.{Console}
use Rattle.places.specs.Limits.{paragraphs, chapter_pages, chapter_paragraphs, flip_entries}
use Rattle.switches.specs.Flips.{Active, asks, PFE, acts, first_k, flip_mapping, flip_permissions, flip_from, flip_size}
use Rattle.switches.specs.Banks.{half_page_paragraphs, register_at, banked, number_from}
use Rattle.switches.specs.Laws.Flips.{first_small, turned_in, turned_out}
use Rattle.switches.specs.Laws.Banks.{get_d_past, switched_in, switched_out}
use Rattle.jlp.specs.declared.Jlp.{Jlp}
use Rattle.jlp.specs.Window.{in_ram}
use Rattle.jlp.specs.Accelerators.{takes}
use Rattle.cart.specs.declared.Taker.{Taker}
use Rattle.cart.specs.declared.Taker.TheVariants.{Accelerators, Bank, Flip, Ram}
use Rattle.cart.specs.Cells.{cell_at, window_cell}
use Rattle.cart.specs.Writes.{window_taker, jlp_taker, bank_taker, flip_taker, mapped_taker, taker_of, left_by, leaves, assigned_by, assigned}

-- the first paragraph that a taker assigns; with `assigned_by` it says which
abbrev pub first_by : Taker → ℕ
first_by Accelerators = 0
first_by (Bank q first) = half_page_paragraphs * (q / half_page_paragraphs)
first_by (Flip n) = flip_from n
first_by (Ram c) = 0

-- paragraph p is among them
abbrev pub in_reach : Taker → ℕ → Bool
in_reach t p = nat_le (first_by t) p && nat_lt p (first_by t + assigned_by t)

-- what p's mapping entry is then given
abbrev pub given_to : Taker → List ℕ → ℕ → ℕ
given_to Accelerators flips p = 0
given_to (Bank q first) flips p = number_from first (p % half_page_paragraphs)
given_to (Flip n) flips p = flip_mapping (slice_index flips n) (p % chapter_paragraphs)
given_to (Ram c) flips p = 0

-- never above 16
most_by : (t : Taker) → assigned_by t ≤ 16
most_by Accelerators = omega arith
most_by (Bank q first) = omega arith
most_by (Flip n) = omega arith
most_by (Ram c) = omega arith

pub at_most_16 : (j : Jlp) (a : Active) (flips : List ℕ) (at : Console) (v : ℕ) → assigned j a flips at v ≤ 16
unfolding assigned
at_most_16 j a flips at v = most_by (taker_of j a flips at v)

-- outside its reach nothing changes
pub record Kept (a b : Active) (p : ℕ) : Type 0 where
  pub mapping : slice_index_or b.mapping p 0 ≡ slice_index a.mapping p
  pub permissions : slice_index_or b.permissions p 0 ≡ slice_index a.permissions p

outside_by : (t : Taker) (a : Active) (flips : List ℕ) (p : ℕ) → (p < first_by t) ⊎ (first_by t + assigned_by t ≤ p) → Kept a (left_by t a flips) p
outside_by Accelerators a flips p o = record { mapping = refl; permissions = refl }
outside_by (Bank q first) a flips p o =
    record { mapping = switched_out (q / half_page_paragraphs) first a.mapping p (apart o); permissions = refl }
  where
    apart : (p < first_by (Bank q first)) ⊎ (first_by (Bank q first) + half_page_paragraphs ≤ p) → p / half_page_paragraphs ≢ q / half_page_paragraphs
    apart (inl l) e = omega arith
    apart (inr l) e = omega arith
outside_by (Flip n) a flips p o =
    record {
      mapping = turned_out (n / chapter_pages) (flip_mapping (slice_index flips n)) a.mapping p (below o);
      permissions = turned_out (n / chapter_pages) (flip_permissions (slice_index flips n)) a.permissions p (below o);
    }
  where
    below : (p < first_by (Flip n)) ⊎ (first_by (Flip n) + flip_size n ≤ p) → p / chapter_paragraphs ≡ n / chapter_pages → p % chapter_paragraphs < first_k (n / chapter_pages)
    below (inl l) e = omega arith
    below (inr l) e = absurd (omega (arith, first_small (n / chapter_pages)))
outside_by (Ram c) a flips p o = record { mapping = refl; permissions = refl }

pub outside : (j : Jlp) (a : Active) (flips : List ℕ) (at : Console) (v p : ℕ)
    → (p < first_by (taker_of j a flips at v)) ⊎ (first_by (taker_of j a flips at v) + assigned j a flips at v ≤ p) → Kept a (leaves j a flips at v) p
unfolding leaves assigned
outside j a flips at v p o = outside_by (taker_of j a flips at v) a flips p o

-- within its reach each entry is assigned, whatever it held
inside_by : (t : Taker) (a : Active) (flips : List ℕ) (p : ℕ) → p < length a.mapping → first_by t ≤ p → p < first_by t + assigned_by t
    → slice_index (left_by t a flips).mapping p ≡ given_to t flips p
inside_by Accelerators a flips p s l h = absurd (omega arith)
inside_by (Bank q first) a flips p s l h = switched_in (q / half_page_paragraphs) first a.mapping p s (omega arith)
inside_by (Flip n) a flips p s l h =
    let f = first_small (n / chapter_pages) in
    turned_in (n / chapter_pages) (flip_mapping (slice_index flips n)) a.mapping p s (omega (arith, f)) (omega (arith, f))
inside_by (Ram c) a flips p s l h = absurd (omega arith)

pub inside : (j : Jlp) (a : Active) (flips : List ℕ) (at : Console) (v p : ℕ) → p < length a.mapping
    → first_by (taker_of j a flips at v) ≤ p → p < first_by (taker_of j a flips at v) + assigned j a flips at v
    → slice_index (leaves j a flips at v).mapping p ≡ given_to (taker_of j a flips at v) flips p
unfolding leaves assigned
inside j a flips at v p s l h = inside_by (taker_of j a flips at v) a flips p s l h

-- as many as reported: a window of n numbers from a on
module _ (a n : ℕ) where
  abbrev window : ℕ → Bool
  window p = nat_le a p && nat_lt p (a + n)

  before : (k : ℕ) → k ≤ a → count window k ≡ 0
  unfolding count
  before zero h = refl
  before (suc k) h = rw (lt-leb a k (omega arith)) (before k (omega arith))

  up_to : (j : ℕ) → j ≤ n → count window (a + j) ≡ j
  unfolding count
  up_to zero h = let e : a + 0 ≡ a = omega arith in rw e (before a (omega arith))
  up_to (suc j) h =
      let e : a + suc j ≡ suc (a + j) = omega arith in
      rw (e, le-leb a (a + j) (omega arith), lt-ltb (a + j) (a + n) (omega arith)) (ap suc (up_to j (omega arith)))

  behind : (j : ℕ) → count window (a + n + j) ≡ n
  unfolding count
  behind zero = let e : a + n + 0 ≡ a + n = omega arith in rw e (up_to n (omega arith))
  behind (suc j) =
      let e : a + n + suc j ≡ suc (a + n + j) = omega arith in
      rw (e, le-leb a (a + n + j) (omega arith), le-ltb (a + n + j) (a + n) (omega arith)) (behind j)

  window_count : (k : ℕ) → a + n ≤ k → count window k ≡ n
  window_count k h = let e : k ≡ a + n + (k - (a + n)) = omega arith in ap (count window) e ∙ behind (k - (a + n))

-- what a taker assigns lies within the table
abbrev pub Fits : Taker → Type 0
Fits t = first_by t + assigned_by t ≤ paragraphs

fits_by : (b : Bool) (t u : Taker) → Fits t → Fits u → Fits (cond b t u)
fits_by true t u f g = f
fits_by false t u f g = g

bank_fits : (permissions : List ℕ) (at : Console) (v : ℕ) (next : Taker) → Fits next → Fits (bank_taker permissions (register_at at) v next)
unfolding register_at
bank_fits permissions at v next f =
    cases (at.0 / 0x10 == 4) (λ e. rw e (one (chapter_paragraphs * (at.0 % 0x10)) (omega arith)))
    (λ e.
    cases (at.0 / 0x10 == 5) (λ d. rw (e, d) (one (chapter_paragraphs * (at.0 % 0x10) + half_page_paragraphs) (omega arith))) (λ d. rw (e, d) f))
  where
    one : (q : ℕ) → q < paragraphs → Fits (cond (banked permissions q) (Bank q (v % 256)) next)
    one q h = fits_by (banked permissions q) (Bank q (v % 256)) next (omega arith) f

flip_fits : (flips : List ℕ) (at : Console) (v : ℕ) (next : Taker) → length flips ≡ flip_entries → Fits next → Fits (flip_taker flips (asks at v) next)
unfolding asks
flip_fits flips at v next s f =
    cases (at.0 % 0x1000 == 0xFFF && (v / 0x1000 == at.0 / 0x1000 && v / 16 % 256 == 0xA5))
    (λ e. rw e (one (v / 0x1000 * chapter_pages + v % chapter_pages))) (λ e. rw e f)
  where
    -- past the flip table no entry acts
    below : (n : ℕ) → PFE (slice_index flips n) ≡ true → (n ≡ flip_entries) ⊎ ((n < flip_entries) ⊎ (flip_entries < n)) → n < flip_entries
    below n e (inr (inl l)) = l
    below n e (inl q) = true_is_not_false e (rw (get_d_past flips n (omega arith)))
    below n e (inr (inr l)) = true_is_not_false e (rw (get_d_past flips n (omega arith)))

    one : (n : ℕ) → Fits (cond (acts flips n) (Flip n) next)
    one n =
        cases (acts flips n)
        (λ e.
        let l : n < flip_entries = below n (and_left (PFE (slice_index flips n)) _ e) (compare n flip_entries) in
        rw e (omega (arith, first_small (n / chapter_pages)))) (λ e. rw e f)

jlp_fits : (j : Jlp) (at : Console) (v : ℕ) (next : Taker) → Fits next → Fits (jlp_taker j at v next)
jlp_fits j at v next f =
    fits_by (takes j at v) (window_taker at) next
    (fits_by (in_ram at) (Ram (window_cell at)) Accelerators (omega arith) (omega arith)) f

pub takes_within : (j : Jlp) (a : Active) (flips : List ℕ) (at : Console) (v : ℕ) → length flips ≡ flip_entries → Fits (taker_of j a flips at v)
takes_within j a flips at v s =
    jlp_fits j at v (mapped_taker a flips at v)
    (bank_fits a.permissions at v (flip_taker flips (asks at v) (Ram (cell_at a at))) (flip_fits flips at v (Ram (cell_at a at)) s (omega arith)))

pub counted : (j : Jlp) (a : Active) (flips : List ℕ) (at : Console) (v : ℕ) → length flips ≡ flip_entries
    → count (in_reach (taker_of j a flips at v)) paragraphs ≡ assigned j a flips at v
unfolding assigned
counted j a flips at v s =
    window_count (first_by (taker_of j a flips at v)) (assigned_by (taker_of j a flips at v)) paragraphs (takes_within j a flips at v s)
