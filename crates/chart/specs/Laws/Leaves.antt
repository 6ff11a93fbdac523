-- What a flip entry's leaf promises: once the entry has acted, an address that it changes reaches its own word of that page, and on a silent leaf a read gets
-- silence.
use Rattle.std.specs.Prelude.{ℕ, ◌<◌, ◌≤◌, ◌+◌, ◌*◌, ◌/◌, ◌%◌, true, false, List, eqb, length, get_or}
use Rattle.std.proofs.Math.Path.{◌≡◌, ap}
use Rattle.std.proofs.Common.{◌∙◌, arith}
use Rattle.basics.specs.Laws.Tests.{cases}
use Rattle.places.specs.declared.Console.{Console}
use Rattle.places.specs.Limits.{chapter_pages, chapter_paragraphs, paragraph_size, page_size, lent_limit}
use Rattle.places.specs.Places.{locutus}
use Rattle.switches.specs.Flips.{Active, acts, first_k, flip_mapping, flip_permissions, flipped, flip_from, flip_size}
use Rattle.switches.specs.Laws.Flips.{first_small, turned_in}
use Rattle.cart.specs.Cells.{READ, paragraph, locate, cell_at}
use Rattle.chart.specs.declared.Leaf.{Leaf}
use Rattle.chart.specs.declared.Leaf.TheVariants as Leaves
use Rattle.chart.specs.Chart.{page_of, leaf_at}

-- the place of an address in the page that entry e names, and READ in its low three bits
place : (e a : ℕ) → ((e / 16 * 16 + a / paragraph_size % chapter_paragraphs) * paragraph_size + a % paragraph_size) % lent_limit ≡ page_of e * page_size + a % page_size
place e a = omega arith

low_bit : (e : ℕ) → e % 8 % 2 ≡ e % 2
low_bit e = omega arith

-- the page of a leaf, and which leaf it is
abbrev page_in : Leaf → ℕ
page_in Leaves.Idle = 0
page_in Leaves.Silent = 0
page_in (Leaves.Page l) = l

abbrev sort : Leaf → ℕ
sort Leaves.Idle = 0
sort Leaves.Silent = 1
sort (Leaves.Page l) = 2

module _ (flips : List ℕ) (n : ℕ) where
  abbrev entry : ℕ
  entry = get_or flips n 0

  of_page : (l : ℕ) → leaf_at flips n ≡ Leaves.Page l → (READ entry ≡ true) × (page_of entry ≡ l)
  unfolding leaf_at
  of_page l h =
      cases (acts flips n)
      (λ t.
      cases (READ entry) (λ r. (r, ap page_in (rw (t, r) at h))) (λ r. let z : ◌≡◌ {A = ℕ} 1 2 = ap sort (rw (t, r) at h) in absurd (omega arith)))
      (λ t. let z : ◌≡◌ {A = ℕ} 0 2 = ap sort (rw t at h) in absurd (omega arith))

  of_silent : leaf_at flips n ≡ Leaves.Silent → READ entry ≡ false
  unfolding leaf_at
  of_silent h =
      cases (READ entry)
      (λ r.
      cases (acts flips n) (λ t. let z : ◌≡◌ {A = ℕ} 2 1 = ap sort (rw (t, r) at h) in absurd (omega arith))
      (λ t. let z : ◌≡◌ {A = ℕ} 0 1 = ap sort (rw t at h) in absurd (omega arith)))
      (λ r. r)

  -- an address of a paragraph that the entry changes
  module _ (a : Active) (at : Console) (m : paragraph at < length a.mapping) (p : paragraph at < length a.permissions) (from : flip_from n ≤ paragraph at)
      (below : paragraph at < flip_from n + flip_size n) where
    chapter : paragraph at / chapter_paragraphs ≡ n / chapter_pages
    chapter = omega (arith, first_small (n / chapter_pages))

    among : first_k (n / chapter_pages) ≤ paragraph at % chapter_paragraphs
    among = omega (arith, first_small (n / chapter_pages))

    mapped : get_or (flipped flips n a).mapping (paragraph at) 0 ≡ flip_mapping entry (paragraph at % chapter_paragraphs)
    mapped = turned_in (n / chapter_pages) (flip_mapping entry) a.mapping (paragraph at) m chapter among

    permitted : get_or (flipped flips n a).permissions (paragraph at) 0 ≡ entry % 8
    permitted = turned_in (n / chapter_pages) (flip_permissions entry) a.permissions (paragraph at) p chapter among

    pub page_reached : (l : ℕ) → leaf_at flips n ≡ Leaves.Page l
        → ((cell_at (flipped flips n a) at).rights.read ≡ true) × ((cell_at (flipped flips n a) at).location ≡ locutus (l * page_size + at.0 % page_size))
    page_reached l h =
        let q : (READ entry ≡ true) × (page_of entry ≡ l) = of_page l h in (
          ap READ permitted ∙ ap (λ (b : ℕ). eqb b 1) (low_bit entry) ∙ q.0,
          ap (λ (e : ℕ). locate e at) mapped ∙ ap locutus (place entry at.0 ∙ ap (λ (y : ℕ). y * page_size + at.0 % page_size) q.1),
        )

    pub silence_reached : leaf_at flips n ≡ Leaves.Silent → (cell_at (flipped flips n a) at).rights.read ≡ false
    silence_reached h = ap READ permitted ∙ ap (λ (b : ℕ). eqb b 1) (low_bit entry) ∙ of_silent h
