-- What is shown of what was found, by the code's cases; and that the promise leaves one answer: the same bytes at the same address.
use Rattle.std.specs.Prelude.{ℕ, ◌<◌, ◌≤◌, ◌≡◌, List, length, leb, Option, Some, None, Err}
use Rattle.std.proofs.Common.{arith, le-leb, leb-true}
use Rattle.std.specs.Borrow.{Bor}
use Rattle.basics.specs.Laws.Tests.{cases}
use Rattle.basics.specs.declared.Refusal.{Refusal}
use Rattle.metadata.specs.declared.Span.{Span}
use Rattle.lookup.specs.declared.Place.{Place}
use Rattle.lookup.specs.declared.Place.TheVariants.{Label, Image}
use Rattle.lookup.specs.Shown.{Stands, PartOf, Shows, place_in}

-- a part, by the code's tests
module _ (r s : Bor (List ℕ)) (a e : ℕ) where
  pub part_is : a ≤ e → e ≤ length s.now → Stands r s a e → PartOf r s a e
  part_is k h w = rw (le-leb _ _ h, le-leb _ _ k) w

  pub part_none : (a ≤ e → e ≤ length s.now → ⊥) → Stands r s 0 0 → PartOf r s a e
  part_none d w =
      cases (leb e (length s.now))
      (λ t.
      cases (leb a e) (λ u. absurd (d (leb-true _ _ u) (leb-true _ _ t))) (λ u. rw (t, u) w))
      (λ t. rw t w)

  pub part_past : length s.now < e → Stands r s 0 0 → PartOf r s a e
  part_past h w = part_none (λ k l. omega arith) w

  pub part_turned : e ≤ length s.now → e < a → Stands r s 0 0 → PartOf r s a e
  part_turned h k w = part_none (λ l m. omega arith) w

-- what is shown, by the code's cases
module _ (r label image : Bor (List ℕ)) (f : Option Place) where
  pub shows_label : (x : Span) → f ≡ Some (Label x) → PartOf r label x.from x.to → Shows r label image f
  shows_label x q w = rw q w

  pub shows_image : (x : Span) → f ≡ Some (Image x) → PartOf r image x.from x.to → Shows r label image f
  shows_image x q w = rw q w

  pub shows_nothing : f ≡ None → PartOf r label 0 0 → Shows r label image f
  shows_nothing q w = rw q w

  pub shows_refused : (k : Refusal) → f ≡ place_in (Err k) → PartOf r label 0 0 → Shows r label image f
  shows_refused k q w = rw q w

  pub shows_found : (g : Option Place) → f ≡ g → Shows r label image f → Shows r label image g
  shows_found g q w = rw q at w

pub ruleset shows = (shows_label, shows_image, shows_nothing)

-- two answers that the promise allows are the same bytes at the same address
one_part : (r q s : Bor (List ℕ)) (a e : ℕ) → Stands r s a e → Stands q s a e → (r.now ≡ q.now) × (r.ref_ptr.0 ≡ q.ref_ptr.0) × (r.ref_ptr.1 ≡ q.ref_ptr.1)
one_part r q s a e v w = (cc, cc, cc)

pub one_shown : (r q label image : Bor (List ℕ)) (f : Option Place) → Shows r label image f → Shows q label image f
    → (r.now ≡ q.now) × (r.ref_ptr.0 ≡ q.ref_ptr.0) × (r.ref_ptr.1 ≡ q.ref_ptr.1)
one_shown r q label image (Some (Label x)) v w = one_part r q label _ _ v w
one_shown r q label image (Some (Image x)) v w = one_part r q image _ _ v w
one_shown r q label image None v w = one_part r q label _ _ v w
