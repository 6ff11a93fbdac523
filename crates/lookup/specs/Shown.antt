-- A text shown from the file it stands in: the same bytes at the same address, and no copy of them (02, W-204).
use Rattle.std.specs.Prelude.{ℕ, ◌+◌, ◌≡◌, List, Bool, cond, ◌&&◌, length, leb, Option, Some, None, Result, Ok, Err}
use Rattle.std.specs.Borrow.{Bor}
use Rattle.basics.specs.Lists.{part}
use Rattle.basics.specs.declared.Refusal.{Refusal}
use Rattle.lookup.specs.declared.Place.{Place}
use Rattle.lookup.specs.declared.Place.TheVariants.{Label, Image}

-- r is the slice s from place a up to place e, where it stands
pub record Stands (r s : Bor (List ℕ)) (a e : ℕ) : Type 0 where
  pub text : r.now ≡ part s.now a e
  pub block : r.ref_ptr.0 ≡ s.ref_ptr.0
  pub offset : r.ref_ptr.1 ≡ s.ref_ptr.1 + a

-- bytes a to e of a file that has them; its empty front where it has not
abbrev pub inside : List ℕ → ℕ → ℕ → Bool
inside s a e = leb e (length s) && leb a e

abbrev pub PartOf : Bor (List ℕ) → Bor (List ℕ) → ℕ → ℕ → Type 0
PartOf r s a e = Stands r s (cond (inside s.now a e) a 0) (cond (inside s.now a e) e 0)

-- what is shown of what was found: nothing, where nothing was
abbrev pub Shows : Bor (List ℕ) → Bor (List ℕ) → Bor (List ℕ) → Option Place → Type 0
Shows r label image (Some (Label x)) = PartOf r label x.from x.to
Shows r label image (Some (Image x)) = PartOf r image x.from x.to
Shows r label image None = PartOf r label 0 0

-- what a lookup has found, and nothing where it was refused
abbrev pub place_in : Result (Option Place) Refusal → Option Place
place_in (Ok f) = f
place_in (Err r) = None
