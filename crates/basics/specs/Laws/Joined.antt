-- Loops that join tests: some of the first k places passes, or each does.
use Rattle.std.specs.Prelude.{ℕ, ◌≤◌, ◌<◌, ◌+◌, Bool, false, ◌||◌, true, ◌&&◌, ◌≡◌, refl}
use Rattle.std.proofs.Common.{arith}
use Rattle.basics.specs.Counts.{any, all}
use Rattle.basics.specs.Laws.Counts.{any_none, any_more, all_none, all_more}

pub record Somewhere (n : ℕ) (f : ℕ → Bool) (k : ℕ) (r : Bool) : Type 0 where
  pub up : k ≤ n
  pub is : r ≡ any k f

pub record Everywhere (n : ℕ) (f : ℕ → Bool) (k : ℕ) (r : Bool) : Type 0 where
  pub up : k ≤ n
  pub is : r ≡ all k f

module _ (n : ℕ) (f : ℕ → Bool) where
  pub somewhere_none : Somewhere n f 0 false
  somewhere_none = record { up = omega arith; is = any_none f }

  pub somewhere_by : (k : ℕ) (r b v : Bool) → Somewhere n f k r → k < n → b ≡ f k → v ≡ b || r → Somewhere n f (k + 1) v
  somewhere_by k r b v c h eb e = record { up = omega arith; is = any_more f k b r v c.is eb e }

  pub somewhere_more : (k : ℕ) (r v : Bool) → Somewhere n f k r → k < n → v ≡ f k || r → Somewhere n f (k + 1) v
  somewhere_more k r v c h e = somewhere_by k r (f k) v c h refl e

  pub somewhere_all : (k : ℕ) (r : Bool) → Somewhere n f k r → n ≤ k → r ≡ any n f
  somewhere_all k r c h = let e : k ≡ n = omega (arith, c.up) in rw e at c.is

  pub everywhere_none : Everywhere n f 0 true
  everywhere_none = record { up = omega arith; is = all_none f }

  pub everywhere_by : (k : ℕ) (r b v : Bool) → Everywhere n f k r → k < n → b ≡ f k → v ≡ b && r → Everywhere n f (k + 1) v
  everywhere_by k r b v c h eb e = record { up = omega arith; is = all_more f k b r v c.is eb e }

  pub everywhere_more : (k : ℕ) (r v : Bool) → Everywhere n f k r → k < n → v ≡ f k && r → Everywhere n f (k + 1) v
  everywhere_more k r v c h e = everywhere_by k r (f k) v c h refl e

  pub everywhere_all : (k : ℕ) (r : Bool) → Everywhere n f k r → n ≤ k → r ≡ all n f
  everywhere_all k r c h = let e : k ≡ n = omega (arith, c.up) in rw e at c.is
