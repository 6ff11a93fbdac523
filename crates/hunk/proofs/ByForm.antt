-- What a start byte says, and what stands at a place: one law for each case of the code, with its premises as the cases and calls give them.
use Prim.Native.Nat.{ℕ, ◌+◌, ◌<◌, ◌≤◌, ◌-◌}
use mathlib.Core.List.{List}
use mathlib.Core.Path.{◌≡◌, sym, refl}
use mathlib.Core.Bool.{false}
use native.Mathlib.Omega.{arith}
use lib.ListN.{get_or, length}
use borrow.Author.Tests.{le-leb, lt-leb}
use Rattle.hunk.specs.declared.Form.{Form}
use Rattle.hunk.specs.declared.Form.TheVariants.{Bytes, Decles, Words, Reserved}
use Rattle.std.specs.Prelude.{Ok, Err, Some, None}
use mathlib.Core.Logic.{◌⊎◌, inl, inr}
use Rattle.basics.specs.Laws.Tests.{and_false}
use Rattle.hunk.specs.Forms.{form_of, is_reserved, count_for, size_for, count_of, size_of}
use Rattle.hunk.specs.Hunk.{whole_at}
use Rattle.hunk.specs.Laws.Forms.{Starts, starts_of}
use Rattle.hunk.specs.Code.Blocks.{block_at}

-- the words that a start byte counts
module _ (f : Form) (b : ℕ) (ef : f ≡ form_of b) where
  starts_in_lem : Starts f b
  starts_in_lem = rw ef (starts_of b)

  pub from_decles : f ≡ Decles → 0x3F ≤ b
  from_decles e = let h : Starts Decles b = rw e at starts_in_lem in omega arith

  pub from_words : f ≡ Words → 0xBF ≤ b
  from_words e = let h : Starts Words b = rw e at starts_in_lem in omega arith

-- a form that is named
is_named : (f : Form) → (f ≡ Reserved → ⊥) → is_reserved f ≡ false
is_named Bytes e = refl
is_named Decles e = refl
is_named Words e = refl
is_named Reserved e = absurd (e refl)

-- what stands at p
pub block_end : (s : List ℕ) (p : ℕ) → length s ≤ p → Ok None ≡ block_at s p
unfolding block_at
block_end s p h = rw (le-leb _ _ h)

module _ (s : List ℕ) (p b : ℕ) (f : Form) (n z : ℕ) (at : p < length s) (eb : b ≡ get_or s p 0) (ef : f ≡ form_of b) (en : n ≡ count_for f b) (ez : z ≡ size_for f n) where
  counted : count_of b ≡ n
  unfolding count_of
  counted = rw (← ef) (sym en)

  sized : size_of b ≡ z
  unfolding size_of
  sized = rw (counted, ← ef) (sym ez)

  pub block_wrong : (f ≡ Reserved) ⊎ ((f ≡ Reserved → ⊥) × (length s - p < z)) → Err p ≡ block_at s p
  unfolding block_at whole_at
  block_wrong (inl e) = rw (lt-leb _ _ at, ← eb, ← ef, e)
  block_wrong (inr (e, l)) =
      let g : length s < p + z = omega arith in
      rw (lt-leb _ _ at, ← eb, ← ef, sized, lt-leb _ _ g, and_false _ _ refl)

  pub block_data : (f ≡ Reserved → ⊥) → z ≤ length s - p → Ok (Some (record { words = n; next = p + z })) ≡ block_at s p
  unfolding block_at whole_at
  block_data e l =
      let g : p + z ≤ length s = omega arith in
      rw (lt-leb _ _ at, ← eb, ← ef, is_named f e, sized, counted, le-leb _ _ g)

pub ruleset blocks = (block_end, block_wrong, block_data)
