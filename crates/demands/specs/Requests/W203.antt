-- W-203: the permission decision set out as eight rows (02).
use Rattle.std.specs.Prelude.{ℕ, ◌%◌, Bool, true, false, ◌≡◌}
use Rattle.cart.specs.declared.Rights.{Rights}
use Rattle.cart.specs.Cells.{rights_of}

abbrev pub rights : Bool → Bool → Bool → Rights
rights narrow write read = record { read = read; write = write; narrow = narrow }

-- "one row for each setting of READ, WRITE and NARROW": bits 2, 1 and 0 are NARROW, WRITE and READ, and no other bit has a say
pub record W203 : Type 0 where
  pub row_000 : rights_of 0 ≡ rights false false false
  pub row_001 : rights_of 1 ≡ rights false false true
  pub row_010 : rights_of 2 ≡ rights false true false
  pub row_011 : rights_of 3 ≡ rights false true true
  pub row_100 : rights_of 4 ≡ rights true false false
  pub row_101 : rights_of 5 ≡ rights true false true
  pub row_110 : rights_of 6 ≡ rights true true false
  pub row_111 : rights_of 7 ≡ rights true true true
  pub low_bits : (x : ℕ) → rights_of x ≡ rights_of (x % 8)
