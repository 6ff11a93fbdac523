-- One law for each return that makes a cartridge or a count, its premises as the code's calls give them.
use Rattle.std.proofs.Common.{◌≡◌, ℕ, ◌<◌, cond, List, length, get_or, refl}
use Rattle.places.specs.Limits.{paragraphs, flip_entries}
use Rattle.places.specs.declared.Console.{Console}
use Rattle.switches.specs.Flips.{Active, flip_from, flip_size, flipped}
use Rattle.jlp.specs.declared.Jlp.{Jlp}
use Rattle.cart.specs.declared.Taker.{Taker}
use Rattle.cart.specs.Cells.{READ}
use Rattle.cart.proofs.Theorems.Readable.{flip_readable}
use Rattle.cart.specs.Readable.{readable_in, recounted}
use Rattle.cart.specs.Laws.Writes.{by_mapping, by_permissions, by_ram, by_flash, by_readable, by_assigned}
use Rattle.cart.specs.Writes.{taker_of, left_by, readable_by, assigned_by, leaves, assigned, leaves_readable}

-- before a flip and after it
pub flip_recounts : (a : Active) (flips : List ℕ) (n kept before after r : ℕ) → length a.permissions ≡ paragraphs → n < flip_entries
    → before ≡ readable_in a.permissions (flip_from n) (flip_size n) → after ≡ cond (READ (get_or flips n 0)) (flip_size n) 0 → r ≡ recounted kept before after
    → r ≡ recounted kept (readable_in a.permissions (flip_from n) (flip_size n)) (readable_in (flipped flips n a).permissions (flip_from n) (flip_size n))
flip_recounts a flips n kept before after r l s e f h = rw (flip_readable a flips n l s, ← e, ← f) h

-- what a write leaves that `shift` has given to its taker
module _ (j : Jlp) (a : Active) (flips : List ℕ) (at : Console) (v : ℕ) (t : Taker) (h : t ≡ taker_of j a flips at v) where
  pub given_mapping : (x : List ℕ) → x ≡ (left_by t a flips).mapping → x ≡ (leaves j a flips at v).mapping
  given_mapping x g = by_mapping j a flips at v t t h refl x g

  pub given_permissions : (x : List ℕ) → x ≡ (left_by t a flips).permissions → x ≡ (leaves j a flips at v).permissions
  given_permissions x g = by_permissions j a flips at v t t h refl x g

  pub given_readable : (kept x : ℕ) → x ≡ readable_by t a flips kept → x ≡ leaves_readable j a flips kept at v
  given_readable kept x g = by_readable j a flips at v t t h refl kept x g

  pub given_assigned : (x : ℕ) → x ≡ assigned_by t → x ≡ assigned j a flips at v
  given_assigned x g = by_assigned j a flips at v t t h refl x g

pub ruleset given = (given_mapping, given_permissions, given_readable, given_assigned, by_ram, by_flash)
