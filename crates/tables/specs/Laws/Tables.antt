-- The payload's length; and written, then read back: the same tables, and the cartridge that is loaded with them.
use Rattle.std.specs.Prelude.{ℕ, ◌+◌, ◌*◌, ◌≡◌, refl, length, get_or, drop}
use mathlib.Core.List.{List, ◌++◌, append_assoc, append-nil, []}
use Rattle.std.proofs.Common.{sym, ◌∙◌, arith, length-append}
use Rattle.std.proofs.Math.Path.{ap}
use Rattle.basics.specs.Bytes.{bytes16, at16}
use Rattle.basics.specs.Laws.Bytes.{length_bytes16}
use Rattle.basics.specs.Laws.Tables.{table_of}
use Rattle.basics.specs.Laws.Stands.{stands_in, stands_word, stands_after}
use Rattle.places.specs.Limits.{paragraphs}
use Rattle.jlp.specs.declared.Jlp.{Jlp}
use Rattle.tables.specs.Tables.{Tables, permissions_at, flips_at, tables_size, tables_payload, words_at, bytes_at, tables_in, cartridge_with, cartridge_of}

-- a table that stands at p, back
words_back : (ws x : List ℕ) (p : ℕ) (r : List ℕ) → length ws ≡ paragraphs → drop p x ≡ bytes16 ws ++ r → words_at x p ≡ ws
words_back ws x p r e st =
    sym (table_of 0 paragraphs (λ i. at16 x (p + 2 * i)) ws e (λ i h. sym (stands_word x p ws r st i (p + 2 * i) refl (omega arith))))

bytes_back : (bs x : List ℕ) (p : ℕ) (r : List ℕ) → length bs ≡ paragraphs → drop p x ≡ bs ++ r → bytes_at x p ≡ bs
bytes_back bs x p r e st =
    sym (table_of 0 paragraphs (λ i. get_or x (p + i) 0) bs e (λ i h. sym (stands_in x p bs r st i (p + i) refl (omega arith))))

module _ (t : Tables) (em : length t.mapping ≡ paragraphs) (ep : length t.permissions ≡ paragraphs) (ef : length t.flips ≡ paragraphs) where
  pub length_tables : length (tables_payload t) ≡ tables_size
  unfolding tables_payload
  length_tables = simp (length-append, length_bytes16) (omega arith)

  -- bytes that begin with the payload, r behind it
  module _ (x r : List ℕ) (st : x ≡ tables_payload t ++ r) where
    at_mapping : x ≡ bytes16 t.mapping ++ (t.permissions ++ (bytes16 t.flips ++ r))
    unfolding tables_payload
    at_mapping = st ∙ simp append_assoc

    at_permissions : drop permissions_at x ≡ t.permissions ++ (bytes16 t.flips ++ r)
    at_permissions = stands_after x 0 (bytes16 t.mapping) _ at_mapping permissions_at (omega (arith, length_bytes16 t.mapping))

    at_flips : drop flips_at x ≡ bytes16 t.flips ++ r
    at_flips = stands_after x permissions_at t.permissions _ at_permissions flips_at (omega arith)

    pub tables_back : tables_in x ≡ t
    unfolding tables_in
    tables_back =
        rw (
          words_back t.mapping x 0 _ em at_mapping,
          bytes_back t.permissions x permissions_at _ ep at_permissions,
          words_back t.flips x flips_at r ef at_flips,
        )

    pub cartridge_back : (jlp : Jlp) → cartridge_of jlp x ≡ cartridge_with jlp t
    unfolding cartridge_of
    cartridge_back jlp = ap (cartridge_with jlp) tables_back

  -- the payload itself
  pub payload_tables : tables_in (tables_payload t) ≡ t
  payload_tables = tables_back (tables_payload t) [] (sym (append-nil (tables_payload t)))

  pub payload_back : (jlp : Jlp) → cartridge_of jlp (tables_payload t) ≡ cartridge_with jlp t
  payload_back = cartridge_back (tables_payload t) [] (sym (append-nil (tables_payload t)))

-- a payload's cartridge has the payload's flips
pub cartridge_flips : (jlp : Jlp) (payload : List ℕ) → (cartridge_of jlp payload).flips ≡ (tables_in payload).flips
unfolding cartridge_of
cartridge_flips jlp payload = refl
