-- One law for each return, its premises as the code's tests and calls give them.
use Prim.Native.Nat.{ℕ, ◌<◌, ◌≤◌, ◌-◌}
use mathlib.Core.Path.{◌≡◌, refl, sym}
use mathlib.Core.List.{List, ◌++◌, [], append_assoc}
use native.Mathlib.Omega.{arith}
use lib.ListN.{length, length-append}
use borrow.Rule.Slice.PartMut.{put_mid}
use Rattle.basics.specs.Lists.{part, put_front}
use Rattle.basics.specs.Bytes.{bytes16}
use Rattle.basics.specs.Laws.Bytes.{length_bytes16}
use Rattle.basics.specs.Laws.Wrote.{Wrote, wrote_none}
use Rattle.basics.specs.Laws.Puts.{put_short, put_wrote, wrote_put}
use Rattle.places.specs.Limits.{paragraphs}
use Rattle.tables.specs.Tables.{tables, permissions_at, flips_at, tables_size, tables_payload}
use Rattle.tables.specs.Laws.Tables.{length_tables}

-- a buffer without room for the tables, and one with: each in its part
module _ (out m p f : List ℕ) (em : length m ≡ paragraphs) (ep : length p ≡ paragraphs) (ef : length f ≡ paragraphs) where
  pub no_room : length out < tables_size → out ≡ put_front (tables_payload (tables m p f)) out
  no_room h = put_short (tables_payload (tables m p f)) out (omega (arith, length_tables (tables m p f) em ep ef))

  module _ (y₁ y₂ y₃ : List ℕ) where
    abbrev out₁ : List ℕ
    out₁ = put_mid 0 permissions_at out y₁

    abbrev out₂ : List ℕ
    out₂ = put_mid permissions_at (flips_at - permissions_at) out₁ y₂

    abbrev out₃ : List ℕ
    out₃ = put_mid flips_at (tables_size - flips_at) out₂ y₃

    pub tables_written :
        tables_size ≤ length out → y₁ ≡ put_front (bytes16 m) (part out 0 permissions_at) → y₂ ≡ put_front p (part out₁ permissions_at flips_at)
        → y₃ ≡ put_front (bytes16 f) (part out₂ flips_at tables_size) → out₃ ≡ put_front (tables_payload (tables m p f)) out
    unfolding tables_payload
    tables_written h e₁ e₂ e₃ =
        let lm : permissions_at ≡ length (bytes16 m) = omega (arith, length_bytes16 m) in
        let lf : tables_size - flips_at ≡ length (bytes16 f) = omega (arith, length_bytes16 f) in
        let lp : flips_at ≡ length (bytes16 m ++ p) = omega (arith, length-append (bytes16 m) p) in
        let w₁ : Wrote out out₁ (bytes16 m) = wrote_put out out [] 0 permissions_at y₁ (bytes16 m) (wrote_none out) refl lm (omega arith) e₁ in
        let w₂ : Wrote out out₂ (bytes16 m ++ p) = wrote_put out out₁ (bytes16 m) permissions_at _ y₂ p w₁ lm (sym ep) (omega arith) e₂ in
        let w₃ : Wrote out out₃ ((bytes16 m ++ p) ++ bytes16 f) = wrote_put out out₂ (bytes16 m ++ p) flips_at _ y₃ (bytes16 f) w₂ lp lf (omega arith) e₃ in
        put_wrote out out₃ _ (rw append_assoc at w₃)
