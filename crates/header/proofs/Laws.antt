-- One law for each return, its premises as the code's tests and calls give them.
use Prim.Native.Nat.{ℕ, ◌≤◌, ◌<◌, ◌-◌}
use mathlib.Core.Path.{◌≡◌, ◌∙◌, sym, ap, refl}
use mathlib.Core.List.{List, ◌∷◌, ◌++◌, [], append_assoc}
use mathlib.Core.Bool.{true, false, not}
use native.Mathlib.Omega.{arith}
use lib.ListN.{length, get_or, take, set, length-append}
use lib.Seq.{take_at}
use lib.Dec.{eqb}
use borrow.Author.Tests.{eq-eqb, ne_eqb}
use borrow.Rule.Slice.PartMut.{put_mid}
use Rattle.basics.specs.Lists.{part, put_front}
use Rattle.basics.specs.Laws.Counts.{any_of}
use Rattle.basics.specs.Laws.Wrote.{Wrote, wrote_none, wrote_set}
use Rattle.basics.specs.Laws.Puts.{put_short, put_wrote, wrote_put}
use Rattle.sums.specs.Crc.{dowcrc_of}
use Rattle.header.specs.Header.{magic, version, reserved, version_at, flags_at, uid_at, reserved_at, sum_at, header_size, flags_size, uid_size, head_of, header_of, wrong_magic}
use Rattle.header.specs.Laws.Header.{length_head, length_header}

-- a byte that differs from the magic number's, and one more that agrees
pub differs : (s : List ℕ) (i x : ℕ) → i < version_at → x ≡ get_or s i 0 → (x ≡ get_or magic i 0 → ⊥) → true ≡ wrong_magic s
differs s i x h e d = sym (any_of version_at _ i h (rw (← e, ne_eqb _ _ d)))

pub agrees : (s : List ℕ) (i x : ℕ) → x ≡ get_or s i 0 → x ≡ get_or magic i 0 → not (eqb (get_or s i 0) (get_or magic i 0)) ≡ false
agrees s i x e d = rw (← e, eq-eqb _ _ d)

-- a buffer without room for a header, and one with: five fields in their parts, then the checksum of what stands there
module _ (out flags uid : List ℕ) (ef : length flags ≡ flags_size) (eu : length uid ≡ uid_size) where
  pub no_room : length out < header_size → out ≡ put_front (header_of flags uid) out
  no_room h = put_short (header_of flags uid) out (omega (arith, length_header flags uid ef eu))

  module _ (y₁ y₂ y₃ y₄ y₅ : List ℕ) where
    abbrev out₁ : List ℕ
    out₁ = put_mid 0 version_at out y₁

    abbrev out₂ : List ℕ
    out₂ = put_mid version_at (flags_at - version_at) out₁ y₂

    abbrev out₃ : List ℕ
    out₃ = put_mid flags_at flags_size out₂ y₃

    abbrev out₄ : List ℕ
    out₄ = put_mid uid_at uid_size out₃ y₄

    abbrev out₅ : List ℕ
    out₅ = put_mid reserved_at (sum_at - reserved_at) out₄ y₅

    module _ (h : header_size ≤ length out) (e₁ : y₁ ≡ put_front magic (part out 0 version_at)) (e₂ : y₂ ≡ put_front (version ∷ []) (part out₁ version_at flags_at))
        (e₃ : y₃ ≡ put_front flags (part out₂ flags_at uid_at)) (e₄ : y₄ ≡ put_front uid (part out₃ uid_at reserved_at))
        (e₅ : y₅ ≡ put_front reserved (part out₄ reserved_at sum_at)) where
      fields : Wrote out out₅ (head_of flags uid)
      unfolding head_of
      fields =
          let w₁ : Wrote out out₁ magic = wrote_put out out [] 0 version_at y₁ magic (wrote_none out) refl refl (omega arith) e₁ in
          let w₂ : Wrote out out₂ (magic ++ (version ∷ [])) = wrote_put out out₁ magic version_at _ y₂ (version ∷ []) w₁ refl refl (omega arith) e₂ in
          let w₃ : Wrote out out₃ (magic ++ (version ∷ flags)) = wrote_put out out₂ _ flags_at _ y₃ flags w₂ refl (sym ef) (omega arith) e₃ in
          let l₃ : uid_at ≡ length (magic ++ (version ∷ flags)) = omega arith in
          let w₄ : Wrote out out₄ ((magic ++ (version ∷ flags)) ++ uid) = wrote_put out out₃ _ uid_at _ y₄ uid w₃ l₃ (sym eu) (omega arith) e₄ in
          let l₄ : reserved_at ≡ length ((magic ++ (version ∷ flags)) ++ uid) = omega (arith, length-append flags uid) in
          simp append_assoc at (wrote_put out out₄ _ reserved_at _ y₅ reserved w₄ l₄ refl (omega arith) e₅)

      pub header_written : (sum : ℕ) → sum ≡ dowcrc_of (take sum_at out₅) → set out₅ sum_at sum ≡ put_front (header_of flags uid) out
      unfolding header_of
      header_written sum e =
          let l : length (head_of flags uid) ≡ sum_at = length_head flags uid ef eu in
          let s : sum ≡ dowcrc_of (head_of flags uid) = e ∙ ap dowcrc_of (ap (take sum_at) fields.is ∙ take_at (head_of flags uid) _ sum_at l) in
          put_wrote out _ _ (wrote_set out out₅ (head_of flags uid) sum_at sum _ fields (sym l) (omega arith) s)
