-- W-201: TutorVision shown for images that never stated it (02).
use Rattle.std.specs.Prelude.{ℕ, List, ◌↔◌, ◌⊎◌, ◌≡◌}
use Rattle.header.specs.declared.TutorVision.TheVariants.{NotStated}
use Rattle.header.specs.Header.{flags_of}
use Rattle.header.specs.Flags.{field, number_of}
use Rattle.load.specs.Load.{loading_of}

pub record W201 : Type 0 where
  -- "The load now reports 'not stated', apart from the four values, for version 0 and in a refusal."
  pub not_stated : (s : List ℕ) (m f : ℕ)
      → ((loading_of s m f).compat.tutorvision ≡ NotStated) ↔ (((loading_of s m f).refusal.number ≡ 0 → ⊥) ⊎ (field (flags_of s) 8 ≡ 0))
  -- "by 001 they count only when the compatibility version (bits 8-9) is 1 or more": then the report is that of bits 10-11
  pub stated : (s : List ℕ) (m f : ℕ) → (loading_of s m f).refusal.number ≡ 0 → (field (flags_of s) 8 ≡ 0 → ⊥)
      → number_of (loading_of s m f).compat.tutorvision ≡ field (flags_of s) 10
