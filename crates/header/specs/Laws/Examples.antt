-- A header, written and read: the definitions compute.
use Rattle.std.specs.Prelude.{ℕ, List, ◌∷◌, [], ◌≡◌, refl, true, false, length, replicate, set}
use Rattle.basics.specs.Counts.{any}
use Rattle.basics.specs.Refusals.{refuse, no_refusal}
use Rattle.sums.specs.Crc.{crc_from, crc_byte, crc_bits, crc_bit}
use Rattle.header.specs.Header.{head_of, header_of, wrong_length, header_rows, header_refusal}
use Rattle.header.specs.declared.TutorVision.TheVariants.{Incompatible, Tolerates, Enhanced, Requires, NotStated}
use Rattle.header.specs.Flags.{flag, field, setting_of, stated_at, compat_of}

-- the builder's flags, and a header with them and no UID
abbrev built : List ℕ
built = 0x55 ∷ 0x05 ∷ replicate 14 0

abbrev head : List ℕ
head =
    0x4C ∷ 0x54 ∷ 0x4F ∷ 0x01 ∷ 0x55 ∷ 0x05 ∷ 0x00 ∷ 0x00 ∷ 0x00 ∷ 0x00 ∷ 0x00 ∷ 0x00 ∷ 0x00 ∷ 0x00 ∷ 0x00 ∷ 0x00 ∷
    0x00 ∷ 0x00 ∷ 0x00 ∷ 0x00 ∷ 0x00 ∷ 0x00 ∷ 0x00 ∷ 0x00 ∷ 0x00 ∷ 0x00 ∷ 0x00 ∷ 0x00 ∷ 0x00 ∷ 0x00 ∷ 0x00 ∷ 0xF9 ∷ []

pub written : header_of built (replicate 8 0) ≡ head
unfolding header_of head_of crc_from crc_byte crc_bits crc_bit
written = refl

pub accepted : header_refusal head ≡ no_refusal
unfolding header_rows any crc_from crc_byte crc_bits crc_bit
accepted = refl

-- no bytes; then one byte of the header changed
pub empty : header_refusal [] ≡ refuse 1 0
unfolding header_rows
empty = refl

-- the longest image, and one byte more (02, W-210)
pub longest : (s : List ℕ) → length s ≡ 2097152 → wrong_length s ≡ false
longest s e = rw e

pub longer : (s : List ℕ) → length s ≡ 2097153 → wrong_length s ≡ true
longer s e = rw e

pub other_magic : header_refusal (set head 2 0x4E) ≡ refuse 2 0
unfolding header_rows any
other_magic = refl

pub version_0 : header_refusal (set head 3 0x00) ≡ refuse 3 0
unfolding header_rows any
version_0 = refl

pub reserved_changed : header_refusal (set head 30 0x01) ≡ refuse 4 0
unfolding header_rows any crc_from crc_byte crc_bits crc_bit
reserved_changed = refl

-- the builder's flags say that a program tolerates each device; flags 16-17 are in byte 2, and flag 32 is in byte 4
pub tolerates : compat_of built ≡ record { intellivoice = 1; ecs = 1; intellivision2 = 1; keyboard = 1; tutorvision = Tolerates }
unfolding compat_of stated_at setting_of
tolerates = refl

-- bits 10 and 11 at version 0, which are ignored, and at versions 1 to 3
pub version_none : (compat_of (0x00 ∷ 0x0C ∷ [])).tutorvision ≡ NotStated
unfolding compat_of stated_at
version_none = refl

pub versions : (compat_of (0x00 ∷ 0x01 ∷ [])).tutorvision ∷ (compat_of (0x00 ∷ 0x0A ∷ [])).tutorvision ∷ (compat_of (0x00 ∷ 0x0F ∷ [])).tutorvision ∷ [] ≡ Incompatible ∷ Enhanced ∷ Requires ∷ []
unfolding compat_of stated_at setting_of
versions = refl

pub jlp_field_lem : field (0 ∷ 0 ∷ 3 ∷ []) 16 ≡ 3
jlp_field_lem = refl

pub flag_32 : flag (0 ∷ 0 ∷ 0 ∷ 0 ∷ 1 ∷ []) 32 ≡ true
flag_32 = refl
