-- The 16 flag bytes of a header: flag n is bit n mod 8 of byte n div 8 (01, File layout; 001, Feature Flags).
use Rattle.std.specs.Prelude.{ℕ, ◌+◌, ◌*◌, ◌/◌, ◌^◌, ◌%◌, List, Bool, cond, eqb, get_or}
use Rattle.header.specs.declared.Compat.{Compat}
use Rattle.header.specs.declared.TutorVision.{TutorVision}
use Rattle.header.specs.declared.TutorVision.TheVariants.{Incompatible, Tolerates, Enhanced, Requires, NotStated}

abbrev pub flag : List ℕ → ℕ → Bool
flag flags n = eqb (get_or flags (n / 8) 0 / 2 ^ (n % 8) % 2) 1

-- the two-bit field that starts at flag n
abbrev pub field : List ℕ → ℕ → ℕ
field flags n = get_or flags (n / 8) 0 / 2 ^ (n % 8) % 4

-- the JLP field, and the size of the JLP flash in sectors: flags 16-17 and 22-31 (001, JLP Flags)
abbrev pub jlp_field : List ℕ → ℕ
jlp_field flags = field flags 16

abbrev pub flash_size : List ℕ → ℕ
flash_size flags = get_or flags 2 0 / 64 + 4 * get_or flags 3 0

-- the setting that a field's two bits name (001, Compatibility Flags)
unfoldable pub setting_of : ℕ → TutorVision
setting_of bits =
    cond (eqb bits 0) Incompatible
    (cond (eqb bits 1) Tolerates
    (cond (eqb bits 2) Enhanced
    Requires))

-- what these bits say of the TutorVision at a version of the compatibility fields: they count from version 1 on (001, Compatibility Field Version
-- Number; 02, W-201)
unfoldable pub stated_at : ℕ → ℕ → TutorVision
stated_at version bits = cond (eqb version 0) NotStated (setting_of bits)

-- each answer as a number: 001's two bits, and for "not stated" one that two bits do not reach
abbrev pub number_of : TutorVision → ℕ
number_of Incompatible = 0
number_of Tolerates = 1
number_of Enhanced = 2
number_of Requires = 3
number_of NotStated = 4

-- the compatibility fields (01, File layout); flags 8-9 are their version
unfoldable pub compat_of : List ℕ → Compat
compat_of flags =
    record {
      intellivoice = field flags 0;
      ecs = field flags 2;
      intellivision2 = field flags 4;
      keyboard = field flags 6;
      tutorvision = stated_at (field flags 8) (field flags 10);
    }

-- those of a refused load: zeros, and nothing is said of the TutorVision (02, W-201)
abbrev pub no_compat : Compat
no_compat = record { intellivoice = 0; ecs = 0; intellivision2 = 0; keyboard = 0; tutorvision = NotStated }
