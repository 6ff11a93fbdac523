-- What a load answers, as C lays it out (01, Numbers that come back).
use Rattle.std.specs.Prelude.{ℕ, List, ◌∷◌, []}
use Rattle.header.specs.declared.Compat.{Compat}
use Rattle.header.specs.Flags.{number_of}
use Rattle.load.specs.Load.{Loading}
use Rattle.exports.specs.declared.Loaded.{Loaded}
use Rattle.registers.specs.Words.{words_of}

-- the compatibility fields in 01's order; C has numbers only, and 4 is TutorVision's "not stated"
abbrev pub fields_of : Compat → List ℕ
fields_of c = c.intellivoice ∷ c.ecs ∷ c.intellivision2 ∷ c.keyboard ∷ number_of c.tutorvision ∷ []

abbrev pub loaded_of : Loading → Loaded
loaded_of l =
    record {
      number = l.refusal.number;
      place = l.refusal.place;
      blocks = l.blocks;
      words = l.words;
      compat = fields_of l.compat;
      mapping = l.cartridge.mapping;
      permissions = l.cartridge.permissions;
      flips = l.cartridge.flips;
      readable = l.cartridge.readable;
      accelerators = words_of l.cartridge.jlp;
    }
