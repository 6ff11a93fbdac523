-- All of a cartridge as C keeps it, and what a write and a list of accesses answer of it (01, The machine; 02, W-212 and W-214).
use Rattle.cart.specs.declared.Cartridge.{Cartridge}
use Rattle.cart.specs.declared.Written.{Written}
use Rattle.accesses.specs.declared.Ran.{Ran}
use Rattle.exports.specs.declared.state.State.{State}
use Rattle.exports.specs.declared.state.WrittenState.{WrittenState}
use Rattle.exports.specs.declared.state.RanList.{RanList}
use Rattle.registers.specs.Words.{words_of, jlp_from}

abbrev pub state_of : Cartridge → State
state_of c =
    record {
      initial_mapping = c.initial_mapping;
      initial_permissions = c.initial_permissions;
      mapping = c.mapping;
      permissions = c.permissions;
      flips = c.flips;
      readable = c.readable;
      accelerators = words_of c.jlp;
    }

-- and back: any words are some accelerators
abbrev pub cartridge_from : State → Cartridge
cartridge_from s =
    record {
      initial_mapping = s.initial_mapping;
      initial_permissions = s.initial_permissions;
      mapping = s.mapping;
      permissions = s.permissions;
      flips = s.flips;
      readable = s.readable;
      jlp = jlp_from s.accelerators;
    }

abbrev pub written_as : Written → WrittenState
written_as w = record { state = state_of w.cartridge; assigned = w.assigned }

abbrev pub ran_as : Ran → RanList
ran_as r =
    record {
      number = r.refusal.number;
      place = r.refusal.place;
      lines = r.lines;
      length = r.length;
      state = state_of r.cartridge;
    }
