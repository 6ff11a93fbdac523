-- A state that keeps its tables as loaded and its flip table.
use Rattle.std.specs.Prelude.{ℕ, List}
use Rattle.exports.specs.declared.state.State.{State}

-- with other tables that act, another number of readable paragraphs, and other accelerators
abbrev pub state_with : State → List ℕ → List ℕ → ℕ → List ℕ → State
state_with s mapping permissions readable accelerators =
    record {
      initial_mapping = s.initial_mapping;
      initial_permissions = s.initial_permissions;
      mapping = mapping;
      permissions = permissions;
      flips = s.flips;
      readable = readable;
      accelerators = accelerators;
    }
