-- What each survey's type says of its pages and its slots.
use Rattle.std.specs.Prelude.{ℕ, ◌<◌, ◌≤◌, List, get_or}
use Rattle.places.specs.Limits.{slots}
use Rattle.layout.specs.declared.found.Survey.{Survey}

-- each page is at most as high as there are slots; each page's slot is one
pub record Small (page : List ℕ) : Type 0 where
  pub each : (s : ℕ) → s < slots → get_or page s 0 ≤ slots

pub record Slots (slot : List ℕ) : Type 0 where
  pub each : (n : ℕ) → n < slots → get_or slot n 0 < slots

module _ (s : Survey) where
  pub few_pages : s.pages ≤ slots
  few_pages = s.few

  pub small : Small s.page
  small = record { each = s.small }

  pub slots_ok : Slots s.slot
  slots_ok = record { each = s.within }
