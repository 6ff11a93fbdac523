-- `cfg::blank_lines` meets its contract: as many blank lines as there are places.
use Rattle.places.specs.Limits.{line_limit}
use Rattle.cfg.proofs.Scans.{places_none}
use Rattle.cfg.proofs.blank_lines.Goals as goal

pub returns : goal.returns
returns c = places_none line_limit
