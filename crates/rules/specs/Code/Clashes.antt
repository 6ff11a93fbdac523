-- Rule 27, line by line: what is known of lines that passed 25 and 26, and what the search for the first that shares finds.
use Rattle.std.specs.Prelude.{◌<◌, List, [], cond, Result, Ok, Err}
use Rattle.basics.specs.Lists.{Each}
use Rattle.basics.specs.Refusals.{first_refusal, passes}
use Rattle.lines.specs.declared.Line.{Line}
use Rattle.lines.specs.Typed.{All}
use Rattle.owners.specs.declared.Owners.{Owners}
use Rattle.owners.specs.Owners.{owners_of}
use Rattle.rules.specs.declared.Clash.{Clash}
use Rattle.rules.specs.Rules.{share_rows, first_rival}
use Rattle.rules.specs.Code.Shapes.{Fine}

abbrev pub Numbered : Line → Type 0
Numbered l = 0 < l.source

pub record Allowed (lines : List Line) : Type 0 where
  pub fine : All Fine lines
  pub numbered : Each Numbered lines

-- the first clash of the lines, or who owns what after all of them
abbrev pub clash_of : List Line → Result Owners Clash
clash_of lines =
    cond (passes (first_refusal (share_rows [] lines))) (Ok (owners_of lines))
    (Err (record { refusal = first_refusal (share_rows [] lines); with = first_rival [] lines }))
