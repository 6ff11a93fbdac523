-- `switches::flip` meets its contract. The loop's invariant: the flip has come to paragraph k in both tables.
use Rattle.std.proofs.Common.{◌≡◌, ◌≤◌}
use Rattle.places.specs.Limits.{chapter_paragraphs}
use Rattle.switches.specs.Flips.{first_k, flip_mapping, flip_permissions}
use Rattle.switches.specs.Laws.Flips.{turning}
use Rattle.switches.proofs.flip.Given as goal

abbrev pub invariant-loop-k : goal.invariant-loop-k
invariant-loop-k l =
    (first_k l.x ≤ l.k) × (l.k ≤ chapter_paragraphs) × (l.mapping ≡ turning l.x (flip_mapping l.entry) l.initial.mapping l.k)
    × (l.permissions ≡ turning l.x (flip_permissions l.entry) l.initial.permissions l.k)
