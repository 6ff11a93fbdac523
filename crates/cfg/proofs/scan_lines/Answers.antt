-- `cfg::scan_lines` meets its contract: a turn notes one line and goes on behind it, and there are no more lines or entries than bytes.
use Prim.Native.Nat.{◌≤◌}
use mathlib.Core.Path.{refl, ap, ◌∙◌}
use native.Mathlib.Omega.{arith}
use lib.ListN.{length}
use Rattle.places.specs.Limits.{cfg_limit}
use Rattle.text.specs.Laws.Lines.{next_within}
use Rattle.cfg.specs.File.{says_of}
use Rattle.cfg.specs.Code.Steps.{scan_of}
use Rattle.cfg.proofs.Scans.{scanned_start, scanned_few, scanned_more, scanned_all}
use Rattle.cfg.proofs.scan_lines.Goals as goal

pub loop-r-init : goal.loop-r-init
loop-r-init c = (refl, omega arith, scanned_start c.args.cfg.now c.start-st.result c.start-st.ensures)

pub note_line-st-requires : goal.note_line-st-requires
note_line-st-requires c =
    let s = c.loop-r.r.text.now in
    let known = c.loop-r.invariant.2 in
    let limit : length s ≤ cfg_limit = rw c.loop-r.invariant.0 c.requires in
    let few = scanned_few s c.loop-r.st c.loop-r.r.at known in
    (omega (arith, few, limit), omega (arith, few, limit), c.loop-r.invariant.1)

pub loop-r-preserved : goal.loop-r-preserved
loop-r-preserved c =
    let s = c.loop-r.r.text.now in
    let at = c.loop-r.r.at in (
      c.loop-r.invariant.0,
      rw c.next_line.ensures (next_within s at c.loop-r-test.true).1,
      rw c.next_line.ensures (scanned_more s c.loop-r.st at c.loop-r.invariant.2 c.note_line-st.result c.loop-r-test.true c.note_line-st.ensures),
    )

pub returns : goal.returns
returns c =
    scanned_all c.loop-r.r.text.now c.loop-r.st c.loop-r.r.at c.loop-r.invariant.2 c.loop-r-test.false
    ∙ ap (λ t. scan_of (says_of t)) c.loop-r.invariant.0
