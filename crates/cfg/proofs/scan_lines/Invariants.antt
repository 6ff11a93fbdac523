-- `cfg::scan_lines` meets its contract. The invariant: the reader holds the CFG, and the lines before its place say what the scan has.
use Prim.Native.Nat.{◌-◌, ◌≤◌}
use mathlib.Core.Path.{◌≡◌}
use lib.ListN.{length}
use Rattle.cfg.proofs.Scans.{Scanned}
use Rattle.cfg.proofs.scan_lines.Given as goal

abbrev pub invariant-loop-r : goal.invariant-loop-r
invariant-loop-r l = (l.r.text.now ≡ l.cfg) × (l.r.at ≤ length l.r.text.now) × Scanned l.r.text.now l.st l.r.at

abbrev pub decreases-loop-r : goal.decreases-loop-r
decreases-loop-r l = length l.r.text.now - l.r.at
