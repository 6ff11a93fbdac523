-- `labels::shelf_label` is safe and ends. The loop's invariant: each tag before has no more texts than an image may have bytes.
use Prim.Native.Nat.{◌*◌, ◌≤◌}
use Rattle.places.specs.Limits.{image_limit}
use Rattle.labels.proofs.shelf_label.Given as goal

abbrev pub invariant-loop-tag : goal.invariant-loop-tag
invariant-loop-tag l = l.texts ≤ image_limit * l.tag
