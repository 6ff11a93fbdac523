-- `build::put_label` meets its contract: the front aside and back, then the block in its part.
use Rattle.build.specs.Laws.Label.{put_nothing, put_labelled}
use Rattle.build.proofs.put_label.Goals as goal

pub returns-then-out-e : goal.returns-then-out-e
returns-then-out-e c = put_nothing c.args.label.now c.args.out.now c.if-out-e.true

pub returns : goal.returns
returns c =
    put_labelled c.args.label.now c.args.out.now _ _ _ c.requires c.if-out-e.false c.front_of-front.ensures c.put_bytes.ensures
    c.write.ensures.1
