use Rattle.std.proofs.Common.{◌∙◌}
use Rattle.body_walk.specs.inner.Cursor.{skim, entries_read}
use Rattle.body_walk.proofs.Opens.{steps_more}
use Rattle.body_walk.proofs.flat.walk_shown.Goals as goal

pub loop-i-preserved : goal.loop-i-preserved
loop-i-preserved c =
    let l = c.args.layer.now in
    let step = skim (entries_read l.mode l.level.now c.args.dim.block) l.body.now in
    record {
      near = c.in-Some.ensures.within;
      told = steps_more step c.loop-i.i c.args.dim.count c.loop-i.at c.in-Some.next c.loop-i-test.true c.in-Some.ensures.told ∙ c.loop-i.invariant.told;
    }
