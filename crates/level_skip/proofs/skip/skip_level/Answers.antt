use Rattle.level_skip.proofs.Steps.{floor_met, below_floor}
use Rattle.level_skip.proofs.skip.skip_level.Goals as goal

pub returns-then-block-floor-clause-told : goal.returns-then-block-floor-clause-told
returns-then-block-floor-clause-told c = below_floor c.args.layout.now c.args.level c.args.version c.args.block c.args.bytes.now c.args.at c.floor.result c.floor.ensures c.requires.level c.if-block-floor.true

pub returns-clause-told : goal.returns-clause-told
returns-clause-told c =
    floor_met c.args.layout.now c.args.level c.args.version c.args.block c.args.bytes.now c.args.at c.floor.result c.floor.ensures c.level.result.now c.pass_entry.result c.level.ensures c.if-block-floor.false c.pass_entry.ensures.told
