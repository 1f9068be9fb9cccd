use Rattle.std.proofs.Common.{◌∙◌}
use Rattle.body_walk.proofs.BlockRows.{block_row}
use Rattle.body_walk.proofs.Opens.{flat_told}
use Rattle.body_walk.proofs.flat.walk_flat.Goals as goal

pub walk_block-requires-clause-row : goal.walk_block-requires-clause-row
walk_block-requires-clause-row c =
    let l = c.args.layer.now in
    block_row l.layout.now l.number c.args.row.now l.level.now l.mode.version c.args.block c.requires.layer.ready c.requires.row c.requires.layer.level_is c.requires.reaches

pub returns-clause-told : goal.returns-clause-told
returns-clause-told c =
    let l = c.args.layer.now in
    c.walk_block.ensures.told ∙ flat_told l.mode l.level.now c.args.block l.body.now c.args.at c.requires.at c.requires.groups c.requires.parts
