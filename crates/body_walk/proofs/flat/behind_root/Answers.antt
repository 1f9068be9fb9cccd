use Rattle.std.proofs.Common.{refl}
use Rattle.body_walk.proofs.BlockRows.{block_row, block_fits, flat_shown}
use Rattle.body_walk.proofs.flat.behind_root.Goals as goal

pub shows_root-requires-clause-table : goal.shows_root-requires-clause-table
shows_root-requires-clause-table c =
    let l = c.args.layer.now in
    (block_row l.layout.now l.number c.args.row.now l.level.now l.mode.version c.args.block c.requires.layer.ready c.requires.row c.requires.layer.level_is c.requires.reaches).flat_is.table_is

pub shows_root-requires-clause-fits : goal.shows_root-requires-clause-fits
shows_root-requires-clause-fits c =
    let l = c.args.layer.now in
    block_fits l.mode.version c.args.block l.level.now c.args.row.now
    (block_row l.layout.now l.number c.args.row.now l.level.now l.mode.version c.args.block c.requires.layer.ready c.requires.row c.requires.layer.level_is c.requires.reaches)

pub returns-clause-told : goal.returns-clause-told
returns-clause-told c =
    let l = c.args.layer.now in
    flat_shown l.mode l.level.now c.args.row.now c.args.block l.body.now c.args.at
    (block_row l.layout.now l.number c.args.row.now l.level.now l.mode.version c.args.block c.requires.layer.ready c.requires.row c.requires.layer.level_is c.requires.reaches)
    (c.if-not-shows_root.ensures.room refl) (c.if-not-shows_root.ensures.shows refl) c.requires.groups c.requires.parts

pub returns-clause-within : goal.returns-clause-within
returns-clause-within c = c.if-not-shows_root.ensures.room refl
