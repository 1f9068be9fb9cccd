use Rattle.std.proofs.Common.{sym, subst}
use Rattle.flat_rows.specs.Tables.{RowsFit}
use Rattle.body_walk.specs.inner.Blocks.{ShowsEach}
use Rattle.body_walk.proofs.blocks.shows_block.Goals as goal

pub shows_each-requires-clause-fits : goal.shows_each-requires-clause-fits
shows_each-requires-clause-fits c = λ newest. subst (λ k. RowsFit k c.args.row.now.flat.rows.items) (sym c.in-Some.ensures.lies.long) (c.requires.fits newest)

pub returns-in-Some-clause-room : goal.returns-in-Some-clause-room
returns-in-Some-clause-room c = λ _. c.in-Some.ensures.lies.room

pub returns-in-Some-clause-shows : goal.returns-in-Some-clause-shows
returns-in-Some-clause-shows c = λ h. subst (ShowsEach c.args.mode c.args.row.now) c.in-Some.ensures.lies.bytes_are (c.shows_each.ensures h)
