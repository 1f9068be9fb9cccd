use Rattle.std.proofs.Common.{subst, sym, arith}
use Rattle.flat_rows.specs.BlockChecks.{ScalarsShow}
use Rattle.flat_rows.specs.Tables.{stands_for}
use Rattle.body_walk.proofs.blocks.shows_each.Goals as goal

pub shows_all-requires-clause-fits : goal.shows_all-requires-clause-fits
shows_all-requires-clause-fits c = c.requires.fits (omega arith)

pub returns-in-Little : goal.returns-in-Little
returns-in-Little c = λ yes. record {
  newest = omega arith;
  shows = subst (λ o. ScalarsShow o c.args.mode.known (stands_for c.args.row.now.flat) c.args.block.now) (sym c.in-Little.is) (c.shows_all.ensures yes);
}
