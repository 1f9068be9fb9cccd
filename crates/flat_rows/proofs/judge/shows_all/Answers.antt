use Rattle.std.proofs.Common.{◌≡◌, [], sym, ap, subst, arith, length, drop}
use Rattle.std.proofs.lemmas.List.{drop_all}
use Rattle.flat_rows.proofs.RowsJudged.{RowsShow, rows_values}
use Rattle.flat_rows.proofs.judge.shows_all.Goals as goal

pub loop-row-init : goal.loop-row-init
loop-row-init c = record { are = c.requires.table; fit = c.requires.fits; show = λ h. h }

pub returns : goal.returns
returns c = λ yes.
    let rows = c.args.table.now.rows.items in
    let i = c.loop-row.row-index in
    let done : drop i rows ≡ [] = drop_all i rows (omega (arith, ap length c.as_slice-row-items.ensures.value)) in
    rows_values c.args.known c.args.block.now rows (c.loop-row.invariant.show (subst (RowsShow c.args.known c.args.block.now) (sym done) tt))
