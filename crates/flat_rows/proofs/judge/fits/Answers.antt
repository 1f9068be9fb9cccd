use Rattle.std.proofs.Common.{◌≡◌, ◌∷◌, ◌+◌, ◌∙◌, sym, ap, subst, arith, length, drop, get_or}
use Rattle.flat_rows.specs.Tables.{RowsFit}
use Rattle.flat_rows.proofs.RowsJudged.{there}
use Rattle.flat_rows.proofs.judge.fits.Goals as goal

pub loop-row-init : goal.loop-row-init
loop-row-init c = (λ h. h, λ h. h)

pub loop-row-preserved : goal.loop-row-preserved
loop-row-preserved c =
    let rows = c.args.table.now.rows.items in
    let i = c.loop-row.row-index in
    let r = c.row-item.result in
    let so_far = c.loop-row.invariant in
    let next : drop i rows ≡ r ∷ drop (i + 1) rows =
    there rows i r (omega (arith, ap length c.as_slice-row-items.ensures.value, c.loop-row-test.true)) (c.row-item.is ∙ ap (λ xs. get_or xs i r) c.as_slice-row-items.ensures.value) in (
      λ h. so_far.0 (subst (RowsFit (length c.args.block.now)) (sym next) (c.if-row-block.false, h)),
      λ h. (subst (RowsFit (length c.args.block.now)) next (so_far.1 h)).1,
    )
