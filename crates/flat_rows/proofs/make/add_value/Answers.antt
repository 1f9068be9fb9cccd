use Rattle.std.proofs.Common.{◌∷◌, [], ap}
use Rattle.flat_rows.proofs.Growing.{row_added, regrown}
use Rattle.flat_rows.proofs.make.add_value.Goals as goal

pub returns : goal.returns
returns c =
    let row = c.in_ok-row.row in
    regrown (ap (λ s. s ∷ []) c.in_ok-row.ensures.value) (row_added c.args.table.now _ row c.in_ok-push.ensures.items c.in_ok-row.ensures.row)
