use Rattle.std.proofs.Common.{◌≡◌, ◌-◌, take, drop, ap, arith}
use Rattle.sbe_types.specs.Places.{width}
use Rattle.json_fields.proofs.by_table.bytes_of.Goals as goal

pub returns-clause-value : goal.returns-clause-value
returns-clause-value c =
    let row = c.args.row.now in
    let wide : row.end - row.place ≡ width row.kind = omega (arith, c.requires.row.end) in
    ap (λ w. take w (drop row.place c.args.block.now)) wide
