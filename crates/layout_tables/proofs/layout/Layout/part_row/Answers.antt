use Rattle.std.proofs.Common.{arith, ap, ◌∙◌}
use Rattle.std.specs.Option.{option_map}
use Rattle.layout_tables.specs.Rowed.{part_row}
use Rattle.layout_tables.proofs.Told.{parts_there, part_told}
use Rattle.layout_tables.proofs.layout.Layout.part_row.Goals as goal

pub row-requires : goal.row-requires
row-requires c = c.part_place-place.ensures.level

pub index-requires : goal.index-requires
index-requires c = omega (arith, parts_there c.args.self.now c.part_place-place.result.level c.row.result.now c.row.ensures, c.part_place-place.ensures.part)

pub returns : goal.returns
returns c =
    ap (option_map part_row) c.part_place-place.ensures.same
    ∙ part_told c.args.self.now c.part_place-place.result.level c.part_place-place.result.part c.row.result.now c.index.result.now c.row.ensures c.part_place-place.ensures.part c.index.ensures
