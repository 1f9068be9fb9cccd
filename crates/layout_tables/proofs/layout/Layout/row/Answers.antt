use Rattle.std.proofs.Common.{◌<◌, length, subst, ap, refl, arith}
use Rattle.std.proofs.lemmas.Option.{slice_get_read}
use Rattle.schema_facts.specs.Levels.{all_nodes}
use Rattle.layout_tables.specs.Rowed.{RowFor}
use Rattle.layout_tables.proofs.Told.{node_row}
use Rattle.layout_tables.proofs.layout.Layout.row.Goals as goal

pub returns : goal.returns
returns c =
    let levels = c.self.inside.tables.levels.items in
    let bound : c.args.level < length levels = omega (arith, c.self.invariant.rows.as_many, ap (λ s. length (all_nodes s)) c.self.view_is) in
    let at = slice_get_read levels _ c.args.level c.index.result.now refl bound c.index.ensures in
    subst (λ s. RowFor s c.args.level c.index.result.now) c.self.view_is (node_row c.self.inside.schema levels c.args.level c.index.result.now c.self.invariant.rows at)
