use Rattle.std.proofs.Common.{refl}
use Rattle.layout_tables.proofs.LeastRows.{entry_told, entry_some}
use Rattle.layout_tables.proofs.layout.Layout.min_entry.Goals as goal

pub returns-clause-some : goal.returns-clause-some
returns-clause-some c = λ since group at alive.
    let told = entry_told c.args.self.now c.args.level c.args.version _ _ _ _ c.requires c.floor.ensures c.groups_least-groups.ensures.least c.parts_least-parts.ensures.least refl in
    entry_some c.args.self.now c.args.level c.args.version since _ c.schema-schema.ensures.order.entries c.requires group at alive told
