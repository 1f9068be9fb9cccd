use Rattle.std.proofs.Common.{arith}
use Rattle.layout_tables.proofs.Told.{newest_told}
use Rattle.layout_tables.proofs.layout.Layout.floor.Goals as goal

pub returns-then-version-row : goal.returns-then-version-row
returns-then-version-row c = newest_told c.args.self.now c.args.level c.args.version c.row-row.result.now c.row-row.ensures (omega arith)
