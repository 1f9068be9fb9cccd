use Rattle.std.proofs.Common.{sym, subst}
use Rattle.flyweight_view.specs.inner.Planned.{IsPlan}
use Rattle.flyweight_view.proofs.TablesSeen.{RowOf, level_shown, some_then}
use Rattle.body_walk.proofs.Opens.{level_within}
use Rattle.flyweight_view.proofs.by_table.table_block.Goals as goal

pub row-requires : goal.row-requires
row-requires c =
    let plan = subst (λ p. IsPlan p c.args.span.now.size) c.in-Level.is c.requires.plan_is in
    level_within c.in-Level.layout.now _ _ plan.level_is

pub row_block-requires : goal.row_block-requires
row_block-requires c = c.requires.near

pub returns-in-Level : goal.returns-in-Level
returns-in-Level c =
    let row = c.row.result.now in
    let of = subst (λ p. RowOf p row) (sym c.in-Level.is) c.row.ensures in
    some_then _ _ c.row_block.result (level_shown c.args.span.now c.args.plan.now row c.requires of) c.row_block.ensures
