use Rattle.std.proofs.Common.{◌≡◌}
use Rattle.reference_graph.specs.Expansion.{Structure}
use Rattle.structure_rows.specs.Rows.{rows_of}
use Rattle.bridge_plan.specs.Mappings.{Mapping}
use Rattle.bridge_plan.specs.Covers.{plan_of}
use Rattle.bridge_cover.specs.Tables.{AreTables}
use Rattle.message_walk.specs.Rows.{AreRows}
use Rattle.plan_rows.proofs.Ruling.{some_of}
use Rattle.message_plans.proofs.Covering.{mapped}
use Rattle.message_plans.proofs.making.rows_cover.Goals as goal

pub returns-in-Some : goal.returns-in-Some
returns-in-Some g c = λ m s h k there none.
    let level = c.args.level.now in
    let follows = g.R.RuleRow.follows_rule in
    let are =
    some_of (λ rows. (m : Mapping) (s : Structure) → AreTables m c.args.tables.now → c.args.places.now ≡ rows_of s → AreRows follows m.lists (plan_of m s level) rows.items) c.in_ok-level_rows.field-0
    c.in-Some.rows c.in_ok-level_rows.ensures c.in-Some.is in
    mapped follows m level s c.in-Some.rows.items there none (are m s h k)
