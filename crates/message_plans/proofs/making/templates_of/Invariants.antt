use Rattle.std.proofs.Common.{◌≡◌, length}
use Rattle.bridge_plan.specs.Mappings.{Mapping}
use Rattle.bridge_mapping.specs.Tables.{structures_in}
use Rattle.bridge_cover.specs.Tables.{AreTables}
use Rattle.message_plans.specs.Plans.{AreInOrder}
use Rattle.message_plans.proofs.Kinded.{GoesBefore}
use Rattle.message_plans.proofs.making.templates_of.Given as goal

abbrev pub invariant-levels : goal.invariant-levels
invariant-levels g l =
    record {
      order : AreInOrder l.left;
      made : (m : Mapping) → AreTables m l.tables → m.messages ≡ structures_in l.messages → GoesBefore g.R.RuleRow.follows_rule m l.levels l.left l.templates;
    }

abbrev pub decreases-levels : goal.decreases-levels
decreases-levels g l = length l.left
