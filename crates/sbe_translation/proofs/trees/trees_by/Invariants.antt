use Rattle.std.proofs.Common.{◌≡◌, ◌≤◌, length}
use Rattle.bridge_plan.specs.CheckedLevels.{HasShortCodes}
use Rattle.bridge_plan.specs.Mappings.{Mapping}
use Rattle.bridge_mapping.specs.Tables.{structures_in}
use Rattle.bridge_cover.specs.Tables.{AreTables}
use Rattle.message_plans.specs.Plans.{ArePlans}
use Rattle.sbe_translation.specs.Plans.{HasDistinct, IsAny}
use Rattle.sbe_translation.proofs.Planning.{AreSoFar}
use Rattle.sbe_translation.proofs.trees.trees_by.Given as goal

abbrev pub invariant-loop-i : goal.invariant-loop-i
invariant-loop-i l =
    record {
      size : length l.trees ≡ l.i;
      within : l.i ≤ length l.checked.messages;
      held : (m : Mapping) → AreTables m l.tables → m.messages ≡ structures_in l.messages → HasShortCodes m → HasDistinct m
          → ArePlans IsAny m l.checked.messages l.plan → AreSoFar m l.checked.messages l.trees;
    }
