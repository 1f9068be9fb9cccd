use Rattle.std.proofs.Common.{◌≡◌, ◌++◌, take}
use Rattle.std.specs.Prelude.{flat_map}
use Rattle.bridge_plan.specs.Mappings.{Mapping}
use Rattle.value_texts.specs.Rows.{Spells}
use Rattle.message_plans.specs.Plans.{ArePlans}
use Rattle.coverage_command.specs.Coverage.{covered_lines}
use Rattle.coverage_command.proofs.lines.put_coverage.Given as goal

abbrev pub invariant-loop-i : goal.invariant-loop-i
invariant-loop-i l = (m : Mapping) → ArePlans Spells m l.levels l.plan → l.out.items ≡ l.fn.out.items ++ flat_map (covered_lines m) (take l.i l.levels)
