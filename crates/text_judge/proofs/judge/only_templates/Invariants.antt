use Rattle.std.proofs.Common.{◌≡◌, List, length}
use Rattle.sbe_types.specs.declared.schema.Level.{Level}
use Rattle.bridge_plan.specs.Mappings.{Mapping}
use Rattle.message_plans.specs.Plans.{ArePlans}
use Rattle.value_texts.specs.Rows.{Spells}
use Rattle.text_judge.specs.Judges.{MarkOnly}
use Rattle.text_judge.proofs.judge.only_templates.Given as goal

abbrev pub invariant-loop-template : goal.invariant-loop-template
invariant-loop-template l = (length l.marks ≡ l.template) × ((m : Mapping) (levels : List Level) → ArePlans Spells m levels l.plan → MarkOnly levels l.marks)
