use Rattle.sbe_types.specs.declared.schema.Level.{Level, out-Level}
use Rattle.schema_rules.specs.PartRules.{most_groups}
use Rattle.schema_facts.specs.CheckedLevels.{groups_deep}
use Rattle.schema_facts.proofs.KindDeclared.{all_at}
use Rattle.std.proofs.Common.{◌≤◌}
use Rattle.tofix_replies.proofs.Near.{near_refusal}
use Rattle.tofix_replies.proofs.laws.ways_have_few_steps.Goals as goal

pub returns : goal.returns
returns c = λ schema i level m s limit head t u checked there is.
    near_refusal m s level (all_at (λ (root : Level). groups_deep root ≤ most_groups) schema.messages i level checked.nesting there) m.lists limit (out-Level level).semantic head t u is
