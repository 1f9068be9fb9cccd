use Rattle.std.proofs.Common.{◌≡◌, ◌≤◌, IfSome, subst, arith}
use Rattle.sbe_types.specs.declared.schema.Level.{Level}
use Rattle.schema_rules.specs.PartRules.{most_groups}
use Rattle.schema_facts.specs.CheckedLevels.{groups_deep}
use Rattle.var_data.proofs.DataRows.{at_each}
use Rattle.body_walk.specs.declared.header.Start.{Start}
use Rattle.body_walk.proofs.Bodies.{root_level}
use Rattle.body_walk.proofs.header.walk_message.Goals as goal

pub judge_start-requires : goal.judge_start-requires
judge_start-requires c = record { level = root_level c.args.layout.now c.args.template c.root-root.result c.message-level.result.now c.root-root.ensures c.message-level.ensures }

pub walk_root-requires-clause-level : goal.walk_root-requires-clause-level
walk_root-requires-clause-level c = root_level c.args.layout.now c.args.template c.root-root.result c.message-level.result.now c.root-root.ensures c.message-level.ensures

pub walk_root-requires-clause-shallow : goal.walk_root-requires-clause-shallow
walk_root-requires-clause-shallow c =
    at_each (λ (level : Level). groups_deep level ≤ most_groups) c.args.layout.now.messages c.args.template c.message-level.result.now c.requires.schema.checked.nesting c.message-level.ensures

pub returns-in-None-walk_root-clause-low : goal.returns-in-None-walk_root-clause-low
returns-in-None-walk_root-clause-low c =
    let shallow = at_each (λ (level : Level). groups_deep level ≤ most_groups) c.args.layout.now.messages c.args.template c.message-level.result.now c.requires.schema.checked.nesting c.message-level.ensures in
    omega (arith, shallow, c.in-None-walk_root.ensures.low)

pub returns-in-Some-walk_root-clause-version : goal.returns-in-Some-walk_root-clause-version
returns-in-Some-walk_root-clause-version c =
    subst (λ (s : Start). IfSome c.judge_rest.result (λ version. version ≡ s.version)) c.in-Some.ensures.same c.judge_rest.ensures.version
