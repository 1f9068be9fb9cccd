use Rattle.std.proofs.Common.{subst}
use Rattle.map_members.specs.Lent.{lent_members}
use Rattle.map_links.specs.declared.ids.Ids.{Ids}
use Rattle.map_links.specs.Links.{linked}
use Rattle.map_rules.specs.Verdicts.{Answers}
use Rattle.map_rules.specs.Rules.{verdict_by}
use Rattle.map_rules.proofs.Keys.{field_ids, component_ids, group_ids, message_types}
use Rattle.map_rules.proofs.verdict.judge_by_ids.Goals as goal

pub judge_with_ids-requires-clause-fields : goal.judge_with_ids-requires-clause-fields
judge_with_ids-requires-clause-fields c =
    field_ids c.in_ok-ids.ids c.args.fields.now c.args.components.now c.args.groups.now c.args.messages.now c.in_ok-ids.ensures

pub judge_with_ids-requires-clause-components : goal.judge_with_ids-requires-clause-components
judge_with_ids-requires-clause-components c =
    component_ids c.in_ok-ids.ids c.args.fields.now c.args.components.now c.args.groups.now c.args.messages.now c.in_ok-ids.ensures

pub judge_with_ids-requires-clause-groups : goal.judge_with_ids-requires-clause-groups
judge_with_ids-requires-clause-groups c =
    group_ids c.in_ok-ids.ids c.args.fields.now c.args.components.now c.args.groups.now c.args.messages.now c.in_ok-ids.ensures

pub judge_with_ids-requires-clause-messages : goal.judge_with_ids-requires-clause-messages
judge_with_ids-requires-clause-messages c =
    message_types c.in_ok-ids.ids c.args.fields.now c.args.components.now c.args.groups.now c.args.messages.now c.in_ok-ids.ensures

pub returns : goal.returns
returns c =
    subst
    (λ (ids : Ids). Answers c.judge_with_ids.result (verdict_by ids c.args.tables.now (lent_members c.args.fields.now) (linked c.args.components.now c.args.groups.now c.args.messages.now)))
    c.in_ok-ids.ensures c.judge_with_ids.ensures
