use Rattle.map_rules.proofs.Lying.{components_lie, groups_lie, messages_lie, messages_are_there, messages_end}
use Rattle.map_rules.proofs.references.judge_by.Goals as goal

pub judge_components-requires-clause-nodes : goal.judge_components-requires-clause-nodes
judge_components-requires-clause-nodes c = components_lie c.args.ids.now c.args.components.now c.args.groups.now c.args.messages.now c.args.structures.now c.requires.nodes

pub judge_groups-requires-clause-nodes : goal.judge_groups-requires-clause-nodes
judge_groups-requires-clause-nodes c = groups_lie c.args.ids.now c.args.components.now c.args.groups.now c.args.messages.now c.args.structures.now c.requires.nodes

pub judge_messages-requires-clause-long : goal.judge_messages-requires-clause-long
judge_messages-requires-clause-long c = messages_are_there c.args.ids.now c.args.components.now c.args.groups.now c.args.messages.now c.args.structures.now c.requires.nodes

pub judge_messages-requires-clause-nodes : goal.judge_messages-requires-clause-nodes
judge_messages-requires-clause-nodes c = messages_lie c.args.ids.now c.args.components.now c.args.groups.now c.args.messages.now c.args.structures.now c.requires.nodes

pub judge_messages-requires-clause-ends : goal.judge_messages-requires-clause-ends
judge_messages-requires-clause-ends c =
    messages_end c.args.ids.now c.args.components.now c.args.groups.now c.args.messages.now c.args.structures.now c.requires.nodes c.requires.components c.requires.groups
    c.in_ok-judge_components.ensures c.in_ok-judge_groups.ensures
