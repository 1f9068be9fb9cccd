use Rattle.message_walk.proofs.ReachedLemmas.{groups_step}
use Rattle.message_walk.proofs.reached.Reached.later_entries.Goals as goal

pub returns-clause-reached : goal.returns-clause-reached
returns-clause-reached c =
    let step = groups_step c.args.block.now c.groups_before-left.result.1 c.args.number c.groups_before-left.result.0 c.step_groups.new.groups
    c.next_group-entries.result c.next_group-entries.new.self
    c.groups_before-left.ensures.left c.groups_before-left.ensures.before c.step_groups.ensures c.next_group-entries.ensures in
    record { groups = step.left; parts = c.requires.parts }

pub returns-clause-entries : goal.returns-clause-entries
returns-clause-entries c = λ group found.
    let step = groups_step c.args.block.now c.groups_before-left.result.1 c.args.number c.groups_before-left.result.0 c.step_groups.new.groups
    c.next_group-entries.result c.next_group-entries.new.self
    c.groups_before-left.ensures.left c.groups_before-left.ensures.before c.step_groups.ensures c.next_group-entries.ensures in
    step.entries group found
