use Rattle.std.specs.Option.{option_map}
use Rattle.message_walk.proofs.ReachedLemmas.{parts_step}
use Rattle.message_walk.proofs.reached.Reached.later_data.Goals as goal

pub returns-clause-reached : goal.returns-clause-reached
returns-clause-reached c =
    let step = parts_step c.args.block.now c.parts_before-left.result.1 c.args.number c.parts_before-left.result.0 c.step_parts.new.parts
    (option_map (λ b. b.now) c.next_part-found.result) c.next_part-found.new.self
    c.parts_before-left.ensures.left c.parts_before-left.ensures.before c.step_parts.ensures c.next_part-found.ensures in
    record { groups = c.requires.groups; parts = step.left }

pub returns-clause-data : goal.returns-clause-data
returns-clause-data c = λ below.
    let step = parts_step c.args.block.now c.parts_before-left.result.1 c.args.number c.parts_before-left.result.0 c.step_parts.new.parts
    (option_map (λ b. b.now) c.next_part-found.result) c.next_part-found.new.self
    c.parts_before-left.ensures.left c.parts_before-left.ensures.before c.step_parts.ensures c.next_part-found.ensures in
    step.bytes
