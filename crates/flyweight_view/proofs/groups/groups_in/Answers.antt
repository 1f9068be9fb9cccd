use Rattle.std.proofs.Common.{◌∙◌}
use Rattle.body_walk.specs.declared.layer.Layer.{Layer}
use Rattle.flyweight_view.proofs.TailsSeen.{layer_is, first_stands, first_left}
use Rattle.flyweight_view.proofs.groups.groups_in.Goals as goal

pub over-requires-clause-layer : goal.over-requires-clause-layer
over-requires-clause-layer c =
    let s = c.args.span.now in
    let x : Layer = record { layout = c.in-Level.layout; number = c.in-Level.number; level = c.in-Level.level; mode = s.mode; body = s.body } in
    layer_is s c.args.plan.now c.requires x c.in-Level.is

pub over-requires-clause-stand : goal.over-requires-clause-stand
over-requires-clause-stand c =
    let s = c.args.span.now in
    let x : Layer = record { layout = c.in-Level.layout; number = c.in-Level.number; level = c.in-Level.level; mode = s.mode; body = s.body } in
    first_stands s c.args.plan.now c.requires x c.in-Level.is c.first_child.result c.first_child.ensures

pub returns-else-is_empty : goal.returns-else-is_empty
returns-else-is_empty c =
    let s = c.args.span.now in
    let x : Layer = record { layout = c.in-Level.layout; number = c.in-Level.number; level = c.in-Level.level; mode = s.mode; body = s.body } in
    c.over.ensures ∙ first_left s c.args.plan.now c.requires x c.in-Level.is c.first_child.result
