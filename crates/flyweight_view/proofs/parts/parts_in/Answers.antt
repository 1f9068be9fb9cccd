use Rattle.std.proofs.Common.{◌≡◌, [], ◌∙◌, arith}
use Rattle.std.proofs.lemmas.Bool.Decides.{nat_tests}
use Rattle.sbe_types.specs.declared.schema.Level.{out-Level}
use Rattle.body_walk.specs.declared.layer.Layer.{Layer}
use Rattle.flyweight_view.proofs.TailsSeen.{layer_is, first_stands, parts_line, parts_first, without_parts}
use Rattle.body_walk.proofs.Opens.{none_there, level_within}
use Rattle.flyweight_view.proofs.parts.parts_in.Goals as goal

pub groups_end-at-requires-clause-stand : goal.groups_end-at-requires-clause-stand
groups_end-at-requires-clause-stand c =
    let s = c.args.span.now in
    let x : Layer = record { layout = c.in-Level.layout; number = c.in-Level.number; level = c.in-Level.level; mode = s.mode; body = s.body } in
    first_stands s c.args.plan.now c.requires x c.in-Level.is c.first_child.result c.first_child.ensures

pub over-requires-clause-line : goal.over-requires-clause-line
over-requires-clause-line c =
    let s = c.args.span.now in
    let x : Layer = record { layout = c.in-Level.layout; number = c.in-Level.number; level = c.in-Level.level; mode = s.mode; body = s.body } in
    parts_line s c.args.plan.now c.requires x c.in-Level.is c.first_child.result c.groups_end-at.result c.groups_end-at.ensures.rest c.groups_end-at.ensures.within

pub returns-else-is_empty : goal.returns-else-is_empty
returns-else-is_empty c =
    let s = c.args.span.now in
    let x : Layer = record { layout = c.in-Level.layout; number = c.in-Level.number; level = c.in-Level.level; mode = s.mode; body = s.body } in
    c.over.ensures ∙ parts_first s c.args.plan.now c.requires x c.in-Level.is c.first_child.result c.groups_end-at.result c.groups_end-at.ensures.rest

pub first_child-requires : goal.first_child-requires
first_child-requires c =
    let s = c.args.span.now in
    let x : Layer = record { layout = c.in-Level.layout; number = c.in-Level.number; level = c.in-Level.level; mode = s.mode; body = s.body } in
    level_within x.layout.now x.number x.level.now (layer_is s c.args.plan.now c.requires x c.in-Level.is).level_is

pub returns-then-is_empty : goal.returns-then-is_empty
returns-then-is_empty c =
    let s = c.args.span.now in
    let x : Layer = record { layout = c.in-Level.layout; number = c.in-Level.number; level = c.in-Level.level; mode = s.mode; body = s.body } in
    let none : (out-Level x.level.now).parts ≡ [] = none_there (out-Level x.level.now).parts (grind (arith, nat_tests)) in
    c.empty.ensures ∙ without_parts s c.args.plan.now c.requires x c.in-Level.is none
