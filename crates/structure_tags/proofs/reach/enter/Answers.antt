use Rattle.std.proofs.Common.{◌≡◌, ◌<◌, Some, inl, inr, refl, ap, ◌∙◌, length, arith}
use Rattle.std.specs.Prelude.{slice_get}
use Rattle.std.proofs.lemmas.Option.{slice_get_read, slice_get_past}
use Rattle.structure_tags.specs.Reaching.{a_field, passes, goes_in}
use Rattle.structure_tags.proofs.reach.enter.Goals as goal
use Rattle.structure_tags.proofs.reach.enter.Goals.{in_default-via-in-Some+else-not-index, in_default-via-in_default}

pub returns-in-Field : goal.returns-in-Field
returns-in-Field c = a_field c.in-Field.tag c.in-Field.is refl refl refl

pub returns-in-Some : goal.returns-in-Some
returns-in-Some c =
    goes_in c.in-To.i c.in-Some.node.now c.in-To.is
    (slice_get_read c.args.nodes.now (length c.args.nodes.now) c.in-To.i c.in-Some.node.now refl c.in-Some.ensures.lookup.3.0 c.in-Some.ensures.lookup.1)
    refl c.as_slice.ensures refl

pub returns-in_default : goal.returns-in_default
returns-in_default c = elim c.in_default.branch [
  | in_default-via-in-Some+else-not-index w ↦
      let inside : c.in-To.i < length c.args.nodes.now = w.in-Some.ensures.lookup.3.0 in
      let long : length c.args.entered.now.items ≡ length c.args.nodes.now = c.requires.long in
      let within : c.in-To.i < length c.args.entered.now.items = omega arith in
      let read : slice_get c.args.entered.now.items c.in-To.i ≡ Some w.index.result.now =
      slice_get_read c.args.entered.now.items (length c.args.entered.now.items) c.in-To.i w.index.result.now refl within w.index.ensures in
      passes c.in-To.i c.in-To.is (inr (read ∙ ap Some w.if-not-index.false)) refl refl refl
  | in_default-via-in_default w ↦ passes c.in-To.i c.in-To.is (inl (slice_get_past c.args.nodes.now c.in-To.i w.in_default.ensures.lookup.3)) refl refl refl
]
