use Rattle.std.proofs.Common.{refl, ap, ◌∙◌, sym, rules, FitsSigned}
use mir.Syntax.{w128}
use Rattle.std.specs.Prelude.{Some}
use Rattle.std.proofs.lemmas.Int.{to_z-of_z}
use Rattle.std.specs.Option.{option_and_then}
use Rattle.field_values.specs.Reports.{number_in}
use Rattle.flyweight_view.proofs.SlotsTold.{slot_value, alive_of}
use Rattle.flyweight_view.proofs.values.field_number.Goals as goal

pub number_in-requires-clause-ready : goal.number_in-requires-clause-ready
number_in-requires-clause-ready c = c.slot_of-slot.ensures.order

pub number_in-requires-clause-number : goal.number_in-requires-clause-number
number_in-requires-clause-number c =
    let value = slot_value c.args.span.now c.args.plan.now c.requires.seen c.args.i c.slot_of-slot.result c.slot_of-slot.ensures in
    let told = alive_of number_in c.args.span.now c.args.plan.now c.args.i c.slot_of-slot.result refl value c.requires.number in
    (c.args.span.now.mode.known, value.0, value.2.shows told.0, told.1)

pub returns : goal.returns
returns c =
    let value = slot_value c.args.span.now c.args.plan.now c.requires.seen c.args.i c.slot_of-slot.result c.slot_of-slot.ensures in
    let told = alive_of number_in c.args.span.now c.args.plan.now c.args.i c.slot_of-slot.result refl value c.requires.number in
    let fits : FitsSigned w128 c.number_in.result = search rules in
    ap (option_and_then number_in) value.1
    ∙ c.number_in.ensures c.args.span.now.mode.known value.0 (value.2.shows told.0) told.1
    ∙ ap Some (sym (to_z-of_z w128 c.number_in.result fits))
