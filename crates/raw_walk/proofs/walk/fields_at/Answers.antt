use Rattle.std.proofs.Common.{◌≡◌, ◌<◌, sym, ap, ◌∙◌, subst, arith, length, take, length-take-le, Some, None}
use Rattle.tagvalue_codec.specs.declared.table.FixField.{FixField}
use Rattle.raw_walk.specs.Walks.{PassesIf, step}
use Rattle.raw_walk.proofs.Passing.{none_here, locked_here, data_here, plain_here}
use Rattle.raw_walk.proofs.walk.fields_at.Goals as goal

pub returns-in_default-clause-passes : goal.returns-in_default-clause-passes
returns-in_default-clause-passes c = λ many few.
    let front = take c.args.front.stop c.args.front.held.now in
    let within : c.args.at < length front = omega (arith, c.requires.within, length-take-le c.args.front.stop c.args.front.held.now c.requires.stop) in
    none_here c.args.tags.now front many c.args.at few within c.in_default.ensures.field

pub returns-then-is_locked-clause-passes : goal.returns-then-is_locked-clause-passes
returns-then-is_locked-clause-passes c = λ many few.
    let front = take c.args.front.stop c.args.front.held.now in
    let within : c.args.at < length front = omega (arith, c.requires.within, length-take-le c.args.front.stop c.args.front.held.now c.requires.stop) in
    locked_here c.args.tags.now front many c.args.at c.in-Some.field few within c.in-Some.ensures.field (sym c.is_locked.ensures ∙ c.if-is_locked.true)

pub returns-in-Plain-clause-passes : goal.returns-in-Plain-clause-passes
returns-in-Plain-clause-passes c = λ many few.
    let front = take c.args.front.stop c.args.front.held.now in
    let within : c.args.at < length front = omega (arith, c.requires.within, length-take-le c.args.front.stop c.args.front.held.now c.requires.stop) in
    plain_here c.args.tags.now front many c.args.at c.in-Some.field few within c.in-Some.ensures.field (sym c.is_locked.ensures ∙ c.if-is_locked.false) (sym c.in-Plain.ensures)

pub returns-in-Data-clause-passes : goal.returns-in-Data-clause-passes
returns-in-Data-clause-passes c = λ many few.
    let front = take c.args.front.stop c.args.front.held.now in
    let within : c.args.at < length front = omega (arith, c.requires.within, length-take-le c.args.front.stop c.args.front.held.now c.requires.stop) in
    data_here c.args.tags.now front many c.args.at c.in-Some.field few within c.in-Some.ensures.field (sym c.is_locked.ensures ∙ c.if-is_locked.false) (sym c.in-Data.ensures)

pub returns-in-Some-after_data-clause-passes : goal.returns-in-Some-after_data-clause-passes
returns-in-Some-after_data-clause-passes c = λ many few.
    let front = take c.args.front.stop c.args.front.held.now in
    let at : c.in-Some.field.at ≡ c.args.at = ap (λ (x : FixField). x.at) c.in-Some.ensures.field.placed_is in
    subst (λ k. PassesIf c.args.tags.now front (step many k) (Some (2, c.in-Some-after_data.next))) at (c.in-Some-after_data.ensures.passes c.args.tags.now many (sym c.in-Length.ensures) few)

pub returns-in-None-clause-passes : goal.returns-in-None-clause-passes
returns-in-None-clause-passes c = λ many few.
    let front = take c.args.front.stop c.args.front.held.now in
    let at : c.in-Some.field.at ≡ c.args.at = ap (λ (x : FixField). x.at) c.in-Some.ensures.field.placed_is in
    subst (λ k. PassesIf c.args.tags.now front (step many k) None) at (c.in-None.ensures.passes c.args.tags.now many (sym c.in-Length.ensures) few)
