use Rattle.std.proofs.Common.{inr, refl, sym, subst}
use Rattle.sbe_wire.specs.Lays.{Lays}
use Rattle.body_walk.specs.Refusals.{refused}
use Rattle.regrade_command.specs.Regrade.{Regrading, IsRegradable}
use Rattle.regrade_command.proofs.Pairs.{from_is}
use Rattle.regrade_command.proofs.Answering.{noted_as, delivered_as, body_read, body_fault, way_there}
use Rattle.regrade_command.proofs.answer.answer_body.Goals as goal

pub answer_read-requires-clause-lies : goal.answer_read-requires-clause-lies
answer_read-requires-clause-lies g c =
    let from = from_is c.pair.inside.read (record { from = c.pair.inside.from; to = c.pair.inside.to }) c.args.pair.now c.pair.invariant.0 c.pair.view_is in
    (c.args.body.now, subst (λ s. Lays s c.in-Ok.message c.args.body.now) from c.in-Ok.ensures.lies, c.requires.body)

pub returns-in-Ok-clause-answers : goal.returns-in-Ok-clause-answers
returns-in-Ok-clause-answers g c = λ limit at.
    let on : Regrading = record { pair = c.args.pair.now; frame = limit } in
    let from = from_is c.pair.inside.read (record { from = c.pair.inside.from; to = c.pair.inside.to }) c.args.pair.now c.pair.invariant.0 c.pair.view_is in
    let good : IsRegradable c.args.pair.now = subst IsRegradable c.pair.view_is c.pair.invariant.2 in
    delivered_as _ _ _ _ _ (sym (body_read on c.args.item c.args.body.now c.in-Ok.message good.from.placed (subst (λ s. Lays s c.in-Ok.message c.args.body.now) from c.in-Ok.ensures.lies)))
    (c.answer_read.ensures.answers limit at)

pub note_fault-requires : goal.note_fault-requires
note_fault-requires g c =
    let refusal = c.in-Err-Refused.refusal in
    let told = rw c.in-Err-Refused.field-0-is at c.in-Err-Refused.ensures.refused in
    way_there c.pair.inside.read c.args.body.now refusal.template (refused refusal) told.0 told.1

pub returns-in-Err-Refused-clause-answers : goal.returns-in-Err-Refused-clause-answers
returns-in-Err-Refused-clause-answers g c = λ limit at.
    let on : Regrading = record { pair = c.args.pair.now; frame = limit } in
    let from = from_is c.pair.inside.read (record { from = c.pair.inside.from; to = c.pair.inside.to }) c.args.pair.now c.pair.invariant.0 c.pair.view_is in
    let good : IsRegradable c.args.pair.now = subst IsRegradable c.pair.view_is c.pair.invariant.2 in
    let refusal = c.in-Err-Refused.refusal in
    let told = rw c.in-Err-Refused.field-0-is at c.in-Err-Refused.ensures.refused in
    noted_as (g.N.Sink.state c.args.notes.now) (g.N.Sink.state c.note_fault.new.notes) _ _ (g.O.Sink.state c.args.output.now) c.note_fault.result c.refused.result
    (body_fault on c.args.item c.args.body.now c.pair.inside.read refusal.template (refused refusal) from good.from.placed told.0 told.1) c.note_fault.ensures c.refused.ensures

pub returns-in-Err-Memory-clause-answers : goal.returns-in-Err-Memory-clause-answers
returns-in-Err-Memory-clause-answers g c = λ limit at. inr (refl, refl)
