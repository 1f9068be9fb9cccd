use Rattle.std.proofs.Common.{ap, inr, refl, sym, subst, Ok, Err}
use Rattle.std.specs.Prelude.{is_some}
use Rattle.regrade.specs.Regrades.{LiesInFrame, Regrades}
use Rattle.regrade.specs.declared.regrading.RegradeErr.TheVariants as err
use Rattle.regrade_command.specs.Regrade.{FromTo, Regrading, rewritten_reply}
use Rattle.regrade_command.proofs.Answering.{noted_as, delivered_as, rewritten_is, no_template_is, no_fill_is}
use Rattle.regrade_command.proofs.Templates.{template_there}
use Rattle.regrade_command.proofs.answer.answer_read.Goals as goal

pub regrade-requires-clause-way : goal.regrade-requires-clause-way
regrade-requires-clause-way g c = c.pair.invariant.2.way

pub regrade-requires-clause-lies : goal.regrade-requires-clause-lies
regrade-requires-clause-lies g c = subst (λ (p : FromTo). LiesInFrame p.from c.args.message.now) (sym c.pair.view_is) c.requires.lies

pub answer_regraded-requires-clause-known : goal.answer_regraded-requires-clause-known
answer_regraded-requires-clause-known g c =
    let told = subst (λ (p : FromTo). Regrades p.from p.to c.args.message.now (Ok c.in-Ok.regraded)) c.pair.view_is c.in-Ok.ensures in
    template_there c.args.pair.now.from c.args.pair.now.to c.args.message.now c.in-Ok.regraded.msg told.0

pub returns-in-Ok-clause-answers : goal.returns-in-Ok-clause-answers
returns-in-Ok-clause-answers g c = λ limit at.
    let on : Regrading = record { pair = c.args.pair.now; frame = limit } in
    let told = subst (λ (p : FromTo). Regrades p.from p.to c.args.message.now (Ok c.in-Ok.regraded)) c.pair.view_is c.in-Ok.ensures in
    delivered_as _ _ _ _ _ (rewritten_is on c.args.item c.args.message.now c.in-Ok.regraded c.args.space.now.buffer.limit at told.0 told.1 told.2) c.answer_regraded.ensures.answers

pub returns-in-Err-NoTemplate-clause-answers : goal.returns-in-Err-NoTemplate-clause-answers
returns-in-Err-NoTemplate-clause-answers g c = λ limit at.
    let on : Regrading = record { pair = c.args.pair.now; frame = limit } in
    let told = subst (λ (p : FromTo). Regrades p.from p.to c.args.message.now (Err err.NoTemplate)) c.pair.view_is (rw c.in-Err-NoTemplate.field-0-is at c.in-Err-NoTemplate.ensures) in
    noted_as (g.N.Sink.state c.args.notes.now) (g.N.Sink.state c.note_no_template.new.notes) (rewritten_reply on c.args.item c.args.message.now) _ (g.O.Sink.state c.args.output.now)
    c.note_no_template.result c.refused.result (no_template_is on c.args.item c.args.message.now told) c.note_no_template.ensures c.refused.ensures

pub note_lack-requires-clause-known : goal.note_lack-requires-clause-known
note_lack-requires-clause-known g c = ap is_some c.requires.lies.1.5

pub note_lack-requires-clause-lacks : goal.note_lack-requires-clause-lacks
note_lack-requires-clause-lacks g c = subst (λ (p : FromTo). Regrades p.from p.to c.args.message.now (Err (err.NoFill c.in-Err-NoFill.path))) c.pair.view_is (rw c.in-Err-NoFill.field-0-is at c.in-Err-NoFill.ensures)

pub returns-in-Err-NoFill-clause-answers : goal.returns-in-Err-NoFill-clause-answers
returns-in-Err-NoFill-clause-answers g c = λ limit at.
    let on : Regrading = record { pair = c.args.pair.now; frame = limit } in
    let told = subst (λ (p : FromTo). Regrades p.from p.to c.args.message.now (Err (err.NoFill c.in-Err-NoFill.path))) c.pair.view_is (rw c.in-Err-NoFill.field-0-is at c.in-Err-NoFill.ensures) in
    noted_as (g.N.Sink.state c.args.notes.now) (g.N.Sink.state c.note_lack.new.notes) (rewritten_reply on c.args.item c.args.message.now) _ (g.O.Sink.state c.args.output.now)
    c.note_lack.result c.refused-in-Err-NoFill.result (no_fill_is on c.args.item c.args.message.now c.in-Err-NoFill.path told) c.note_lack.ensures c.refused-in-Err-NoFill.ensures

pub returns-in-Err-Memory-clause-answers : goal.returns-in-Err-Memory-clause-answers
returns-in-Err-Memory-clause-answers g c = λ limit at. inr (refl, refl)
