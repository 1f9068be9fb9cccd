use Rattle.std.proofs.Common.{◌≤◌, ◌∙◌, ap, length, sym, subst, arith}
use Rattle.sbe_base.specs.Objects.{Object}
use Rattle.build_command.specs.Build.{body_limit}
use Rattle.version_copies.specs.Copies.{copy_bytes}
use Rattle.regrade_command.specs.Regrade.{Regrading, IsRegradable, copy_reply, regrade_reply}
use Rattle.regrade_command.proofs.Pairs.{from_is, to_is, code_is}
use Rattle.regrade_command.proofs.Answering.{noted_as, delivered_as, right_encoding, wrong_encoding}
use Rattle.regrade_command.proofs.CopyAnswers.{copied_reply}
use Rattle.regrade_command.proofs.answer.answer_frame.Goals as goal

pub returns-then-encoding-encoding_of-clause-answers : goal.returns-then-encoding-encoding_of-clause-answers
returns-then-encoding-encoding_of-clause-answers g c = λ limit at.
    let on : Regrading = record { pair = c.args.pair.now; frame = limit } in
    let from = from_is c.pair.inside.read (record { from = c.pair.inside.from; to = c.pair.inside.to }) c.args.pair.now c.pair.invariant.0 c.pair.view_is in
    let code = code_is c.pair.inside.read c.args.pair.now.from c.order.result c.encoding_of.result c.encoding_of.ensures c.order.ensures from in
    noted_as (g.N.Sink.state c.args.notes.now) (g.N.Sink.state c.note_encoding.new.notes) (regrade_reply on c.args.item (record { encoding = c.args.encoding; body = c.args.body.now })) _
    (g.O.Sink.state c.args.output.now) c.note_encoding.result c.refused.result (wrong_encoding on c.args.item c.args.encoding c.args.body.now (λ e. c.if-encoding-encoding_of.true (e ∙ sym code)))
    c.note_encoding.ensures c.refused.ensures

pub answer_copy-requires : goal.answer_copy-requires
answer_copy-requires g c = omega (arith, c.in-Some.ensures.within, c.limit-limit.ensures.same, c.requires.room)

pub returns-in-Some-clause-answers : goal.returns-in-Some-clause-answers
returns-in-Some-clause-answers g c = λ limit at.
    let on : Regrading = record { pair = c.args.pair.now; frame = limit } in
    let from = from_is c.pair.inside.read (record { from = c.pair.inside.from; to = c.pair.inside.to }) c.args.pair.now c.pair.invariant.0 c.pair.view_is in
    let to = to_is c.pair.inside.written (record { from = c.pair.inside.from; to = c.pair.inside.to }) c.args.pair.now c.pair.invariant.1 c.pair.view_is in
    let code = code_is c.pair.inside.read c.args.pair.now.from c.order.result c.encoding_of.result c.encoding_of.ensures c.order.ensures from in
    let good : IsRegradable c.args.pair.now = subst IsRegradable c.pair.view_is c.pair.invariant.2 in
    let notes : Object _ = g.N.Sink.state c.args.notes.now in
    let bytes = copy_bytes c.in-Some.copy in
    let within : length bytes ≤ body_limit limit = omega (arith, c.in-Some.ensures.within, c.limit-limit.ensures.same, at) in
    delivered_as _ _ _ _ _ (ap (λ s. copy_reply s bytes) to
    ∙ sym (copied_reply on c.args.item c.args.encoding c.args.body.now (c.if-encoding-encoding_of.false ∙ code) good bytes c.in-Some.ensures.copied within))
    (c.answer_copy.ensures notes)

pub returns-clause-answers : goal.returns-clause-answers
returns-clause-answers g c = λ limit at.
    let on : Regrading = record { pair = c.args.pair.now; frame = limit } in
    let from = from_is c.pair.inside.read (record { from = c.pair.inside.from; to = c.pair.inside.to }) c.args.pair.now c.pair.invariant.0 c.pair.view_is in
    let code = code_is c.pair.inside.read c.args.pair.now.from c.order.result c.encoding_of.result c.encoding_of.ensures c.order.ensures from in
    delivered_as _ _ _ _ _ (sym (right_encoding on c.args.item c.args.encoding c.args.body.now (c.if-encoding-encoding_of.false ∙ code))) (c.answer_body.ensures.answers limit at)
