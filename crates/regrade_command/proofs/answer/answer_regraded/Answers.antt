use Rattle.std.proofs.Common.{sym, subst}
use Rattle.std.specs.Prelude.{slice_get}
use Rattle.std.specs.Option.{IsSome}
use Rattle.sbe_types.specs.declared.schema.WireSchema.{WireSchema}
use Rattle.regrade_command.proofs.Pairs.{to_is}
use Rattle.regrade_command.proofs.Answering.{recounted}
use Rattle.regrade_command.proofs.answer.answer_regraded.Goals as goal

pub answer_message-answer-requires-clause-known : goal.answer_message-answer-requires-clause-known
answer_message-answer-requires-clause-known g c =
    let to = to_is c.pair.inside.written (record { from = c.pair.inside.from; to = c.pair.inside.to }) c.args.pair.now c.pair.invariant.1 c.pair.view_is in
    subst (λ (s : WireSchema). IsSome (slice_get s.messages c.args.regraded.now.msg.template)) (sym to) c.requires.known

pub returns-clause-answers : goal.returns-clause-answers
returns-clause-answers g c =
    let to = to_is c.pair.inside.written (record { from = c.pair.inside.from; to = c.pair.inside.to }) c.args.pair.now c.pair.invariant.1 c.pair.view_is in
    recounted c.args.pair.now.to c.args.item c.args.regraded.now _ _ c.pair.inside.written c.args.space.now.buffer.limit c.answer_message-answer.result c.counted.result to
    c.answer_message-answer.ensures.answers c.counted.ensures
