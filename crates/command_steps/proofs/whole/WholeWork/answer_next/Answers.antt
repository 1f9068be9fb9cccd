use Rattle.std.proofs.Common.{refl, arith}
use Rattle.replies.specs.Outside.{Streams, streams_of}
use Rattle.command_steps.proofs.Closing.{delivered, went_once, stopped_once, once_stands, once_countable}
use Rattle.command_steps.proofs.whole.WholeWork.answer_next.Goals as goal

pub returns-in-Ok-clause-answers : goal.returns-in-Ok-clause-answers
returns-in-Ok-clause-answers g c =
    let before : Streams = streams_of (g.I.Source.state c.args._input.now) (g.O.Sink.state c.args.output.now) (g.N.Sink.state c.args.notes.now) in
    let after : Streams = streams_of (g.I.Source.state c.args._input.now) (g.O.Sink.state c.deliver.new.output) (g.N.Sink.state c.deliver.new.notes) in
    let drafted = c.put-put.ensures in
    went_once (g.C.WholeCommand.is_reply c.args.self.now.command) c.args.kept.now c.requires before after refl (omega (arith, c.if-kept-gt0.false)) c.in-Ok.verdict drafted.0 drafted.1 (c.in-Ok.ensures drafted.0 drafted.3)

pub returns-in-Err-clause-answers : goal.returns-in-Err-clause-answers
returns-in-Err-clause-answers g c =
    let before : Streams = streams_of (g.I.Source.state c.args._input.now) (g.O.Sink.state c.args.output.now) (g.N.Sink.state c.args.notes.now) in
    let after : Streams = streams_of (g.I.Source.state c.args._input.now) (g.O.Sink.state c.deliver.new.output) (g.N.Sink.state c.deliver.new.notes) in
    let drafted = c.put-put.ensures in
    stopped_once (g.C.WholeCommand.is_reply c.args.self.now.command) c.args.kept.now c.requires before after refl (omega (arith, c.if-kept-gt0.false)) c.in-Err.status drafted.0 drafted.1 (c.in-Err.ensures drafted.0 drafted.3)

pub returns-in-Ok-clause-stands : goal.returns-in-Ok-clause-stands
returns-in-Ok-clause-stands g c =
    let drafted = c.put-put.ensures in
    once_stands c.args.kept.now c.requires (omega (arith, c.if-kept-gt0.false)) c.in-Ok.verdict (delivered _ _ _ c.in-Ok.verdict drafted.2 (c.in-Ok.ensures drafted.0 drafted.3))

pub returns-in-Ok-clause-countable : goal.returns-in-Ok-clause-countable
returns-in-Ok-clause-countable g c =
    let drafted = c.put-put.ensures in
    once_countable c.args.kept.now c.requires (omega (arith, c.if-kept-gt0.false)) c.in-Ok.verdict (delivered _ _ _ c.in-Ok.verdict drafted.2 (c.in-Ok.ensures drafted.0 drafted.3))
