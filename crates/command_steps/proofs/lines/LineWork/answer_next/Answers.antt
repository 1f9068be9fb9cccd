use Rattle.std.proofs.Common.{refl, sym, ap, subst}
use Rattle.std.specs.Option.{IsSome}
use Rattle.frame_stream.specs.declared.lines.LineEnded.TheVariants as ended
use Rattle.sbe_base.specs.declared.status.Status.TheVariants as status
use Rattle.replies.specs.Outside.{Streams, streams_of}
use Rattle.command_steps.specs.declared.end.Stop.TheVariants as stop
use Rattle.command_steps.proofs.LineStepping.{stands_so, countable_so, has_taken}
use Rattle.command_steps.proofs.Closing.{parts_of}
use Rattle.command_steps.proofs.LineClosing.{runs_at, went_so, stopped_so, closed_end, closed_with, closed_read}
use Rattle.command_steps.proofs.lines.LineWork.answer_next.Goals as goal

pub returns-in-Ok-clause-answers : goal.returns-in-Ok-clause-answers
returns-in-Ok-clause-answers g c =
    let before : Streams = streams_of (g.I.Source.state c.args.input.now) (g.O.Sink.state c.args.output.now) (g.N.Sink.state c.args.notes.now) in
    let after : Streams = streams_of (g.I.Source.state c.take.new.input) (g.O.Sink.state c.answer.new.output) (g.N.Sink.state c.answer.new.notes) in
    let runs = runs_at c.args.self.now.limits c.args.kept.now c.args.self.now.stream _ c.requires.stands c.in-Ok-Line.ensures.stays (λ e. cc) in
    let takes = rw c.in-Ok-Line.field-0-is at (c.in-Ok-Line.ensures.takes runs) in
    went_so c.args.self.now.limits g.C.LineCommand.last (g.C.LineCommand.is_reply c.args.self.now.command) c.args.kept.now before after c.args.self.now.stream c.take.new.self c.requires.stands runs takes c.in-Ok-Line.ensures.cause
    c.take.new.self c.bytes_taken.result c.in-Ok.verdict refl c.bytes_taken.ensures c.in-Ok.ensures.replied

pub bytes_taken-requires : goal.bytes_taken-requires
bytes_taken-requires g c =
    let before : Streams = streams_of (g.I.Source.state c.args.input.now) (g.O.Sink.state c.args.output.now) (g.N.Sink.state c.args.notes.now) in
    let after : Streams = record { input = g.I.Source.state c.take.new.input; sinks = before.sinks } in
    let runs = runs_at c.args.self.now.limits c.args.kept.now c.args.self.now.stream _ c.requires.stands c.in-Ok-Line.ensures.stays (λ e. cc) in
    let here = has_taken c.args.self.now.limits g.C.LineCommand.last (g.C.LineCommand.is_reply c.args.self.now.command) c.args.kept.now c.args.self.now.stream c.take.new.self c.requires.stands before after status.Done runs (rw c.in-Ok-Line.field-0-is at (c.in-Ok-Line.ensures.takes runs)) (rw c.in-Ok-Line.field-0-is at c.in-Ok-Line.ensures.line) in
    here

pub returns-in-Ok-clause-stands : goal.returns-in-Ok-clause-stands
returns-in-Ok-clause-stands g c =
    let before : Streams = streams_of (g.I.Source.state c.args.input.now) (g.O.Sink.state c.args.output.now) (g.N.Sink.state c.args.notes.now) in
    let after : Streams = record { input = g.I.Source.state c.take.new.input; sinks = before.sinks } in
    let runs = runs_at c.args.self.now.limits c.args.kept.now c.args.self.now.stream _ c.requires.stands c.in-Ok-Line.ensures.stays (λ e. cc) in
    stands_so c.args.self.now.limits g.C.LineCommand.last (g.C.LineCommand.is_reply c.args.self.now.command) c.args.kept.now c.args.self.now.stream c.take.new.self c.requires.stands before after status.Done runs (rw c.in-Ok-Line.field-0-is at (c.in-Ok-Line.ensures.takes runs))
    c.take.new.self c.bytes_taken.result c.in-Ok.verdict (parts_of _ _ _ _ c.in-Ok.verdict c.in-Ok.ensures.replied) refl c.bytes_taken.ensures

pub returns-in-Ok-clause-countable : goal.returns-in-Ok-clause-countable
returns-in-Ok-clause-countable g c =
    let before : Streams = streams_of (g.I.Source.state c.args.input.now) (g.O.Sink.state c.args.output.now) (g.N.Sink.state c.args.notes.now) in
    let after : Streams = record { input = g.I.Source.state c.take.new.input; sinks = before.sinks } in
    let runs = runs_at c.args.self.now.limits c.args.kept.now c.args.self.now.stream _ c.requires.stands c.in-Ok-Line.ensures.stays (λ e. cc) in
    countable_so c.args.self.now.limits g.C.LineCommand.last (g.C.LineCommand.is_reply c.args.self.now.command) c.args.kept.now c.args.self.now.stream c.take.new.self c.requires.stands before after status.Done runs (rw c.in-Ok-Line.field-0-is at (c.in-Ok-Line.ensures.takes runs))
    c.take.new.self c.bytes_taken.result c.in-Ok.verdict (parts_of _ _ _ _ c.in-Ok.verdict c.in-Ok.ensures.replied) refl c.bytes_taken.ensures c.requires.bounded

pub returns-in-Err-clause-answers : goal.returns-in-Err-clause-answers
returns-in-Err-clause-answers g c =
    let before : Streams = streams_of (g.I.Source.state c.args.input.now) (g.O.Sink.state c.args.output.now) (g.N.Sink.state c.args.notes.now) in
    let after : Streams = streams_of (g.I.Source.state c.take.new.input) (g.O.Sink.state c.answer.new.output) (g.N.Sink.state c.answer.new.notes) in
    let runs = runs_at c.args.self.now.limits c.args.kept.now c.args.self.now.stream _ c.requires.stands c.in-Ok-Line.ensures.stays (λ e. cc) in
    let takes = rw c.in-Ok-Line.field-0-is at (c.in-Ok-Line.ensures.takes runs) in
    stopped_so c.args.self.now.limits g.C.LineCommand.last (g.C.LineCommand.is_reply c.args.self.now.command) c.args.kept.now before after c.args.self.now.stream c.take.new.self c.requires.stands runs takes c.in-Ok-Line.ensures.cause
    c.take.new.self c.in-Err.status refl c.in-Err.ensures.replied

pub returns-in-Ok-End-clause-answers : goal.returns-in-Ok-End-clause-answers
returns-in-Ok-End-clause-answers g c =
    let before : Streams = streams_of (g.I.Source.state c.args.input.now) (g.O.Sink.state c.args.output.now) (g.N.Sink.state c.args.notes.now) in
    let after : Streams = streams_of (g.I.Source.state c.take.new.input) (g.O.Sink.state c.args.output.now) (g.N.Sink.state c.end.new.notes) in
    closed_end c.args.self.now.limits g.C.LineCommand.last (g.C.LineCommand.is_reply c.args.self.now.command) c.args.kept.now before after c.args.self.now.stream c.take.new.self c.requires.stands c.end.result (λ none. rw c.in-Ok-End.field-0-is at (c.in-Ok-End.ensures.takes none)) (λ met. ap (λ i. g.I.Source.state i) (c.in-Ok-End.ensures.unread (subst (λ o. IsSome o) (sym met) refl))) c.in-Ok-End.ensures.cause refl c.end.ensures.told

pub returns-in-Err-LineOver-clause-answers : goal.returns-in-Err-LineOver-clause-answers
returns-in-Err-LineOver-clause-answers g c =
    let before : Streams = streams_of (g.I.Source.state c.args.input.now) (g.O.Sink.state c.args.output.now) (g.N.Sink.state c.args.notes.now) in
    let after : Streams = streams_of (g.I.Source.state c.take.new.input) (g.O.Sink.state c.args.output.now) (g.N.Sink.state c.tell.new.notes) in
    let runs = runs_at c.args.self.now.limits c.args.kept.now c.args.self.now.stream _ c.requires.stands c.in-Err-LineOver.ensures.stays (λ e. cc) in
    let takes = rw c.in-Err-LineOver.field-0-is at (c.in-Err-LineOver.ensures.takes runs) in
    let calm = rw c.in-Err-LineOver.field-0-is at c.in-Err-LineOver.ensures.cause in
    closed_with c.args.self.now.limits g.C.LineCommand.last (g.C.LineCommand.is_reply c.args.self.now.command) c.args.kept.now before after c.args.self.now.stream c.take.new.self c.requires.stands ended.Over (stop.LineOver c.args.kept.now.bytes) c.tell.result takes calm refl refl refl c.tell.ensures

pub returns-in-Err-InputLimit-clause-answers : goal.returns-in-Err-InputLimit-clause-answers
returns-in-Err-InputLimit-clause-answers g c =
    let before : Streams = streams_of (g.I.Source.state c.args.input.now) (g.O.Sink.state c.args.output.now) (g.N.Sink.state c.args.notes.now) in
    let after : Streams = streams_of (g.I.Source.state c.take.new.input) (g.O.Sink.state c.args.output.now) (g.N.Sink.state c.tell-in-Err-InputLimit.new.notes) in
    let runs = runs_at c.args.self.now.limits c.args.kept.now c.args.self.now.stream _ c.requires.stands c.in-Err-InputLimit.ensures.stays (λ e. cc) in
    let takes = rw c.in-Err-InputLimit.field-0-is at (c.in-Err-InputLimit.ensures.takes runs) in
    let calm = rw c.in-Err-InputLimit.field-0-is at c.in-Err-InputLimit.ensures.cause in
    closed_with c.args.self.now.limits g.C.LineCommand.last (g.C.LineCommand.is_reply c.args.self.now.command) c.args.kept.now before after c.args.self.now.stream c.take.new.self c.requires.stands ended.Limit (stop.InputLimit c.args.self.now.limits.input) c.tell-in-Err-InputLimit.result takes calm refl refl refl c.tell-in-Err-InputLimit.ensures

pub returns-in-Err-ReadFault-clause-answers : goal.returns-in-Err-ReadFault-clause-answers
returns-in-Err-ReadFault-clause-answers g c =
    let before : Streams = streams_of (g.I.Source.state c.args.input.now) (g.O.Sink.state c.args.output.now) (g.N.Sink.state c.args.notes.now) in
    let after : Streams = streams_of (g.I.Source.state c.take.new.input) (g.O.Sink.state c.args.output.now) (g.N.Sink.state c.tell-in-Err-ReadFault.new.notes) in
    let runs = runs_at c.args.self.now.limits c.args.kept.now c.args.self.now.stream _ c.requires.stands c.in-Err-ReadFault.ensures.stays (λ e. cc) in
    let takes = rw c.in-Err-ReadFault.field-0-is at (c.in-Err-ReadFault.ensures.takes runs) in
    let cause = rw c.in-Err-ReadFault.field-0-is at c.in-Err-ReadFault.ensures.cause in
    let told = rw c.taken.ensures at c.tell-in-Err-ReadFault.ensures in
    closed_read c.args.self.now.limits g.C.LineCommand.last (g.C.LineCommand.is_reply c.args.self.now.command) c.args.kept.now before after c.args.self.now.stream c.take.new.self c.requires.stands runs c.tell-in-Err-ReadFault.result takes cause refl told
