use Rattle.std.proofs.Common.{refl}
use Rattle.frame_stream.specs.declared.held.Ended.TheVariants as ended
use Rattle.replies.specs.Outside.{Streams, streams_of}
use Rattle.command_steps.specs.declared.end.Stop.TheVariants as stop
use Rattle.sbe_base.specs.declared.status.Status.TheVariants as status
use Rattle.command_steps.proofs.Stepping.{stands_on, countable}
use Rattle.command_steps.proofs.Closing.{parts_of, went, stopped, closed_end, closed_with, closed_read}
use Rattle.command_steps.proofs.frames.FrameWork.answer_next.Goals as goal

pub returns-in-Ok-clause-answers : goal.returns-in-Ok-clause-answers
returns-in-Ok-clause-answers g c =
    let before : Streams = streams_of (g.I.Source.state c.args.input.now) (g.O.Sink.state c.args.output.now) (g.N.Sink.state c.args.notes.now) in
    let after : Streams = streams_of (g.I.Source.state c.take-taken.new.input) (g.O.Sink.state c.answer.new.output) (g.N.Sink.state c.answer.new.notes) in
    let inside = rw c.in-Ok-Frame.is at c.in-Ok-Frame.field-0-is in
    let takes = rw inside at (rw c.in-Ok-Frame.is at (c.take-taken.ensures.takes c.requires.stands.runs)) in
    let size = (rw inside at (rw c.in-Ok-Frame.is at c.take-taken.ensures.body)).0 in
    let calm = rw c.in-Ok-Frame.is at c.take-taken.ensures.cause in
    went c.args.self.now.limits g.C.FrameCommand.spares g.C.FrameCommand.last (g.C.FrameCommand.is_reply c.args.self.now.command) c.args.kept.now before after c.args.self.now.stream c.take-taken.new.self c.requires.stands c.in-Ok-Frame.head takes size calm c.in-Ok.verdict c.in-Ok.ensures.replied

pub returns-in-Ok-clause-stands : goal.returns-in-Ok-clause-stands
returns-in-Ok-clause-stands g c =
    let before : Streams = streams_of (g.I.Source.state c.args.input.now) (g.O.Sink.state c.args.output.now) (g.N.Sink.state c.args.notes.now) in
    let after : Streams = streams_of (g.I.Source.state c.take-taken.new.input) (g.O.Sink.state c.answer.new.output) (g.N.Sink.state c.answer.new.notes) in
    let inside = rw c.in-Ok-Frame.is at c.in-Ok-Frame.field-0-is in
    let takes = rw inside at (rw c.in-Ok-Frame.is at (c.take-taken.ensures.takes c.requires.stands.runs)) in
    let size = (rw inside at (rw c.in-Ok-Frame.is at c.take-taken.ensures.body)).0 in
    let parts = parts_of _ _ _ _ c.in-Ok.verdict c.in-Ok.ensures.replied in
    stands_on c.args.self.now.limits g.C.FrameCommand.spares g.C.FrameCommand.last (g.C.FrameCommand.is_reply c.args.self.now.command) c.args.kept.now c.args.self.now.stream c.take-taken.new.self c.requires.stands before after status.Done c.in-Ok-Frame.head takes size c.in-Ok.verdict parts (rw inside at (rw c.in-Ok-Frame.is at c.take-taken.ensures.body))

pub returns-in-Ok-clause-countable : goal.returns-in-Ok-clause-countable
returns-in-Ok-clause-countable g c =
    let before : Streams = streams_of (g.I.Source.state c.args.input.now) (g.O.Sink.state c.args.output.now) (g.N.Sink.state c.args.notes.now) in
    let after : Streams = streams_of (g.I.Source.state c.take-taken.new.input) (g.O.Sink.state c.answer.new.output) (g.N.Sink.state c.answer.new.notes) in
    let inside = rw c.in-Ok-Frame.is at c.in-Ok-Frame.field-0-is in
    let takes = rw inside at (rw c.in-Ok-Frame.is at (c.take-taken.ensures.takes c.requires.stands.runs)) in
    let size = (rw inside at (rw c.in-Ok-Frame.is at c.take-taken.ensures.body)).0 in
    let parts = parts_of _ _ _ _ c.in-Ok.verdict c.in-Ok.ensures.replied in
    countable c.args.self.now.limits g.C.FrameCommand.spares g.C.FrameCommand.last (g.C.FrameCommand.is_reply c.args.self.now.command) c.args.kept.now c.args.self.now.stream c.take-taken.new.self c.requires.stands before after status.Done c.in-Ok-Frame.head takes size c.in-Ok.verdict parts c.requires.bounded

pub returns-in-Err-clause-answers : goal.returns-in-Err-clause-answers
returns-in-Err-clause-answers g c =
    let before : Streams = streams_of (g.I.Source.state c.args.input.now) (g.O.Sink.state c.args.output.now) (g.N.Sink.state c.args.notes.now) in
    let after : Streams = streams_of (g.I.Source.state c.take-taken.new.input) (g.O.Sink.state c.answer.new.output) (g.N.Sink.state c.answer.new.notes) in
    let inside = rw c.in-Ok-Frame.is at c.in-Ok-Frame.field-0-is in
    let takes = rw inside at (rw c.in-Ok-Frame.is at (c.take-taken.ensures.takes c.requires.stands.runs)) in
    let size = (rw inside at (rw c.in-Ok-Frame.is at c.take-taken.ensures.body)).0 in
    let calm = rw c.in-Ok-Frame.is at c.take-taken.ensures.cause in
    stopped c.args.self.now.limits g.C.FrameCommand.spares g.C.FrameCommand.last (g.C.FrameCommand.is_reply c.args.self.now.command) c.args.kept.now before after c.args.self.now.stream c.take-taken.new.self c.requires.stands c.in-Ok-Frame.head takes size calm c.in-Err.status c.in-Err.ensures.replied c.in-Err.ensures.wants

pub returns-in-Ok-End-clause-answers : goal.returns-in-Ok-End-clause-answers
returns-in-Ok-End-clause-answers g c =
    let before : Streams = streams_of (g.I.Source.state c.args.input.now) (g.O.Sink.state c.args.output.now) (g.N.Sink.state c.args.notes.now) in
    let after : Streams = streams_of (g.I.Source.state c.take-taken.new.input) (g.O.Sink.state c.args.output.now) (g.N.Sink.state c.end.new.notes) in
    let inside = rw c.in-Ok-End.is at c.in-Ok-End.field-0-is in
    let takes = rw inside at (rw c.in-Ok-End.is at (c.take-taken.ensures.takes c.requires.stands.runs)) in
    closed_end c.args.self.now.limits g.C.FrameCommand.spares g.C.FrameCommand.last (g.C.FrameCommand.is_reply c.args.self.now.command) c.args.kept.now before after c.args.self.now.stream c.take-taken.new.self c.requires.stands c.end.result takes (rw c.in-Ok-End.is at c.take-taken.ensures.cause) refl c.end.ensures.told

pub returns-in-Ok-EndInside-clause-answers : goal.returns-in-Ok-EndInside-clause-answers
returns-in-Ok-EndInside-clause-answers g c =
    let before : Streams = streams_of (g.I.Source.state c.args.input.now) (g.O.Sink.state c.args.output.now) (g.N.Sink.state c.args.notes.now) in
    let after : Streams = streams_of (g.I.Source.state c.take-taken.new.input) (g.O.Sink.state c.args.output.now) (g.N.Sink.state c.tell.new.notes) in
    let inside = rw c.in-Ok-EndInside.is at c.in-Ok-EndInside.field-0-is in
    let takes = rw inside at (rw c.in-Ok-EndInside.is at (c.take-taken.ensures.takes c.requires.stands.runs)) in
    closed_with c.args.self.now.limits g.C.FrameCommand.spares g.C.FrameCommand.last (g.C.FrameCommand.is_reply c.args.self.now.command) c.args.kept.now before after c.args.self.now.stream c.take-taken.new.self c.requires.stands (ended.Inside c.in-Ok-EndInside.held) (stop.EndInside c.in-Ok-EndInside.held c.args.kept.now.bytes) c.tell.result takes (rw c.in-Ok-EndInside.is at c.take-taken.ensures.cause) refl refl refl c.tell.ensures

pub returns-in-Err-Head-clause-answers : goal.returns-in-Err-Head-clause-answers
returns-in-Err-Head-clause-answers g c =
    let before : Streams = streams_of (g.I.Source.state c.args.input.now) (g.O.Sink.state c.args.output.now) (g.N.Sink.state c.args.notes.now) in
    let after : Streams = streams_of (g.I.Source.state c.take-taken.new.input) (g.O.Sink.state c.args.output.now) (g.N.Sink.state c.tell-in-Err-Head.new.notes) in
    let inside = rw c.in-Err-Head.is at c.in-Err-Head.field-0-is in
    let takes = rw inside at (rw c.in-Err-Head.is at (c.take-taken.ensures.takes c.requires.stands.runs)) in
    let calm = rw inside at (rw c.in-Err-Head.is at c.take-taken.ensures.cause) in
    closed_with c.args.self.now.limits g.C.FrameCommand.spares g.C.FrameCommand.last (g.C.FrameCommand.is_reply c.args.self.now.command) c.args.kept.now before after c.args.self.now.stream c.take-taken.new.self c.requires.stands (ended.Head c.in-Err-Head.fault) (stop.Head c.in-Err-Head.fault c.args.kept.now.bytes) c.tell-in-Err-Head.result takes calm refl refl refl c.tell-in-Err-Head.ensures

pub returns-in-Err-InputLimit-clause-answers : goal.returns-in-Err-InputLimit-clause-answers
returns-in-Err-InputLimit-clause-answers g c =
    let before : Streams = streams_of (g.I.Source.state c.args.input.now) (g.O.Sink.state c.args.output.now) (g.N.Sink.state c.args.notes.now) in
    let after : Streams = streams_of (g.I.Source.state c.take-taken.new.input) (g.O.Sink.state c.args.output.now) (g.N.Sink.state c.tell-in-Err-InputLimit.new.notes) in
    let inside = rw c.in-Err-InputLimit.is at c.in-Err-InputLimit.field-0-is in
    let takes = rw inside at (rw c.in-Err-InputLimit.is at (c.take-taken.ensures.takes c.requires.stands.runs)) in
    let calm = rw inside at (rw c.in-Err-InputLimit.is at c.take-taken.ensures.cause) in
    closed_with c.args.self.now.limits g.C.FrameCommand.spares g.C.FrameCommand.last (g.C.FrameCommand.is_reply c.args.self.now.command) c.args.kept.now before after c.args.self.now.stream c.take-taken.new.self c.requires.stands ended.Over (stop.InputLimit c.args.self.now.limits.input) c.tell-in-Err-InputLimit.result takes calm refl refl refl c.tell-in-Err-InputLimit.ensures

pub returns-in-Err-ReadFault-clause-answers : goal.returns-in-Err-ReadFault-clause-answers
returns-in-Err-ReadFault-clause-answers g c =
    let before : Streams = streams_of (g.I.Source.state c.args.input.now) (g.O.Sink.state c.args.output.now) (g.N.Sink.state c.args.notes.now) in
    let after : Streams = streams_of (g.I.Source.state c.take-taken.new.input) (g.O.Sink.state c.args.output.now) (g.N.Sink.state c.tell-in-Err-ReadFault.new.notes) in
    let inside = rw c.in-Err-ReadFault.is at c.in-Err-ReadFault.field-0-is in
    let takes = rw inside at (rw c.in-Err-ReadFault.is at (c.take-taken.ensures.takes c.requires.stands.runs)) in
    let cause = rw inside at (rw c.in-Err-ReadFault.is at c.take-taken.ensures.cause) in
    let told = rw c.taken.ensures at c.tell-in-Err-ReadFault.ensures in
    closed_read c.args.self.now.limits g.C.FrameCommand.spares g.C.FrameCommand.last (g.C.FrameCommand.is_reply c.args.self.now.command) c.args.kept.now before after c.args.self.now.stream c.take-taken.new.self c.requires.stands c.tell-in-Err-ReadFault.result takes c.take-taken.ensures.part cause refl told
