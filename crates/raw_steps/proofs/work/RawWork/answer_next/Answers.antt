use Rattle.std.proofs.Common.{◌∙◌, ap, refl, sym, length}
use Rattle.std.proofs.KnownBytes.{Appends-nil}
use Rattle.replies.specs.Outside.{Streams, streams_of, noted}
use Rattle.raw_steps.proofs.Closing.{went_text, stopped_text, stands_text, countable_text, went_garbled, stopped_garbled, stands_garbled, countable_garbled, closed_end, closed_over, closed_read}
use Rattle.raw_steps.proofs.work.RawWork.answer_next.Goals as goal

pub returns-in-Ok-clause-answers : goal.returns-in-Ok-clause-answers
returns-in-Ok-clause-answers g c =
    let before : Streams = streams_of (g.I.Source.state c.args.input.now) (g.O.Sink.state c.args.output.now) (g.N.Sink.state c.args.notes.now) in
    let after : Streams = streams_of (g.I.Source.state c.take.new.input) (g.O.Sink.state c.answer.new.output) (g.N.Sink.state c.args.notes.now) in
    let takes = rw c.in-Ok-Message.field-0-is at (c.in-Ok-Message.ensures.takes c.requires.stands.runs) in
    went_text c.args.self.now.command c.args.self.now.limits c.args.kept.now c.args.self.now.stream c.take.new.stream c.requires.stands before after (λ met. ap (λ i. g.I.Source.state i) (c.in-Ok-Message.ensures.unread met)) takes c.text.result.now c.text.ensures c.in-Ok-Message.ensures.cause (length c.text-in-Ok.result.now) c.in-Ok.verdict (ap length (c.text-in-Ok.ensures ∙ sym c.text.ensures)) (c.in-Ok.ensures.delivers (g.N.Sink.state c.args.notes.now))

pub returns-in-Ok-clause-stands : goal.returns-in-Ok-clause-stands
returns-in-Ok-clause-stands g c =
    let before : Streams = streams_of (g.I.Source.state c.args.input.now) (g.O.Sink.state c.args.output.now) (g.N.Sink.state c.args.notes.now) in
    let after : Streams = streams_of (g.I.Source.state c.take.new.input) (g.O.Sink.state c.answer.new.output) (g.N.Sink.state c.args.notes.now) in
    let takes = rw c.in-Ok-Message.field-0-is at (c.in-Ok-Message.ensures.takes c.requires.stands.runs) in
    stands_text c.args.self.now.command c.args.self.now.limits c.args.kept.now c.args.self.now.stream c.take.new.stream c.requires.stands before after (λ met. ap (λ i. g.I.Source.state i) (c.in-Ok-Message.ensures.unread met)) takes c.text.result.now c.text.ensures (length c.text-in-Ok.result.now) c.in-Ok.verdict (ap length (c.text-in-Ok.ensures ∙ sym c.text.ensures)) (c.in-Ok.ensures.delivers (g.N.Sink.state c.args.notes.now))

pub returns-in-Ok-clause-countable : goal.returns-in-Ok-clause-countable
returns-in-Ok-clause-countable g c =
    let before : Streams = streams_of (g.I.Source.state c.args.input.now) (g.O.Sink.state c.args.output.now) (g.N.Sink.state c.args.notes.now) in
    let after : Streams = streams_of (g.I.Source.state c.take.new.input) (g.O.Sink.state c.answer.new.output) (g.N.Sink.state c.args.notes.now) in
    let takes = rw c.in-Ok-Message.field-0-is at (c.in-Ok-Message.ensures.takes c.requires.stands.runs) in
    countable_text c.args.self.now.command c.args.self.now.limits c.args.kept.now c.args.self.now.stream c.take.new.stream c.requires.stands before after (λ met. ap (λ i. g.I.Source.state i) (c.in-Ok-Message.ensures.unread met)) takes c.text.result.now c.text.ensures (length c.text-in-Ok.result.now) c.in-Ok.verdict (ap length (c.text-in-Ok.ensures ∙ sym c.text.ensures)) c.requires.bounded (c.in-Ok.ensures.delivers (g.N.Sink.state c.args.notes.now))

pub returns-in-Err-clause-answers : goal.returns-in-Err-clause-answers
returns-in-Err-clause-answers g c =
    let before : Streams = streams_of (g.I.Source.state c.args.input.now) (g.O.Sink.state c.args.output.now) (g.N.Sink.state c.args.notes.now) in
    let after : Streams = streams_of (g.I.Source.state c.take.new.input) (g.O.Sink.state c.answer.new.output) (g.N.Sink.state c.args.notes.now) in
    let takes = rw c.in-Ok-Message.field-0-is at (c.in-Ok-Message.ensures.takes c.requires.stands.runs) in
    stopped_text c.args.self.now.command c.args.self.now.limits c.args.kept.now c.args.self.now.stream c.take.new.stream c.requires.stands before after (λ met. ap (λ i. g.I.Source.state i) (c.in-Ok-Message.ensures.unread met)) takes c.text.result.now c.text.ensures c.in-Ok-Message.ensures.cause c.in-Err.status (c.in-Err.ensures.delivers (g.N.Sink.state c.args.notes.now)) c.in-Err.ensures.wants

pub returns-in-Ok-note-clause-answers : goal.returns-in-Ok-note-clause-answers
returns-in-Ok-note-clause-answers g c =
    let before : Streams = streams_of (g.I.Source.state c.args.input.now) (g.O.Sink.state c.args.output.now) (g.N.Sink.state c.args.notes.now) in
    let after : Streams = streams_of (g.I.Source.state c.take.new.input) (g.O.Sink.state c.args.output.now) (g.N.Sink.state c.note.new.notes) in
    let takes = rw c.in-Ok-Garbled.field-0-is at (c.in-Ok-Garbled.ensures.takes c.requires.stands.runs) in
    went_garbled c.args.self.now.command c.args.self.now.limits c.args.kept.now c.args.self.now.stream c.take.new.stream c.requires.stands before after (λ met. ap (λ i. g.I.Source.state i) (c.in-Ok-Garbled.ensures.unread met)) c.in-Ok-Garbled.code c.in-Ok-Garbled.field-0-1 c.in-Ok-Garbled.length takes c.in-Ok-Garbled.ensures.cause c.in-Ok-note.verdict (c.in-Ok-note.ensures.delivers (g.O.Sink.state c.args.output.now))

pub returns-in-Ok-note-clause-stands : goal.returns-in-Ok-note-clause-stands
returns-in-Ok-note-clause-stands g c =
    let before : Streams = streams_of (g.I.Source.state c.args.input.now) (g.O.Sink.state c.args.output.now) (g.N.Sink.state c.args.notes.now) in
    let after : Streams = streams_of (g.I.Source.state c.take.new.input) (g.O.Sink.state c.args.output.now) (g.N.Sink.state c.note.new.notes) in
    let takes = rw c.in-Ok-Garbled.field-0-is at (c.in-Ok-Garbled.ensures.takes c.requires.stands.runs) in
    stands_garbled c.args.self.now.command c.args.self.now.limits c.args.kept.now c.args.self.now.stream c.take.new.stream c.requires.stands before after (λ met. ap (λ i. g.I.Source.state i) (c.in-Ok-Garbled.ensures.unread met)) c.in-Ok-Garbled.code c.in-Ok-Garbled.field-0-1 c.in-Ok-Garbled.length takes c.in-Ok-note.verdict (c.in-Ok-note.ensures.delivers (g.O.Sink.state c.args.output.now))

pub returns-in-Ok-note-clause-countable : goal.returns-in-Ok-note-clause-countable
returns-in-Ok-note-clause-countable g c =
    let before : Streams = streams_of (g.I.Source.state c.args.input.now) (g.O.Sink.state c.args.output.now) (g.N.Sink.state c.args.notes.now) in
    let after : Streams = streams_of (g.I.Source.state c.take.new.input) (g.O.Sink.state c.args.output.now) (g.N.Sink.state c.note.new.notes) in
    let takes = rw c.in-Ok-Garbled.field-0-is at (c.in-Ok-Garbled.ensures.takes c.requires.stands.runs) in
    countable_garbled c.args.self.now.command c.args.self.now.limits c.args.kept.now c.args.self.now.stream c.take.new.stream c.requires.stands before after (λ met. ap (λ i. g.I.Source.state i) (c.in-Ok-Garbled.ensures.unread met)) c.in-Ok-Garbled.code c.in-Ok-Garbled.field-0-1 c.in-Ok-Garbled.length takes c.in-Ok-note.verdict c.requires.bounded (c.in-Ok-note.ensures.delivers (g.O.Sink.state c.args.output.now))

pub returns-in-Err-note-clause-answers : goal.returns-in-Err-note-clause-answers
returns-in-Err-note-clause-answers g c =
    let before : Streams = streams_of (g.I.Source.state c.args.input.now) (g.O.Sink.state c.args.output.now) (g.N.Sink.state c.args.notes.now) in
    let after : Streams = streams_of (g.I.Source.state c.take.new.input) (g.O.Sink.state c.args.output.now) (g.N.Sink.state c.note.new.notes) in
    let takes = rw c.in-Ok-Garbled.field-0-is at (c.in-Ok-Garbled.ensures.takes c.requires.stands.runs) in
    stopped_garbled c.args.self.now.command c.args.self.now.limits c.args.kept.now c.args.self.now.stream c.take.new.stream c.requires.stands before after (λ met. ap (λ i. g.I.Source.state i) (c.in-Ok-Garbled.ensures.unread met)) c.in-Ok-Garbled.code c.in-Ok-Garbled.field-0-1 c.in-Ok-Garbled.length takes c.in-Ok-Garbled.ensures.cause c.in-Err-note.status (c.in-Err-note.ensures.delivers (g.O.Sink.state c.args.output.now)) c.in-Err-note.ensures.wants

pub returns-in-Ok-End-clause-answers : goal.returns-in-Ok-End-clause-answers
returns-in-Ok-End-clause-answers g c =
    let before : Streams = streams_of (g.I.Source.state c.args.input.now) (g.O.Sink.state c.args.output.now) (g.N.Sink.state c.args.notes.now) in
    let after : Streams = streams_of (g.I.Source.state c.take.new.input) (g.O.Sink.state c.args.output.now) (g.N.Sink.state c.args.notes.now) in
    let takes = rw c.in-Ok-End.field-0-is at (c.in-Ok-End.ensures.takes c.requires.stands.runs) in
    closed_end c.args.self.now.command c.args.self.now.limits c.args.kept.now c.args.self.now.stream c.take.new.stream c.requires.stands before after (λ met. ap (λ i. g.I.Source.state i) (c.in-Ok-End.ensures.unread met)) c.done.result takes c.in-Ok-End.ensures.cause refl (noted c.done.ensures (Appends-nil (g.N.Sink.state c.args.notes.now).told) refl)

pub returns-in-Err-InputLimit-clause-answers : goal.returns-in-Err-InputLimit-clause-answers
returns-in-Err-InputLimit-clause-answers g c =
    let before : Streams = streams_of (g.I.Source.state c.args.input.now) (g.O.Sink.state c.args.output.now) (g.N.Sink.state c.args.notes.now) in
    let after : Streams = streams_of (g.I.Source.state c.take.new.input) (g.O.Sink.state c.args.output.now) (g.N.Sink.state c.tell.new.notes) in
    let takes = rw c.in-Err-InputLimit.field-0-is at (c.in-Err-InputLimit.ensures.takes c.requires.stands.runs) in
    closed_over c.args.self.now.command c.args.self.now.limits c.args.kept.now c.args.self.now.stream c.take.new.stream c.requires.stands before after (λ met. ap (λ i. g.I.Source.state i) (c.in-Err-InputLimit.ensures.unread met)) c.tell.result takes (rw c.in-Err-InputLimit.field-0-is at c.in-Err-InputLimit.ensures.cause) refl c.tell.ensures

pub returns-in-Err-ReadFault-clause-answers : goal.returns-in-Err-ReadFault-clause-answers
returns-in-Err-ReadFault-clause-answers g c =
    let before : Streams = streams_of (g.I.Source.state c.args.input.now) (g.O.Sink.state c.args.output.now) (g.N.Sink.state c.args.notes.now) in
    let after : Streams = streams_of (g.I.Source.state c.take.new.input) (g.O.Sink.state c.args.output.now) (g.N.Sink.state c.tell-in-Err-ReadFault.new.notes) in
    let takes = rw c.in-Err-ReadFault.field-0-is at (c.in-Err-ReadFault.ensures.takes c.requires.stands.runs) in
    closed_read c.args.self.now.command c.args.self.now.limits c.args.kept.now c.args.self.now.stream c.take.new.stream c.requires.stands before after (λ met. ap (λ i. g.I.Source.state i) (c.in-Err-ReadFault.ensures.unread met)) c.tell-in-Err-ReadFault.result takes (rw c.in-Err-ReadFault.field-0-is at c.in-Err-ReadFault.ensures.cause) refl (rw c.taken.ensures at c.tell-in-Err-ReadFault.ensures)
