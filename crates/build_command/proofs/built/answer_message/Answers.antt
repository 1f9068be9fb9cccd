use Rattle.std.proofs.Common.{ap, arith, length}
use Rattle.sbe_wire.specs.Misfit.{misfit}
use Rattle.tree_codec.specs.Sized.{sized_err}
use Rattle.sbe_base.specs.Objects.{Object}
use Rattle.build_command.proofs.Answering.{body_within, note_whole, note_part, frame_is, note_is, delivers_as, leaves_room}
use Rattle.misfit_laws.proofs.Ways.{misfit_way}
use Rattle.build_command.proofs.built.answer_message.Goals as goal

pub answer_body-requires : goal.answer_body-requires
answer_body-requires g c =
    omega (arith, ap length c.bytes.ensures, body_within c.args.layout.now c.args.message.now c.args.buffer.now.limit c.encode.new.buf.bytes c.schema-schema.ensures.order c.in-Ok.ensures.told c.in-Ok.ensures.written, c.requires.room)

pub put_misfit-requires-clause-way : goal.put_misfit-requires-clause-way
put_misfit-requires-clause-way g c = misfit_way c.args.layout.now c.args.message.now c.args.buffer.now.limit (sized_err c.in-Err.why) c.schema-schema.ensures.order c.requires.known c.in-Err.ensures.told

pub put_misfit-requires-clause-room : goal.put_misfit-requires-clause-room
put_misfit-requires-clause-room g c =
    leaves_room c.args.layout.now c.args.message.now c.args.buffer.now.limit (sized_err c.in-Err.why) c.schema-schema.ensures.order (omega (arith, c.requires.room)) c.in-Err.ensures.told

pub returns-in-Ok-clause-answers : goal.returns-in-Ok-clause-answers
returns-in-Ok-clause-answers g c =
    let schema = c.args.layout.now in
    let m = c.args.message.now in
    let notes : Object _ = g.N.Sink.state c.args.notes.now in
    delivers_as _ _ _ _ _ (frame_is schema c.args.item m (misfit schema m c.args.buffer.now.limit) c.encode.new.buf.bytes c.bytes.result.now c.in-Ok.ensures.told c.in-Ok.ensures.written c.bytes.ensures)
    (c.answer_body.ensures notes)

pub returns-in-Ok-put_misfit-clause-answers : goal.returns-in-Ok-put_misfit-clause-answers
returns-in-Ok-put_misfit-clause-answers g c =
    let schema = c.args.layout.now in
    let m = c.args.message.now in
    let output : Object _ = g.O.Sink.state c.args.output.now in
    note_whole _ _ _ _ (note_is schema c.args.item m (misfit schema m c.args.buffer.now.limit) (sized_err c.in-Err.why) c.in-Err.ensures.told) output c.in-Ok-put_misfit.ensures

pub returns-in-Err-put_misfit-clause-answers : goal.returns-in-Err-put_misfit-clause-answers
returns-in-Err-put_misfit-clause-answers g c =
    let schema = c.args.layout.now in
    let m = c.args.message.now in
    let output : Object _ = g.O.Sink.state c.args.output.now in
    note_part _ _ _ _ (note_is schema c.args.item m (misfit schema m c.args.buffer.now.limit) (sized_err c.in-Err.why) c.in-Err.ensures.told) output c.in-Err-put_misfit.ensures
