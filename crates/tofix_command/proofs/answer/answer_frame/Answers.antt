use Rattle.std.proofs.Common.{◌≡◌, sym, ap, ◌∙◌}
use Rattle.dump_lines.specs.Dumped.{encoding_of}
use Rattle.dump_lines.specs.Refused.{of_fault_in}
use Rattle.dump_lines.proofs.Answered.{way_there}
use Rattle.refused_items.specs.Refused.{of_encoding, refused_line}
use Rattle.replies.specs.Outside.{sinks_of}
use Rattle.tofix_command.proofs.Replied.{fault_replied, message_replied, noted_so, other_replied}
use Rattle.tofix_command.proofs.answer.answer_frame.Goals as goal

pub answer_message-requires-clause-ready : goal.answer_message-requires-clause-ready
answer_message-requires-clause-ready g c =
    let k = c.requires.ready in
    record { mapping = k.mapping; kinds = k.kinds; planned = c.schema_for-translation.ensures.planned k.mapping k.planned; there = c.in-Some.ensures.level }

pub note_fault-requires : goal.note_fault-requires
note_fault-requires g c =
    way_there c.schema_for-translation.result.now.layout c.args.body.now c.look.new.last c.in-None.ensures.fault c.in-None.ensures.template

pub returns-then-encoding-encoding_of-clause-replied : goal.returns-then-encoding-encoding_of-clause-replied
returns-then-encoding-encoding_of-clause-replied g c = λ b up is_with.
    let output = g.O.Sink.state c.args.output.now in
    let old = g.N.Sink.state c.args.notes.now in
    let new = g.N.Sink.state c.note_encoding.new.sink in
    other_replied b c.args.kept.now c.args.schemas.now c.args.encoding c.args.body.now up (sinks_of output old) (sinks_of output new) c.refused.result
    (λ same. c.if-encoding-encoding_of.true (same ∙ sym (c.encoding_of.ensures ∙ ap encoding_of c.order.ensures)))
    (noted_so (refused_line c.args.kept.now.items (of_encoding c.args.encoding)) old new output c.note_encoding.result c.refused.result c.note_encoding.ensures c.refused.ensures.told)

pub returns-in-Some-clause-replied : goal.returns-in-Some-clause-replied
returns-in-Some-clause-replied g c = λ b up is_with.
    let t = c.schema_for-translation.result.now in
    message_replied b c.args.kept.now c.args.schemas.now c.args.encoding c.args.body.now up _ _ c.answer_message.result t c.schema_for-translation.ensures.schema
    (c.if-encoding-encoding_of.false ∙ c.encoding_of.ensures ∙ ap encoding_of c.order.ensures)
    c.in-Some.view c.in-Some.ensures.lies c.in-Some.ensures.level
    (c.answer_message.ensures.delivers b (c.schema_for-translation.ensures.planned b.mapping up.planned) is_with)

pub returns-in-None-clause-replied : goal.returns-in-None-clause-replied
returns-in-None-clause-replied g c = λ b up is_with.
    let t = c.schema_for-translation.result.now in
    let last = c.look.new.last in
    let output = g.O.Sink.state c.args.output.now in
    let old = g.N.Sink.state c.args.notes.now in
    let new = g.N.Sink.state c.note_fault.new.sink in
    fault_replied b c.args.kept.now c.args.schemas.now c.args.encoding c.args.body.now up (sinks_of output old) (sinks_of output new) c.refused-in-None.result t c.schema_for-translation.ensures.schema
    (c.if-encoding-encoding_of.false ∙ c.encoding_of.ensures ∙ ap encoding_of c.order.ensures)
    last c.in-None.ensures.fault c.in-None.ensures.template
    (noted_so (refused_line c.args.kept.now.items (of_fault_in t.layout last.template last.fault)) old new output c.note_fault.result c.refused-in-None.result c.note_fault.ensures c.refused-in-None.ensures.told)
