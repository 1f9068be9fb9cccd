use Rattle.std.proofs.Common.{◌∙◌, inr, Err, length, refl, sym, ap, subst}
use Rattle.std.specs.Prelude.{is_some, slice_get}
use Rattle.sbe_base.specs.Writes.{Writes}
use Rattle.sbe_types.specs.declared.schema.WireSchema.{WireSchema}
use Rattle.map_types.specs.Trees.{members_of}
use Rattle.bridge_mapping.specs.Mapped.{mapping_of}
use Rattle.field_judge.specs.Refusals.{refusal_of}
use Rattle.field_judge.specs.declared.refused.Refused.{Refused}
use Rattle.refused_items.specs.Refused.{refused_line}
use Rattle.replies.specs.Outside.{Sinks, sinks_of}
use Rattle.command_steps.specs.Replies.{Replied}
use Rattle.build_command.specs.Build.{body_limit}
use Rattle.fixcheck_command.specs.FixCheck.{type_of}
use Rattle.tofix_replies.specs.Unsent.{of_no_message, of_uncovered}
use Rattle.sbe_translation.specs.Translations.{IsAnswer}
use Rattle.sbe_translation.specs.declared.translate.ToSbeErr.{ToSbeErr}
use Rattle.tosbe_command.specs.Bridges.{mapping_in, tags_in, BackBridge}
use Rattle.tosbe_command.specs.ToSbe.{refused_so, IsTextReply}
use Rattle.tosbe_command.specs.Unsent.{of_refusal, of_several}
use Rattle.tosbe_command.proofs.Held.{has_third, holds_fields, kind_there, text_is}
use Rattle.tosbe_command.proofs.Replied.{some_text_reply, text_parts}
use Rattle.tosbe_command.proofs.Told.{message_replied, no_template_told, noted_replied, refusal_told, several_told, uncovered_told}
use Rattle.tosbe_command.proofs.answer.answer_translated.Goals as goal

pub to_sbe-requires-clause-planned : goal.to_sbe-requires-clause-planned
to_sbe-requires-clause-planned g c = (mapping_of (members_of c.bridge.inside.files.repository), c.bridge.invariant.planned)

pub to_sbe-requires-clause-held : goal.to_sbe-requires-clause-held
to_sbe-requires-clause-held g c = holds_fields (tags_in c.args.bridge.now) c.args.body.now c.args.space.now.table c.requires.held

pub to_sbe-requires-clause-typed : goal.to_sbe-requires-clause-typed
to_sbe-requires-clause-typed g c = has_third (tags_in c.args.bridge.now) c.args.body.now c.args.space.now.table c.requires.held

-- ---- a message

pub answer_message-requires-clause-known : goal.answer_message-requires-clause-known
answer_message-requires-clause-known g c =
    let b : BackBridge = record { schema = c.bridge.inside.files.checked; repository = c.bridge.inside.files.repository; frame = c.bridge.inside.frame } in
    let tags = tags_in c.args.bridge.now in
    let text = c.args.body.now in
    let table = c.args.space.now.table in
    let held = c.requires.held in
    let kind = type_of held.fields in
    let told = c.in-Ok.ensures (mapping_in b) held.fields kind c.bridge.invariant.planned (text_is tags text table held) held.table_is (kind_there tags text table held) in
    ap is_some (ap (λ (s : WireSchema). slice_get s.messages c.in-Ok.message.template) c.bridge.invariant.laid_out ∙ told.template.only.there)

pub returns-in-Ok-clause-replied : goal.returns-in-Ok-clause-replied
returns-in-Ok-clause-replied g c = λ held.
    let b : BackBridge = record { schema = c.bridge.inside.files.checked; repository = c.bridge.inside.files.repository; frame = c.bridge.inside.frame } in
    let tags = tags_in c.args.bridge.now in
    let text = c.args.body.now in
    let table = c.args.space.now.table in
    let fields = held.fields in
    let kind = type_of fields in
    let told = c.in-Ok.ensures (mapping_in b) fields kind c.bridge.invariant.planned (text_is tags text table held) held.table_is (kind_there tags text table held) in
    let size = c.requires.size ∙ ap (λ (on : BackBridge). body_limit on.frame) (sym c.bridge.view_is) in
    let old : Sinks = sinks_of (g.O.Sink.state c.args.output.now) (g.N.Sink.state c.args.notes.now) in
    let new : Sinks = sinks_of (g.O.Sink.state c.answer_message.new.output) (g.N.Sink.state c.answer_message.new.notes) in
    subst (λ (on : BackBridge). Replied (length text) (IsTextReply on c.args.item fields) old new c.answer_message.result) c.bridge.view_is
    (message_replied b c.args.item (length text) c.args.space.now.buffer.limit fields c.in-Ok.message c.bridge.inside.ways.parts.layout old new c.answer_message.result
    c.bridge.invariant.laid_out size told c.answer_message.ensures.answers)

-- ---- a refusal

pub returns-in-Err-NoTemplate-clause-replied : goal.returns-in-Err-NoTemplate-clause-replied
returns-in-Err-NoTemplate-clause-replied g c = λ held.
    let b : BackBridge = record { schema = c.bridge.inside.files.checked; repository = c.bridge.inside.files.repository; frame = c.bridge.inside.frame } in
    let tags = tags_in c.args.bridge.now in
    let text = c.args.body.now in
    let table = c.args.space.now.table in
    let fields = held.fields in
    let kind = type_of fields in
    let answer = c.in-Err-NoTemplate.ensures (mapping_in b) fields kind c.bridge.invariant.planned (text_is tags text table held) held.table_is (kind_there tags text table held) in
    let told = subst (λ (e : ToSbeErr). IsAnswer (mapping_in b) c.bridge.inside.files.checked kind fields (Err e)) c.in-Err-NoTemplate.field-0-is answer in
    let why = of_no_message in
    let is = subst (λ (on : BackBridge). IsTextReply on c.args.item fields (refused_so c.args.item why)) c.bridge.view_is (no_template_told b c.args.item fields told) in
    noted_replied c.args.bridge.now c.args.item (length text) fields why (g.N.Sink.state c.args.notes.now) (g.N.Sink.state c.note_no_message.new.sink) (g.O.Sink.state c.args.output.now) c.note_no_message.result
    c.refused.result is c.note_no_message.ensures c.refused.ensures

pub returns-in-Err-Several-clause-replied : goal.returns-in-Err-Several-clause-replied
returns-in-Err-Several-clause-replied g c = λ held.
    let b : BackBridge = record { schema = c.bridge.inside.files.checked; repository = c.bridge.inside.files.repository; frame = c.bridge.inside.frame } in
    let tags = tags_in c.args.bridge.now in
    let text = c.args.body.now in
    let table = c.args.space.now.table in
    let fields = held.fields in
    let kind = type_of fields in
    let answer = c.in-Err-Several.ensures (mapping_in b) fields kind c.bridge.invariant.planned (text_is tags text table held) held.table_is (kind_there tags text table held) in
    let told = subst (λ (e : ToSbeErr). IsAnswer (mapping_in b) c.bridge.inside.files.checked kind fields (Err e)) c.in-Err-Several.field-0-is answer in
    let why = of_several in
    let is = subst (λ (on : BackBridge). IsTextReply on c.args.item fields (refused_so c.args.item why)) c.bridge.view_is (several_told b c.args.item fields told) in
    noted_replied c.args.bridge.now c.args.item (length text) fields why (g.N.Sink.state c.args.notes.now) (g.N.Sink.state c.note_several.new.sink) (g.O.Sink.state c.args.output.now) c.note_several.result
    c.refused-in-Err-Several.result is c.note_several.ensures c.refused-in-Err-Several.ensures

pub returns-in-Err-Uncovered-clause-replied : goal.returns-in-Err-Uncovered-clause-replied
returns-in-Err-Uncovered-clause-replied g c = λ held.
    let b : BackBridge = record { schema = c.bridge.inside.files.checked; repository = c.bridge.inside.files.repository; frame = c.bridge.inside.frame } in
    let tags = tags_in c.args.bridge.now in
    let text = c.args.body.now in
    let table = c.args.space.now.table in
    let fields = held.fields in
    let kind = type_of fields in
    let answer = c.in-Err-Uncovered.ensures (mapping_in b) fields kind c.bridge.invariant.planned (text_is tags text table held) held.table_is (kind_there tags text table held) in
    let told = subst (λ (e : ToSbeErr). IsAnswer (mapping_in b) c.bridge.inside.files.checked kind fields (Err e)) c.in-Err-Uncovered.field-0-is answer in
    let why = of_uncovered c.in-Err-Uncovered.path.now in
    let is = subst (λ (on : BackBridge). IsTextReply on c.args.item fields (refused_so c.args.item why)) c.bridge.view_is (uncovered_told b c.args.item fields _ c.in-Err-Uncovered.path.now told) in
    let old = g.N.Sink.state c.args.notes.now in
    let new = g.N.Sink.state c.note_uncovered.new.sink in
    let written : Writes old new (refused_line c.args.item why) c.note_uncovered.result = rw c.in-Err-Uncovered.path-is at c.note_uncovered.ensures in
    noted_replied c.args.bridge.now c.args.item (length text) fields why old new (g.O.Sink.state c.args.output.now) c.note_uncovered.result c.refused-in-Err-Uncovered.result is written
    c.refused-in-Err-Uncovered.ensures

pub returns-in-Err-Refused-clause-replied : goal.returns-in-Err-Refused-clause-replied
returns-in-Err-Refused-clause-replied g c = λ held.
    let b : BackBridge = record { schema = c.bridge.inside.files.checked; repository = c.bridge.inside.files.repository; frame = c.bridge.inside.frame } in
    let tags = tags_in c.args.bridge.now in
    let text = c.args.body.now in
    let table = c.args.space.now.table in
    let fields = held.fields in
    let kind = type_of fields in
    let answer = c.in-Err-Refused.ensures (mapping_in b) fields kind c.bridge.invariant.planned (text_is tags text table held) held.table_is (kind_there tags text table held) in
    let told = subst (λ (e : ToSbeErr). IsAnswer (mapping_in b) c.bridge.inside.files.checked kind fields (Err e)) c.in-Err-Refused.field-0-is answer in
    let why = of_refusal (refusal_of c.in-Err-Refused.why) in
    let is = subst (λ (on : BackBridge). IsTextReply on c.args.item fields (refused_so c.args.item why)) c.bridge.view_is (refusal_told b c.args.item fields c.in-Err-Refused.why told) in
    let old = g.N.Sink.state c.args.notes.now in
    let new = g.N.Sink.state c.note_refused.new.sink in
    let written = subst (λ (w : Refused). Writes old new (refused_line c.args.item (of_refusal (refusal_of w))) c.note_refused.result) c.in-Err-Refused.why-is c.note_refused.ensures in
    noted_replied c.args.bridge.now c.args.item (length text) fields why old new (g.O.Sink.state c.args.output.now) c.note_refused.result c.refused-in-Err-Refused.result is written
    c.refused-in-Err-Refused.ensures

-- ---- out of memory

pub returns-in-Err-Memory-clause-replied : goal.returns-in-Err-Memory-clause-replied
returns-in-Err-Memory-clause-replied g c = λ held.
    let b : BackBridge = record { schema = c.bridge.inside.files.checked; repository = c.bridge.inside.files.repository; frame = c.bridge.inside.frame } in
    let own = some_text_reply b c.args.item held.fields c.bridge.invariant.good in (
      own.0,
      subst (λ (on : BackBridge). IsTextReply on c.args.item held.fields own.0) c.bridge.view_is own.1,
      text_parts b c.args.item (length c.args.body.now) held.fields own.0 own.1,
      inr (refl, refl),
    )
