use Rattle.std.proofs.Common.{◌<◌, ◌^◌, length, refl, sym, ap, subst, arith, ◌∙◌}
use Rattle.tagvalue_codec.specs.Drafts.{Draft, finished}
use Rattle.bridge_terms.specs.Blocks.{values_of}
use Rattle.bridge_terms.specs.Places.{place_fields, places_of}
use Rattle.fix_messages.specs.Heads.{head_of}
use Rattle.fix_messages.specs.Texts.{message_text, text_refusal, IsTextBy}
use Rattle.fix_messages.proofs.Limits.{text_within}
use Rattle.tofix_replies.proofs.Delivering.{text_noted, text_sent, written_text}
use Rattle.tofix_replies.proofs.covered.answer_covered.Goals as goal

pub write_frame-put-requires-clause-short : goal.write_frame-put-requires-clause-short
write_frame-put-requires-clause-short g c =
    let k = c.requires.covered in
    let kind = c.args.template.now.msg_type.now in
    let head = head_of c.args.head.now in
    let limit = c.args.space.now.out.limit in
    let all = places_of k.plan (values_of k.plan c.args.root.now.block) in
    let text = message_text k.lists kind head (place_fields all.places) in
    let written = written_text (text_refusal k.lists limit kind head all) text c.write_text.new.out c.write_text.new.halt
    (subst (λ b. IsTextBy (text_refusal k.lists limit kind head all) text b c.write_text.new.out c.write_text.new.halt) c.if-write_text.true (c.write_text.ensures.text k.lists k.plan k.rows_are k.fits)) in
    let within = text_within k.lists limit kind head all written.0 in
    subst (λ bytes. length bytes < 2 ^ 24) (sym written.1) (omega (arith, within, c.requires.room))

pub returns-then-write_text-clause-delivers : goal.returns-then-write_text-clause-delivers
returns-then-write_text-clause-delivers g c = λ lists p rows fits near.
    let kind = c.args.template.now.msg_type.now in
    let head = head_of c.args.head.now in
    let limit = c.args.space.now.out.limit in
    let all = places_of p (values_of p c.args.root.now.block) in
    let text = message_text lists kind head (place_fields all.places) in
    text_sent c.args.item c.args.level.now p text (text_refusal lists limit kind head all) c.write_text.new.out c.write_text.new.halt
    (g.O.Sink.state c.args.output.now) (g.O.Sink.state c.write_frame-put.new.sink) (g.N.Sink.state c.args.notes.now) (finished c.write_text.new.out) c.write_frame-put.result c.verdict_of.result
    (subst (λ b. IsTextBy (text_refusal lists limit kind head all) text b c.write_text.new.out c.write_text.new.halt) c.if-write_text.true (c.write_text.ensures.text lists p rows fits))
    refl c.write_frame-put.ensures.written c.verdict_of.ensures.told

pub returns-then-write_text-clause-limit : goal.returns-then-write_text-clause-limit
returns-then-write_text-clause-limit g c =
    let k = c.requires.covered in
    ap (λ (d : Draft). d.limit) c.write_frame-put.ensures.same ∙ c.write_text.ensures.limit k.lists k.plan k.rows_are k.fits

pub returns-clause-delivers : goal.returns-clause-delivers
returns-clause-delivers g c = λ lists p rows fits near.
    let kind = c.args.template.now.msg_type.now in
    let head = head_of c.args.head.now in
    let limit = c.args.space.now.out.limit in
    let all = places_of p (values_of p c.args.root.now.block) in
    let text = message_text lists kind head (place_fields all.places) in
    text_noted c.args.item c.args.level.now p text (text_refusal lists limit kind head all) c.write_text.new.out c.write_text.new.halt
    (g.N.Sink.state c.args.notes.now) (g.N.Sink.state c.note_halt-put.new.sink) (g.O.Sink.state c.args.output.now) c.note_halt-put.result c.verdict_of-2.result
    (subst (λ b. IsTextBy (text_refusal lists limit kind head all) text b c.write_text.new.out c.write_text.new.halt) c.if-write_text.false (c.write_text.ensures.text lists p rows fits))
    near (λ u is close. c.note_halt-put.ensures lists p u rows is close) c.verdict_of-2.ensures.told

pub returns-clause-limit : goal.returns-clause-limit
returns-clause-limit g c = let k = c.requires.covered in c.write_text.ensures.limit k.lists k.plan k.rows_are k.fits
