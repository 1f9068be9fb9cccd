use Rattle.std.proofs.Common.{refl, sym, ap, subst, arith, ◌∙◌}
use Rattle.std.specs.Prelude.{slice_get}
use Rattle.sbe_types.specs.declared.schema.Level.{out-Level}
use Rattle.tagvalue_codec.specs.Drafts.{IsValue}
use Rattle.bridge_terms.specs.Blocks.{values_of}
use Rattle.bridge_terms.specs.Places.{places_of}
use Rattle.bridge_plan.specs.Covers.{plan_of}
use Rattle.message_walk.specs.Rows.{AreRows, FitsBlock}
use Rattle.message_plans.specs.Plans.{IsCover, IsMapped}
use Rattle.value_texts.specs.Rows.{Spells}
use Rattle.fix_messages.specs.Heads.{head_of}
use Rattle.fix_messages.specs.Texts.{IsTextPut}
use Rattle.fix_translation.specs.Translations.{request_of}
use Rattle.fix_translation.proofs.Covering.{below, no_message_told, uncovered_told, text_told, refusal_told}
use Rattle.fix_translation.proofs.translate.to_fix.Goals as goal

pub cover-requires : goal.cover-requires
cover-requires c =
    let k = c.requires.planned in
    omega (arith, below k.levels c.args.view.now.message.template c.args.view.now.level k.there, k.plans_are.many, c.template-template.ensures)

pub msg_type-requires : goal.msg_type-requires
msg_type-requires c =
    let k = c.requires.planned in
    omega (arith, below k.levels c.args.view.now.message.template c.args.view.now.level k.there, k.plans_are.many, c.template-template.ensures)

pub write_text-requires-clause-kind : goal.write_text-requires-clause-kind
write_text-requires-clause-kind c =
    let k = c.requires.planned in
    let level = c.args.view.now.level in
    let there = ap (slice_get k.levels) c.template-template.ensures ∙ k.there in
    let mapped : IsMapped Spells k.mapping level c.in-Mapped.rows.items = subst (IsCover Spells k.mapping level) c.in-Mapped.is (c.cover.ensures k.mapping k.levels level k.plans_are there) in
    subst IsValue (sym (c.msg_type.ensures k.mapping k.levels level k.plans_are there)) (k.kinds (out-Level level).semantic mapped.structure mapped.mapped)

pub returns-in-NoMessage : goal.returns-in-NoMessage
returns-in-NoMessage c = λ m levels are there.
    let level = c.args.view.now.level in
    no_message_told (request_of m c.args.view.now (head_of c.args.head.now)) c.args.out.now c.args.out.now
    (subst (IsCover Spells m level) c.in-NoMessage.is (c.cover.ensures m levels level are (ap (slice_get levels) c.template-template.ensures ∙ there))) refl

pub returns-in-Unmapped : goal.returns-in-Unmapped
returns-in-Unmapped c = λ m levels are there.
    let level = c.args.view.now.level in
    uncovered_told (request_of m c.args.view.now (head_of c.args.head.now)) c.args.out.now c.args.out.now c.in-Unmapped.path _
    (subst (IsCover Spells m level) c.in-Unmapped.is (c.cover.ensures m levels level are (ap (slice_get levels) c.template-template.ensures ∙ there))) c.as_slice.ensures refl

-- a covered message: what was written, by the plan of the template
pub returns-then-write_text : goal.returns-then-write_text
returns-then-write_text c = λ m levels are there.
    let level = c.args.view.now.level in
    let block = c.args.view.now.message.block in
    let head = head_of c.args.head.now in
    let limit = c.args.out.now.limit in
    let at = ap (slice_get levels) c.template-template.ensures ∙ there in
    let mapped : IsMapped Spells m level c.in-Mapped.rows.items = subst (IsCover Spells m level) c.in-Mapped.is (c.cover.ensures m levels level are at) in
    let p = plan_of m mapped.structure level in
    let rows = subst (AreRows Spells m.lists p) (sym c.as_slice-in-Mapped.ensures.value) mapped.rows in
    let put = c.write_text.ensures.text m.lists p rows (subst (FitsBlock p) (sym c.root.ensures) mapped.fits) in
    text_told (request_of m c.args.view.now head) c.args.out.now c.write_text.new.out p c.write_text.new.halt mapped.cover
    (subst (λ b. IsTextPut m.lists limit (out-Level level).semantic head (places_of p (values_of p block)) b c.write_text.new.out c.write_text.new.halt) c.if-write_text.true
    (subst (λ kind. IsTextPut m.lists limit kind head (places_of p (values_of p block)) c.write_text.result c.write_text.new.out c.write_text.new.halt) (c.msg_type.ensures m levels level are at)
    (subst (λ seen. IsTextPut m.lists limit c.msg_type.result.now head (places_of p (values_of p seen.block)) c.write_text.result c.write_text.new.out c.write_text.new.halt) c.root.ensures put)))

pub returns-else-write_text : goal.returns-else-write_text
returns-else-write_text c = λ m levels are there.
    let level = c.args.view.now.level in
    let block = c.args.view.now.message.block in
    let head = head_of c.args.head.now in
    let limit = c.args.out.now.limit in
    let at = ap (slice_get levels) c.template-template.ensures ∙ there in
    let mapped : IsMapped Spells m level c.in-Mapped.rows.items = subst (IsCover Spells m level) c.in-Mapped.is (c.cover.ensures m levels level are at) in
    let p = plan_of m mapped.structure level in
    let rows = subst (AreRows Spells m.lists p) (sym c.as_slice-in-Mapped.ensures.value) mapped.rows in
    let put = c.write_text.ensures.text m.lists p rows (subst (FitsBlock p) (sym c.root.ensures) mapped.fits) in
    refusal_told (request_of m c.args.view.now head) c.args.out.now c.write_text.new.out p c.write_text.new.halt mapped.cover
    (subst (λ b. IsTextPut m.lists limit (out-Level level).semantic head (places_of p (values_of p block)) b c.write_text.new.out c.write_text.new.halt) c.if-write_text.false
    (subst (λ kind. IsTextPut m.lists limit kind head (places_of p (values_of p block)) c.write_text.result c.write_text.new.out c.write_text.new.halt) (c.msg_type.ensures m levels level are at)
    (subst (λ seen. IsTextPut m.lists limit c.msg_type.result.now head (places_of p (values_of p seen.block)) c.write_text.result c.write_text.new.out c.write_text.new.halt) c.root.ensures put)))
