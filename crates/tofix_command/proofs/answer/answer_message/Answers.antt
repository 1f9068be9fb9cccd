use Rattle.std.proofs.Common.{◌≡◌, ◌<◌, ℕ, List, Option, Some, refl, sym, ap, subst, arith, ◌∙◌}
use Rattle.std.specs.Prelude.{slice_get}
use Rattle.sbe_types.specs.declared.schema.Level.{Level, out-Level}
use Rattle.tagvalue_codec.specs.Drafts.{IsValue}
use Rattle.bridge_terms.specs.Blocks.{values_of}
use Rattle.bridge_plan.specs.Covers.{plan_of, unmapped}
use Rattle.bridge_plan.specs.Mappings.{Mapping}
use Rattle.flyweight_view.specs.TypedBlocks.{TypedBlock}
use Rattle.message_walk.specs.Rows.{AreRows, FitsBlock}
use Rattle.message_plans.specs.Plans.{ArePlans, IsCover, IsMapped}
use Rattle.value_texts.specs.Rows.{Spells}
use Rattle.fix_messages.specs.Heads.{head_of}
use Rattle.fix_translation.proofs.Covering.{below}
use Rattle.refused_items.specs.Refused.{refused_line}
use Rattle.replies.specs.Outside.{sinks_of}
use Rattle.tofix_replies.specs.Unsent.{of_no_message, of_uncovered}
use Rattle.tofix_command.proofs.Replied.{covered_replied, near_all, no_message_replied, noted_so, uncovered_replied}
use Rattle.tofix_command.proofs.answer.answer_message.Goals as goal

pub cover-requires : goal.cover-requires
cover-requires g c =
    let k = c.requires.ready in
    omega (arith, below c.args.translation.now.layout.messages c.args.view.now.message.template c.args.view.now.level k.there, k.planned.many, c.template-template.ensures)

pub msg_type-requires : goal.msg_type-requires
msg_type-requires g c =
    let k = c.requires.ready in
    omega (arith, below c.args.translation.now.layout.messages c.args.view.now.message.template c.args.view.now.level k.there, k.planned.many, c.template-template.ensures)

pub message-requires : goal.message-requires
message-requires g c =
    let k = c.requires.ready in
    omega (arith, below c.args.translation.now.layout.messages c.args.view.now.message.template c.args.view.now.level k.there, c.template-template.ensures)

pub answer_covered-requires-clause-kind : goal.answer_covered-requires-clause-kind
answer_covered-requires-clause-kind g c =
    let k = c.requires.ready in
    let level = c.args.view.now.level in
    let levels = c.args.translation.now.layout.messages in
    let there = ap (slice_get levels) c.template-template.ensures ∙ k.there in
    let mapped : IsMapped Spells k.mapping level c.in-Mapped.rows.items = subst (IsCover Spells k.mapping level) c.in-Mapped.is (c.cover.ensures k.mapping levels level k.planned there) in
    subst IsValue (sym (c.msg_type.ensures k.mapping levels level k.planned there)) (k.kinds (out-Level level).semantic mapped.structure mapped.mapped)

pub answer_covered-requires-clause-covered : goal.answer_covered-requires-clause-covered
answer_covered-requires-clause-covered g c =
    let k = c.requires.ready in
    let level = c.args.view.now.level in
    let levels = c.args.translation.now.layout.messages in
    let there = ap (slice_get levels) c.template-template.ensures ∙ k.there in
    let mapped : IsMapped Spells k.mapping level c.in-Mapped.rows.items = subst (IsCover Spells k.mapping level) c.in-Mapped.is (c.cover.ensures k.mapping levels level k.planned there) in
    let p = plan_of k.mapping mapped.structure level in
    record { lists = k.mapping.lists; plan = p; rows_are = subst (AreRows Spells k.mapping.lists p) (sym c.as_slice-in-Mapped.ensures.value) mapped.rows; fits = subst (FitsBlock p) (sym c.root.ensures) mapped.fits }

pub returns-in-NoMessage-clause-delivers : goal.returns-in-NoMessage-clause-delivers
returns-in-NoMessage-clause-delivers g c = λ b planned is_with.
    let level = c.args.view.now.level in
    let levels = c.args.translation.now.layout.messages in
    let there = ap (slice_get levels) c.template-template.ensures ∙ c.requires.ready.there in
    let output = g.O.Sink.state c.args.output.now in
    let old = g.N.Sink.state c.args.notes.now in
    let new = g.N.Sink.state c.note_no_message.new.sink in
    no_message_replied b c.args.kept.now level c.args.view.now.message.block (sinks_of output old) (sinks_of output new) c.refused.result
    (subst (IsCover Spells b.mapping level) c.in-NoMessage.is (c.cover.ensures b.mapping levels level planned there))
    (noted_so (refused_line c.args.kept.now.items of_no_message) old new output c.note_no_message.result c.refused.result c.note_no_message.ensures c.refused.ensures.told)

pub returns-in-Unmapped-clause-delivers : goal.returns-in-Unmapped-clause-delivers
returns-in-Unmapped-clause-delivers g c = λ b planned is_with.
    let level = c.args.view.now.level in
    let levels = c.args.translation.now.layout.messages in
    let there = ap (slice_get levels) c.template-template.ensures ∙ c.requires.ready.there in
    let output = g.O.Sink.state c.args.output.now in
    let old = g.N.Sink.state c.args.notes.now in
    let new = g.N.Sink.state c.note_uncovered.new.sink in
    let path = c.as_slice.result.now in
    uncovered_replied b c.args.kept.now level c.args.view.now.message.block (sinks_of output old) (sinks_of output new) c.refused-in-Unmapped.result path
    (subst (IsCover Spells b.mapping level) c.in-Unmapped.is (c.cover.ensures b.mapping levels level planned there) ∙ ap (λ (names : List (List ℕ)). unmapped names) (sym c.as_slice.ensures))
    (noted_so (refused_line c.args.kept.now.items (of_uncovered path)) old new output c.note_uncovered.result c.refused-in-Unmapped.result c.note_uncovered.ensures c.refused-in-Unmapped.ensures.told)

pub returns-in-Mapped-clause-delivers : goal.returns-in-Mapped-clause-delivers
returns-in-Mapped-clause-delivers g c = λ b planned is_with.
    let level = c.args.view.now.level in
    let layout = c.args.translation.now.layout in
    let levels = layout.messages in
    let seen = c.root.result in
    let there = ap (slice_get levels) c.template-template.ensures ∙ c.requires.ready.there in
    let mapped : IsMapped Spells b.mapping level c.in-Mapped.rows.items = subst (IsCover Spells b.mapping level) c.in-Mapped.is (c.cover.ensures b.mapping levels level planned there) in
    let p = plan_of b.mapping mapped.structure level in
    let head = head_of c.args.head.now in
    let limit = c.args.space.now.out.limit in
    let kind = c.msg_type.result.now in
    let rows = subst (AreRows Spells b.mapping.lists p) (sym c.as_slice-in-Mapped.ensures.value) mapped.rows in
    let base : c.message.result.now ≡ level = some_same c.message.ensures there in
    covered_replied b c.args.kept.now level c.args.view.now.message.block _ _ c.answer_covered.result p mapped.cover head limit kind c.message.result.now seen.block is_with
    (c.msg_type.ensures b.mapping levels level planned there) base (ap (λ (s : TypedBlock). s.block) c.root.ensures)
    (c.answer_covered.ensures.delivers b.mapping.lists p rows (subst (FitsBlock p) (sym c.root.ensures) mapped.fits)
    (near_all layout c.args.view.now.message.template level b.mapping mapped.structure c.schema-schema.ensures.order c.requires.ready.there b.mapping.lists limit kind head (values_of p seen.block)))
  where
    some_same : {x y : Level} {o : Option Level} → o ≡ Some x → o ≡ Some y → x ≡ y
    some_same h k = cc
