-- Each frame has one reply.
use Rattle.std.proofs.Common.{◌≡◌, inl, inr, ℕ, true, List, Option, Some, Result, Err, refl, sym, ap, ◌∙◌}
use Rattle.std.specs.Prelude.{slice_get}
use Rattle.std.proofs.lemmas.Bool.Decides.{eqb_tells}
use Rattle.sbe_types.specs.declared.message.Msg.{Msg}
use Rattle.sbe_types.specs.declared.schema.Level.{Level}
use Rattle.sbe_types.specs.declared.schema.WireSchema.{WireSchema}
use Rattle.sbe_base.specs.declared.status.Limits.{Limits}
use Rattle.sbe_wire.specs.Faults.{Fault, FirstFault}
use Rattle.sbe_wire.specs.Placed.{IsPlaced}
use Rattle.sbe_wire.proofs.Messages.{message_judges, message_or_fault, one_message, not_both}
use Rattle.open_framing.specs.Frames.{Item}
use Rattle.bridge_plan.specs.Covers.{cover_of}
use Rattle.dump_lines.specs.Chosen.{schema_for}
use Rattle.dump_lines.specs.Dumped.{encoding_of, AreInOrder}
use Rattle.dump_lines.specs.Refused.{of_fault}
use Rattle.dump_lines.proofs.Answered.{placed_for}
use Rattle.refused_items.specs.Refused.{refused_line, of_encoding}
use Rattle.command_steps.specs.Replies.{by_frames, no_line}
use Rattle.command_steps.specs.declared.kept.Kept.{Kept}
use Rattle.command_steps.proofs.Folding.{AnswersOnce, frames_once}
use Rattle.replies.specs.Reply.{Reply}
use Rattle.tofix_replies.specs.ToFix.{Bridge, IsToFixReply, cover_reply, noted, other_encoding, a_fault, a_message}

one_level : {x y : Level} {o : Option Level} → o ≡ Some x → o ≡ Some y → x ≡ y
one_level h k = cc

same_fault : (schema : WireSchema) (body : List ℕ) (f g : Fault) → IsPlaced schema → FirstFault schema f body → FirstFault schema g body → f ≡ g
same_fault schema body f g placed h k = err_is (sym ((message_judges schema placed).only body f h) ∙ (message_judges schema placed).only body g k)
  where
    err_is : {x y : Fault} → ◌≡◌ {A = Result Msg Fault} (Err x) (Err y) → x ≡ y
    err_is e = cc

module _ (b : Bridge) (kept : Kept) (item : Item) (order : AreInOrder b.schemas) where
  abbrev schema : WireSchema
  schema = schema_for b.schemas item.body

  placed : IsPlaced schema
  placed = placed_for b.schemas item.body order

  abbrev fault_reply : Fault → Reply
  fault_reply fault = noted (refused_line kept.items (of_fault schema item.body fault))

  pub some_reply : (reply : Reply) × IsToFixReply b kept item reply
  some_reply = elim (eqb_tells item.encoding (encoding_of b.schemas.first.order)) [
    | inl same ↦ elim (message_or_fault schema placed item.body) [
      | inl message ↦
          let level = message.1.0 in
          (cover_reply b kept level message.0.block (cover_of b.mapping level), a_message same.1 message.0 message.1 level message.1.5 refl)
      | inr fault ↦ (fault_reply fault.0, a_fault same.1 fault.0 fault.1 refl)
    ]
    | inr differs ↦ (noted (refused_line kept.items (of_encoding item.encoding)), other_encoding differs.1 refl)
  ]

  pub one_reply : (x y : Reply) → IsToFixReply b kept item x → IsToFixReply b kept item y → x ≡ y
  one_reply x y h k = elim h [
    | other_encoding n e ↦ elim k [ other_encoding m f ↦ e ∙ sym f | a_fault j g first f ↦ absurd (n j) | a_message j m lies level there f ↦ absurd (n j) ]
    | a_fault i fault first e ↦ elim k [
      | other_encoding n f ↦ absurd (n i)
      | a_fault j other second f ↦ e ∙ ap fault_reply (same_fault schema item.body fault other placed first second) ∙ sym f
      | a_message j m lies level there f ↦ absurd (not_both schema placed m fault item.body lies first)
    ]
    | a_message i m lies level there e ↦ elim k [
      | other_encoding n f ↦ absurd (n i)
      | a_fault j fault first f ↦ absurd (not_both schema placed m fault item.body lies first)
      | a_message j l also base here f ↦
          let same : m ≡ l = one_message schema placed m l item.body lies also in
          let level_is : level ≡ base = one_level there (ap (λ (n : Msg). slice_get schema.messages n.template) same ∙ here) in
          e ∙ ap (λ (n : Msg). cover_reply b kept level n.block (cover_of b.mapping level)) same
          ∙ ap (λ root. cover_reply b kept root l.block (cover_of b.mapping root)) level_is ∙ sym f
    ]
  ]

pub tofix_answers : (b : Bridge) (limits : Limits) → AreInOrder b.schemas → AnswersOnce (by_frames limits true no_line (IsToFixReply b))
tofix_answers b limits order = frames_once limits true no_line (IsToFixReply b)
    (λ kept item. some_reply b kept item order)
    (λ kept item x y h k. one_reply b kept item order x y h k)
