-- What the translation of a text answers is the reply to the text.
use Rattle.std.proofs.Common.{◌≡◌, inl, inr, ℕ, List, Option, Some, None, Result, refl, sym, ap, ◌∙◌, subst}
use Rattle.sbe_types.specs.declared.message.Msg.{Msg}
use Rattle.sbe_types.specs.declared.schema.WireSchema.{WireSchema}
use Rattle.sbe_wire.specs.Misfit.{misfit}
use Rattle.tagvalue_codec.specs.Fields.{Field}
use Rattle.bridge_terms.specs.WayBack.{Refusal, back_refused}
use Rattle.bridge_terms.proofs.Whole.{block_unrefused}
use Rattle.bridge_plan.specs.Covers.{Cover, cover_of, covered_by, no_message, plan_of, unmapped}
use Rattle.bridge_plan.proofs.Translating.{covered_sound}
use Rattle.sbe_types.specs.declared.schema.Level.{Level}
use Rattle.message_plans.specs.Plans.{AreSeveral, IsOnly}
use Rattle.field_judge.specs.declared.refused.Refused.{Refused}
use Rattle.field_judge.specs.Refusals.{refusal_of}
use Rattle.refused_items.specs.Refused.{Refused as RefusedItem, refused_line}
use Rattle.replies.specs.Outside.{Sinks, sinks_of}
use Rattle.replies.specs.Drafts.{DeliversDraft}
use Rattle.replies.specs.Reply.{Reply}
use Rattle.replies.specs.declared.verdict.Verdict.{Verdict}
use Rattle.replies.specs.declared.verdict.Verdict.TheVariants.{Refused as RefusedVerdict}
use Rattle.sbe_base.specs.Objects.{Object}
use Rattle.sbe_base.specs.Writes.{Writes}
use Rattle.sbe_base.specs.declared.status.Status.{Status}
use Rattle.sbe_base.specs.declared.stream.WriteFault.{WriteFault}
use Rattle.command_steps.specs.Replies.{Replied}
use Rattle.build_command.specs.Build.{body_limit, message_reply}
use Rattle.fixcheck_command.specs.FixCheck.{put_so, type_of}
use Rattle.fixcheck_command.proofs.Replied.{note_replied}
use Rattle.tofix_replies.specs.Unsent.{of_no_message, of_uncovered}
use Rattle.sbe_translation.specs.Translations.{HasNoTemplate, IsMappedTo, IsMessage, IsRefused, IsUncovered}
use Rattle.tosbe_command.specs.Bridges.{mapping_in, BackBridge}
use Rattle.tosbe_command.specs.ToSbe.{own_fields, refused_so, RepliesByRefusal, RepliesByCover, RepliesByTemplates, IsTextReply}
use Rattle.tosbe_command.specs.Unsent.{of_refusal, of_several}
use Rattle.tosbe_command.proofs.Replied.{message_parts}

module _ (b : BackBridge) (number : ℕ) (fields : List Field) where
  abbrev kind : List ℕ
  kind = type_of fields

  abbrev levels : List Level
  levels = b.schema.messages

  -- by the only template
  by_only : (i : ℕ) (only : IsOnly kind levels i) (cover : Cover) (reply : Reply) → cover_of (mapping_in b) only.level ≡ cover → RepliesByCover b number only.level fields cover reply → IsTextReply b number fields reply
  by_only i only cover reply is h =
      subst (λ ts. RepliesByTemplates b number fields ts reply) (sym only.only) (subst (λ c. RepliesByCover b number only.level fields c reply) (sym is) h)

  -- by its plan
  by_plan : (i : ℕ) (to : IsMappedTo (mapping_in b) levels kind i) (o : Option Refusal) (reply : Reply) → back_refused (plan_of (mapping_in b) to.structure to.only.level) (own_fields b fields) ≡ o
      → RepliesByRefusal b number to.only.level (plan_of (mapping_in b) to.structure to.only.level) fields o reply → IsTextReply b number fields reply
  by_plan i to o reply is h =
      by_only i to.only (covered_by (plan_of (mapping_in b) to.structure to.only.level)) reply to.cover
      (subst (λ o. RepliesByRefusal b number to.only.level (plan_of (mapping_in b) to.structure to.only.level) fields o reply) (sym is) h)

  pub message_told : (m : Msg) → IsMessage (mapping_in b) b.schema kind fields m → IsTextReply b number fields (message_reply b.schema number m (misfit b.schema m (body_limit b.frame)))
  message_told m is =
      let to = is.template in
      let p = plan_of (mapping_in b) to.structure to.only.level in
      let none = block_unrefused to.only.level p (covered_sound (mapping_in b) to.structure to.only.level to.covered) (own_fields b fields) m.block is.block in
      let reply = message_reply b.schema number m (misfit b.schema m (body_limit b.frame)) in
      by_plan m.template to None reply none (m, record { there = to.only.there; version = is.version; block = is.block }, refl)

  pub refusal_told : (told : Refused) → IsRefused (mapping_in b) levels kind fields told → IsTextReply b number fields (refused_so number (of_refusal (refusal_of told)))
  refusal_told told is = by_plan is.number is.template (Some (refusal_of told)) (refused_so number (of_refusal (refusal_of told))) is.refused refl

  pub uncovered_told : (i : ℕ) (path : List (List ℕ)) → IsUncovered (mapping_in b) levels kind i path → IsTextReply b number fields (refused_so number (of_uncovered path))
  uncovered_told i path is = by_only i is.only (unmapped path) (refused_so number (of_uncovered path)) is.cover refl

  pub no_template_told : HasNoTemplate (mapping_in b) levels kind → IsTextReply b number fields (refused_so number of_no_message)
  no_template_told (inl none) = subst (λ ts. RepliesByTemplates b number fields ts (refused_so number of_no_message)) (sym none) refl
  no_template_told (inr is) = by_only is.template is.only no_message (refused_so number of_no_message) is.cover refl

  pub several_told : AreSeveral kind levels → IsTextReply b number fields (refused_so number of_several)
  several_told is = subst (λ ts. RepliesByTemplates b number fields ts (refused_so number of_several)) (sym is.several) refl

-- ---- the line that is noted

pub noted_replied : (b : BackBridge) (number bytes : ℕ) (fields : List Field) (why : RefusedItem) (old new output : Object (List ℕ)) (put : Result (Unit {0}) WriteFault)
    (result : Result Verdict Status) → IsTextReply b number fields (refused_so number why) → Writes old new (refused_line number why) put → result ≡ put_so put RefusedVerdict
    → Replied bytes (IsTextReply b number fields) (sinks_of output old) (sinks_of output new) result
noted_replied b number bytes fields why old new output put result is written told =
    subst (λ r. Replied bytes (IsTextReply b number fields) (sinks_of output old) (sinks_of output new) r) (sym told)
    (note_replied bytes (IsTextReply b number fields) (refused_line number why) old new is output put written)

-- ---- the message that is written

pub message_replied : (b : BackBridge) (number bytes limit : ℕ) (fields : List Field) (m : Msg) (layout : WireSchema) (old new : Sinks) (result : Result Verdict Status) → layout ≡ b.schema
    → limit ≡ body_limit b.frame → IsMessage (mapping_in b) b.schema (type_of fields) fields m
    → DeliversDraft (message_reply layout number m (misfit layout m limit)) old new result → Replied bytes (IsTextReply b number fields) old new result
message_replied b number bytes limit fields m layout old new result laid_out size is delivered =
    let reply = message_reply b.schema number m (misfit b.schema m (body_limit b.frame)) in
    let same : message_reply layout number m (misfit layout m limit) ≡ reply =
    ap (λ (s : WireSchema). message_reply s number m (misfit s m limit)) laid_out ∙ ap (λ n. message_reply b.schema number m (misfit b.schema m n)) size in (
      reply,
      message_told b number fields m is,
      message_parts bytes b.schema number m (misfit b.schema m (body_limit b.frame)),
      subst (λ r. DeliversDraft r old new result) same delivered,
    )
