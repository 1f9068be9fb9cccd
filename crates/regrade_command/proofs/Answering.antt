-- What the code writes for a frame is the answer to it.
use Rattle.std.proofs.Common.{◌≡◌, ◌≢◌, ℕ, ◌==◌, Bool, true, false, cond, List, Option, Some, None, Result, Ok, Err, refl, sym, ap, ap₂, ◌∙◌, subst, arith}
use Rattle.std.proofs.lemmas.Bool.Decides.{nat_tests}
use Rattle.sbe_base.specs.declared.status.Status.{Status}
use Rattle.sbe_base.specs.declared.stream.WriteFault.{WriteFault}
use Rattle.sbe_base.specs.Objects.{Object}
use Rattle.sbe_base.specs.Writes.{Writes}
use Rattle.sbe_types.specs.declared.path.Step.{Step}
use Rattle.sbe_types.specs.declared.schema.WireSchema.{WireSchema}
use Rattle.sbe_types.specs.declared.message.Msg.{Msg}
use Rattle.sbe_wire.specs.Faults.{Fault, FirstFault}
use Rattle.sbe_wire.specs.Lays.{Lays}
use Rattle.sbe_wire.specs.Misfit.{Misfit, misfit}
use Rattle.sbe_wire.specs.Placed.{IsPlaced}
use Rattle.sbe_wire.specs.Reading.{message_of}
use Rattle.sbe_wire.proofs.Messages.{message_judges}
use Rattle.open_framing.specs.Frames.{Item}
use Rattle.dump_lines.specs.Dumped.{encoding_of}
use Rattle.dump_lines.specs.Refused.{IsWay, message_meant, of_fault, of_fault_in}
use Rattle.dump_lines.proofs.Ways.{faults_have_ways}
use Rattle.refused_items.specs.Refused.{refused_line, of_encoding}
use Rattle.replies.specs.Outside.{Sinks, sinks_of}
use Rattle.replies.specs.Reply.{Reply}
use Rattle.replies.specs.Drafts.{DeliversDraft}
use Rattle.replies.specs.declared.verdict.Verdict.{Verdict}
use Rattle.replies.specs.declared.verdict.Verdict.TheVariants as verdict
use Rattle.build_command.specs.Build.{body_limit, refused_reply, message_reply}
use Rattle.build_command.proofs.Answering.{note_whole, note_part}
use Rattle.regrade_laws.specs.Regraded.{NoTemplate, NoFill, moved, regraded}
use Rattle.regrade_laws.specs.Counts.{dropped, filled}
use Rattle.regrade.specs.declared.regrading.Regraded.{Regraded}
use Rattle.regrade_command.specs.Regrade.{Regrading, of_no_template, written_reply, lack_line, reply_by, rewritten_reply, body_reply, regrade_reply, refused_so, counted_verdict}

-- ---- a note

-- a refused item is noted, or in part
pub noted : (old new : Object (List ℕ)) (reply : Reply) (line : List ℕ) (output : Object (List ℕ)) (r : Result (Unit {0}) WriteFault) →
    reply ≡ refused_reply line → Writes old new line r →
    DeliversDraft reply (sinks_of output old) (sinks_of output new) (refused_so r)
noted old new reply line output (Ok done) is w = note_whole old new reply line is output w
noted old new reply line output (Err e) is w = note_part old new reply line is output w

-- the same, where the answer is known to be that
pub noted_as : (old new : Object (List ℕ)) (reply : Reply) (line : List ℕ) (output : Object (List ℕ)) (r : Result (Unit {0}) WriteFault) (result : Result Verdict Status) → reply ≡ refused_reply line →
    Writes old new line r → result ≡ refused_so r → DeliversDraft reply (sinks_of output old) (sinks_of output new) result
noted_as old new reply line output r result is w same = subst (DeliversDraft reply (sinks_of output old) (sinks_of output new)) (sym same) (noted old new reply line output r is w)

-- a reply that is another is delivered as that
pub delivered_as : (reply other : Reply) (old new : Sinks) (r : Result Verdict Status) → reply ≡ other → DeliversDraft reply old new r →
    DeliversDraft other old new r
delivered_as reply other old new r same h = subst (λ (x : Reply). DeliversDraft x old new r) same h

-- ---- the body

module _ (on : Regrading) (number : ℕ) (body : List ℕ) where
  -- a body that is a message
  pub body_read : (m : Msg) → IsPlaced on.pair.from → Lays on.pair.from m body → body_reply on number body (message_of on.pair.from body) ≡ rewritten_reply on number m
  body_read m placed lies = ap (body_reply on number body) ((message_judges on.pair.from placed).complete body m lies)

  -- or none
  pub body_fault : (read : WireSchema) (template : Option ℕ) (f : Fault) → read ≡ on.pair.from → IsPlaced on.pair.from → FirstFault read f body →
      template ≡ message_meant read body → body_reply on number body (message_of on.pair.from body) ≡ refused_reply (refused_line number (of_fault_in read template f))
  body_fault read template f is placed first meant =
      ap (body_reply on number body) ((message_judges on.pair.from placed).only body f (subst (λ s. FirstFault s f body) is first))
      ∙ sym (ap (λ o. refused_reply (refused_line number (of_fault_in read o f))) meant ∙ ap (λ s. refused_reply (refused_line number (of_fault s body f))) is)

-- ---- the encoding type

module _ (on : Regrading) (number encoding : ℕ) (body : List ℕ) where
  abbrev item : Item
  item = record { encoding = encoding; body = body }

  abbrev other_line : Reply
  other_line = refused_reply (refused_line number (of_encoding encoding))

  pub right_encoding : encoding ≡ encoding_of on.pair.from.order →
      regrade_reply on number item ≡ body_reply on number body (message_of on.pair.from body)
  right_encoding same =
      let hit : (encoding == encoding_of on.pair.from.order) ≡ true = grind (arith, nat_tests) in
      ap (λ t. cond t (body_reply on number body (message_of on.pair.from body)) other_line) hit

  pub wrong_encoding : encoding ≢ encoding_of on.pair.from.order → regrade_reply on number item ≡ other_line
  wrong_encoding differs = by (encoding == encoding_of on.pair.from.order) refl
    where
      by : (t : Bool) → (encoding == encoding_of on.pair.from.order) ≡ t →
          cond t (body_reply on number body (message_of on.pair.from body)) other_line ≡ other_line
      by true e = let same : encoding ≡ encoding_of on.pair.from.order = grind (arith, nat_tests) in absurd (differs same)
      by false e = refl

  pub message_read : (m : Msg) → encoding ≡ encoding_of on.pair.from.order → IsPlaced on.pair.from → Lays on.pair.from m body →
      regrade_reply on number item ≡ rewritten_reply on number m
  message_read m same placed lies = right_encoding same ∙ body_read on number body m placed lies

-- the way of a refusal leads to a part of the message that is meant
pub way_there : (schema : WireSchema) (body : List ℕ) (template : Option ℕ) (f : Fault) → FirstFault schema f body →
    template ≡ message_meant schema body → IsWay schema template f.path
way_there schema body template f first meant = subst (λ o. IsWay schema o f.path) (sym meant) (faults_have_ways schema f body first)

-- ---- a message

module _ (on : Regrading) (number : ℕ) (m : Msg) where
  pub rewritten_is : (it : Regraded) (limit : ℕ) → limit ≡ body_limit on.frame → regraded on.pair.from on.pair.to m ≡ Ok it.msg →
      it.dropped ≡ dropped on.pair.from on.pair.to m → it.filled ≡ filled on.pair.from on.pair.to m →
      written_reply on.pair.to number it (misfit on.pair.to it.msg limit) ≡ rewritten_reply on number m
  rewritten_is it limit at told drops fills =
      ap (λ n. written_reply on.pair.to number it (misfit on.pair.to it.msg n)) at
      ∙ ap₂ (λ d f. written_reply on.pair.to number (record { msg = it.msg; dropped = d; filled = f }) (misfit on.pair.to it.msg (body_limit on.frame))) drops fills
      ∙ sym (ap (reply_by on number m) told)

  pub no_template_is : regraded on.pair.from on.pair.to m ≡ Err NoTemplate →
      rewritten_reply on number m ≡ refused_reply (refused_line number of_no_template)
  no_template_is told = ap (reply_by on number m) told

  pub no_fill_is : (path : List Step) → regraded on.pair.from on.pair.to m ≡ Err (NoFill path) →
      rewritten_reply on number m ≡ refused_reply (lack_line on.pair.to number path (moved on.pair.from on.pair.to m))
  no_fill_is path told = ap (reply_by on number m) told

-- ---- a message that is written

refused_answered : ◌≡◌ {A = Verdict} verdict.Refused verdict.Answered → ⊥
refused_answered h = cc

translated_answered : ◌≡◌ {A = Verdict} verdict.Translated verdict.Answered → ⊥
translated_answered h = cc

regraded_answered : (d f : ℕ) → ◌≡◌ {A = Verdict} (verdict.Regraded d f) verdict.Answered → ⊥
regraded_answered d f h = cc

answered_refused : ◌≡◌ {A = Verdict} verdict.Answered verdict.Refused → ⊥
answered_refused h = cc

module _ (to : WireSchema) (number : ℕ) (it : Regraded) (old new : Sinks) where
  relabelled : (found : Option Misfit) (r : Result Verdict Status) → DeliversDraft (message_reply to number it.msg found) old new r →
      DeliversDraft (written_reply to number it found) old new (counted_verdict it r)
  relabelled None (Ok verdict.Answered) h = (h.0, refl)
  relabelled None (Ok verdict.Refused) h = absurd (refused_answered h.1)
  relabelled None (Ok verdict.Translated) h = absurd (translated_answered h.1)
  relabelled None (Ok (verdict.Regraded d f)) h = absurd (regraded_answered d f h.1)
  relabelled None (Err code) h = h
  relabelled (Some why) (Ok verdict.Answered) h = absurd (answered_refused h.1)
  relabelled (Some why) (Ok verdict.Refused) h = h
  relabelled (Some why) (Ok verdict.Translated) h = h
  relabelled (Some why) (Ok (verdict.Regraded d f)) h = h
  relabelled (Some why) (Err code) h = h

  pub recounted : (written : WireSchema) (limit : ℕ) (r result : Result Verdict Status) → written ≡ to →
      DeliversDraft (message_reply written number it.msg (misfit written it.msg limit)) old new r → result ≡ counted_verdict it r →
      DeliversDraft (written_reply to number it (misfit to it.msg limit)) old new result
  recounted written limit r result is h same =
      subst (DeliversDraft (written_reply to number it (misfit to it.msg limit)) old new) (sym same)
      (relabelled (misfit to it.msg limit) r (subst (λ s. DeliversDraft (message_reply s number it.msg (misfit s it.msg limit)) old new r) is h))
