-- A copy is the answer to its frame.
use Rattle.std.proofs.Common.{◌≡◌, ◌≤◌, ◌+◌, ◌++◌, ◌∙◌, ℕ, List, [], length, Option, Some, None, Ok, Err, refl, inl, ap, sym, subst, append_assoc, length-append}
use Rattle.std.specs.Prelude.{unwrap_or}
use Rattle.std.proofs.KnownBytes.{Appends-nil}
use Rattle.byte_digits.specs.Digits.{digits_high_first}
use Rattle.sbe_base.specs.declared.status.Status.TheVariants as status
use Rattle.sbe_base.specs.Objects.{Object}
use Rattle.sbe_base.specs.Writes.{WroteAll, WrotePart}
use Rattle.sbe_types.specs.declared.schema.WireSchema.{WireSchema}
use Rattle.sbe_wire.specs.Misfit.{misfit}
use Rattle.open_framing.specs.declared.head.TheConstants.{HEAD_BYTES}
use Rattle.open_framing.specs.Frames.{Item, frame}
use Rattle.dump_lines.specs.Dumped.{encoding_of}
use Rattle.writing_laws.proofs.MessageMisfit.{fits_none}
use Rattle.writable_schemas.proofs.CheckedSchemas.{schema_writable}
use Rattle.replies.specs.Outside.{at_output, sinks_of}
use Rattle.replies.specs.Reply.{Reply}
use Rattle.replies.specs.Drafts.{DeliversDraft}
use Rattle.replies.specs.declared.verdict.Verdict.TheVariants as verdict
use Rattle.build_command.specs.Build.{body_limit}
use Rattle.version_copies.specs.Copies.{IsCopied}
use Rattle.regrade_laws.specs.Counts.{dropped, filled}
use Rattle.regrade_command.specs.Regrade.{FromTo, Regrading, IsRegradable, copy_reply, written_reply, rewritten_as, reply_by, regrade_reply}
use Rattle.regrade_command.proofs.Answering.{message_read}

-- with these bytes and counts
abbrev with : FromTo → Option (List ℕ) → ℕ → ℕ → Reply
with pair bytes dropped filled =
    record { output = frame (encoding_of pair.to.order) (unwrap_or bytes []); notes = []; verdict = verdict.Regraded dropped filled }

module _ (on : Regrading) (number encoding : ℕ) (body : List ℕ) where
  abbrev item : Item
  item = record { encoding = encoding; body = body }

  pub copied_reply : encoding ≡ encoding_of on.pair.from.order → IsRegradable on.pair → (bytes : List ℕ) → IsCopied on.pair.from on.pair.to body bytes →
      length bytes ≤ body_limit on.frame → regrade_reply on number item ≡ copy_reply on.pair.to bytes
  copied_reply same good bytes copied within =
      let to = on.pair.to in
      let m = copied.m in
      let n = copied.n in
      let none : misfit to n (body_limit on.frame) ≡ None =
      fits_none to n (body_limit on.frame) good.to.placed (schema_writable to good.to) copied.fits (bytes, copied.written, within)
      in
      message_read on number encoding body m same good.from.placed copied.lies ∙ ap (reply_by on number m) copied.told
      ∙ ap (written_reply to number (rewritten_as on.pair m n)) none
      ∙ ap (λ (b : Option (List ℕ)). with on.pair b (dropped on.pair.from to m) (filled on.pair.from to m)) copied.written
      ∙ ap (λ d. with on.pair (Some bytes) d (filled on.pair.from to m)) copied.none_dropped
      ∙ ap (λ f. with on.pair (Some bytes) 0 f) copied.none_filled

-- ---- what is written

-- the head of a frame, and the two pieces of its body after it
pub head_is : (encoding : ℕ) (front rest head : List ℕ) → head ≡ digits_high_first 4 (length front + length rest + HEAD_BYTES) ++ digits_high_first 2 encoding →
    head ++ (front ++ rest) ≡ frame encoding (front ++ rest)
head_is encoding front rest head h =
    ap (λ x. x ++ (front ++ rest)) (h ∙ ap (λ n. digits_high_first 4 (n + HEAD_BYTES) ++ digits_high_first 2 encoding) (sym (length-append front rest)))
    ∙ append_assoc (digits_high_first 4 (length (front ++ rest) + HEAD_BYTES)) (digits_high_first 2 encoding) (front ++ rest)

-- the frame, by the number of its byte order
pub frame_is : (to : WireSchema) (bytes : List ℕ) (encoding : ℕ) → encoding ≡ encoding_of to.order →
    copy_reply to bytes ≡ record { output = frame encoding bytes; notes = []; verdict = verdict.Regraded 0 0 }
frame_is to bytes encoding right = ap (λ e. let r : Reply = record { output = frame e bytes; notes = []; verdict = verdict.Regraded 0 0 } in r) (sym right)

module _ (a b : Object (List ℕ)) (reply : Reply) (output : List ℕ) (is : reply ≡ record { output = output; notes = []; verdict = verdict.Regraded 0 0 })
    (notes : Object (List ℕ)) where
  -- it is written
  pub put_whole : WroteAll a b output → DeliversDraft reply (sinks_of a notes) (sinks_of b notes) (Ok (verdict.Regraded 0 0))
  put_whole w =
      subst (λ (r : Reply). DeliversDraft r (sinks_of a notes) (sinks_of b notes) (Ok (verdict.Regraded 0 0))) (sym is)
      ((record { output = w.all; notes = Appends-nil notes.told }, w.kept, refl), refl)

  -- or in part
  pub put_part : WrotePart a b output → DeliversDraft reply (sinks_of a notes) (sinks_of b notes) (Err status.WriteFault)
  put_part w =
      subst (λ (r : Reply). DeliversDraft r (sinks_of a notes) (sinks_of b notes) (Err status.WriteFault)) (sym is)
      (inl (refl, at_output w.part refl w.failed))
