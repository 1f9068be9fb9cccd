-- What the code writes for a line is the answer to it.
use Rattle.std.proofs.Common.{◌≡◌, inl, ℕ, ◌+◌, ◌≤◌, ◌<◌, ◌^◌, ◌==◌, Bool, true, false, List, [], ◌∷◌, ◌++◌, length, Option, Some, None, Result, Ok, Err, refl, sym, ap, ◌∙◌, subst, arith, append_assoc}
use Rattle.std.specs.Prelude.{unwrap_or}
use Rattle.std.proofs.lemmas.Bool.Decides.{nat_tests}
use Rattle.std.proofs.KnownBytes.{Appends-nil}
use Rattle.byte_digits.specs.Digits.{digits_high_first}
use Rattle.sbe_base.specs.declared.status.Status.{Status}
use Rattle.sbe_base.specs.declared.status.Status.TheVariants as status
use Rattle.open_framing.specs.declared.head.TheConstants.{HEAD_BYTES}
use Rattle.open_framing.specs.Frames.{frame}
use Rattle.sbe_types.specs.declared.schema.WireSchema.{WireSchema}
use Rattle.sbe_types.specs.declared.message.Msg.{Msg}
use Rattle.sbe_wire.specs.Misfit.{Misfit, misfit}
use Rattle.sbe_wire.specs.Canonical.{canonical}
use Rattle.sbe_wire.specs.declared.codes.NCode.{NCode}
use Rattle.sbe_wire.specs.declared.codes.NCode.TheVariants as unfit
use Rattle.schema_facts.specs.IsChecked.{IsChecked}
use Rattle.sbe_base.specs.Writes.{WroteAll, WrotePart}
use Rattle.line_values.specs.Refusals.{refusal}
use Rattle.line_values.specs.declared.refusals.JCode.{JCode}
use Rattle.line_reading.specs.Lines.{tree_of}
use Rattle.dump_lines.specs.Dumped.{encoding_of}
use Rattle.refused_items.specs.Refused.{refused_line}
use Rattle.sbe_base.specs.Objects.{Object}
use Rattle.replies.specs.Outside.{Sinks, at_output, at_notes, sinks_of}
use Rattle.replies.specs.Reply.{Reply}
use Rattle.replies.specs.Drafts.{DeliversDraft}
use Rattle.build_command.specs.Build.{LeavesRoom, body_limit, built_reply, frame_reply, message_reply, of_misfit, read_reply, refused_reply, unread_line}
use Rattle.replies.specs.declared.verdict.Verdict.{Verdict}
use Rattle.replies.specs.declared.verdict.Verdict.TheVariants.{Answered, Refused}
use Rattle.printed_lines.specs.Bodies.{IsBodyOf}
use Rattle.build_command.proofs.Buildable.{body_there}
use Rattle.misfit_laws.proofs.Wanted.{full_detail}

-- ---- a frame

-- the head of a frame, and its body after it
pub head_is : (encoding : ℕ) (body head : List ℕ) → head ≡ digits_high_first 4 (length body + HEAD_BYTES) ++ digits_high_first 2 encoding → head ++ body ≡ frame encoding body
head_is encoding body head h = ap (λ x. x ++ body) h ∙ append_assoc (digits_high_first 4 (length body + HEAD_BYTES)) (digits_high_first 2 encoding) body

-- the body of a message without a misfit is within the limit
pub body_within : (schema : WireSchema) (m : Msg) (limit : ℕ) (body : List ℕ) → IsChecked schema → misfit schema m limit ≡ None → canonical schema m ≡ Some body → length body ≤ limit
body_within schema m limit body checked none bytes =
    let there = body_there schema m limit checked none in
    subst (λ b. length b ≤ limit) (same_bytes (sym there.1 ∙ bytes)) there.2
  where
    same_bytes : {x y : List ℕ} → ◌≡◌ {A = Option (List ℕ)} (Some x) (Some y) → x ≡ y
    same_bytes h = cc

module _ (a b : Object (List ℕ)) where
  module _ (reply : Reply) (output : List ℕ) (is : reply ≡ record { output = output; notes = []; verdict = Answered }) (notes : Object (List ℕ)) where
    -- an answer that notes nothing is written
    pub put_whole : WroteAll a b output → DeliversDraft reply (sinks_of a notes) (sinks_of b notes) (Ok Answered)
    put_whole w =
        subst (λ (r : Reply). DeliversDraft r (sinks_of a notes) (sinks_of b notes) (Ok Answered)) (sym is)
        ((record { output = w.all; notes = Appends-nil notes.told }, w.kept, refl), refl)

    -- or in part
    pub put_part : WrotePart a b output → DeliversDraft reply (sinks_of a notes) (sinks_of b notes) (Err status.WriteFault)
    put_part w =
        subst (λ (r : Reply). DeliversDraft r (sinks_of a notes) (sinks_of b notes) (Err status.WriteFault)) (sym is)
        (inl (refl, at_output w.part refl w.failed))

  module _ (reply : Reply) (line : List ℕ) (is : reply ≡ refused_reply line) (output : Object (List ℕ)) where
    -- a refused item is noted
    pub note_whole : WroteAll a b line → DeliversDraft reply (sinks_of output a) (sinks_of output b) (Ok Refused)
    note_whole w =
        subst (λ (r : Reply). DeliversDraft r (sinks_of output a) (sinks_of output b) (Ok Refused)) (sym is)
        ((record { output = Appends-nil output.told; notes = w.all }, refl, w.kept), refl)

    -- or in part
    pub note_part : WrotePart a b line → DeliversDraft reply (sinks_of output a) (sinks_of output b) (Err status.WriteFault)
    note_part w =
        subst (λ (r : Reply). DeliversDraft r (sinks_of output a) (sinks_of output b) (Err status.WriteFault)) (sym is)
        (inl (refl, at_notes (Appends-nil output.told) refl w.part w.failed))

-- ---- the answer to a message

-- a frame alone
abbrev as_frame : ℕ → List ℕ → Reply
as_frame encoding body = record { output = frame encoding body; notes = []; verdict = Answered }

-- the frame of a body, by the number of its byte order
pub body_is : (schema : WireSchema) (body : List ℕ) (encoding : ℕ) → encoding ≡ encoding_of schema.order → frame_reply schema body ≡ record { output = frame encoding body; notes = []; verdict = Answered }
body_is schema body encoding right = ap (λ n. as_frame n body) (sym right)

module _ (schema : WireSchema) (item : ℕ) (m : Msg) (found : Option Misfit) where
  pub frame_is : (body bytes : List ℕ) → found ≡ None → canonical schema m ≡ Some body → bytes ≡ body → frame_reply schema bytes ≡ message_reply schema item m found
  frame_is body bytes none there same =
      ap (frame_reply schema) same
      ∙ ap (λ (c : Option (List ℕ)). frame_reply schema (unwrap_or c [])) (sym there)
      ∙ ap (message_reply schema item m) (sym none)

  pub note_is : (why : Misfit) → found ≡ Some why → message_reply schema item m found ≡ refused_reply (refused_line item (of_misfit schema m.template why))
  note_is why h = ap (message_reply schema item m) h

-- the bytes that are wanted leave room for the head's
pub leaves_room : (schema : WireSchema) (m : Msg) (limit : ℕ) (why : Misfit) → IsChecked schema → limit < 2 ^ 64 → misfit schema m limit ≡ Some why → LeavesRoom why.code why.detail
leaves_room schema m limit why checked small unwritten = by why.code refl
  where
    by : (code : NCode) → why.code ≡ code → LeavesRoom code why.detail
    by unfit.Range h = tt
    by unfit.EnumUnknown h = tt
    by unfit.SetUnknown h = tt
    by unfit.TextByte h = tt
    by unfit.Kind h = tt
    by unfit.Count h = tt
    by unfit.Length h = tt
    by unfit.Full h = full_detail schema m limit why checked small unwritten h
    by unfit.Shape h = tt

-- a reply that is another is delivered as that
pub delivers_as : (reply other : Reply) (old new : Sinks) (r : Result Verdict Status) → reply ≡ other → DeliversDraft reply old new r → DeliversDraft other old new r
delivers_as reply other old new r same h = subst (λ (x : Reply). DeliversDraft x old new r) same h

-- ---- the answer to a line

no_bytes : (b : ℕ) (line : List ℕ) → (length (b ∷ line) == 0) ≡ true → ⊥
no_bytes b line h = apart (sym h ∙ some)
  where
    some : (length (b ∷ line) == 0) ≡ false
    some = grind (arith, nat_tests)

    apart : ◌≡◌ {A = Bool} true false → ⊥
    apart e = cc

-- nothing is written for a line without bytes
pub empty_answered : (schema : WireSchema) (limit item : ℕ) (line : List ℕ) (s : Sinks) → (length line == 0) ≡ true → DeliversDraft (built_reply schema limit item line) s s (Ok Answered)
empty_answered schema limit item [] s h = ((record { output = Appends-nil s.output.told; notes = Appends-nil s.notes.told }, refl, refl), refl)
empty_answered schema limit item (b ∷ line) s h = absurd (no_bytes b line h)

-- a line with bytes is answered as it is read
pub read_is : (schema : WireSchema) (limit item : ℕ) (line : List ℕ) → (length line == 0) ≡ false → built_reply schema limit item line ≡ read_reply schema limit item (tree_of schema line)
read_is schema limit item [] h = cc
read_is schema limit item (b ∷ line) h = refl

module _ (schema : WireSchema) (limit item : ℕ) (line : List ℕ) (some : (length line == 0) ≡ false) where
  -- its refusal is noted
  pub unread_is : (code noted : JCode) (place shown : List ℕ) → tree_of schema line ≡ Err (refusal code place) → noted ≡ code → shown ≡ place →
      built_reply schema limit item line ≡ refused_reply (unread_line item (refusal noted shown))
  unread_is code noted place shown read same there =
      read_is schema limit item line some
      ∙ ap (read_reply schema limit item) read
      ∙ ap (λ (c : JCode). refused_reply (unread_line item (refusal c place))) (sym same)
      ∙ ap (λ p. refused_reply (unread_line item (refusal noted p))) (sym there)

  -- the answer to its message is the answer to a line
  pub message_answered : (layout : WireSchema) (room : ℕ) (m : Msg) (old new : Sinks) (r : Result Verdict Status) → layout ≡ schema → room ≡ body_limit limit → tree_of schema line ≡ Ok m →
      DeliversDraft (message_reply layout item m (misfit layout m room)) old new r → DeliversDraft (built_reply schema limit item line) old new r
  message_answered layout room m old new r same at read h =
      subst (λ (x : Reply). DeliversDraft x old new r)
      (ap (λ (s : WireSchema). message_reply s item m (misfit s m room)) same ∙ ap (λ n. message_reply schema item m (misfit schema m n)) at ∙ sym (read_is schema limit item line some ∙ ap (read_reply schema limit item) read)) h

  -- the frame of its body is the answer to a line that was read a short way
  pub printed_answered : (layout : WireSchema) (room : ℕ) (body bytes : List ℕ) (old new : Sinks) (r : Result Verdict Status) → layout ≡ schema → room ≡ body_limit limit → IsBodyOf layout line room body → bytes ≡ body →
      DeliversDraft (frame_reply layout bytes) old new r → DeliversDraft (built_reply schema limit item line) old new r
  printed_answered layout room body bytes old new r same at is here h =
      let m = is.0 in
      let found = is.1 in
      let reply : frame_reply layout bytes ≡ message_reply layout item m (misfit layout m room) = frame_is layout item m (misfit layout m room) body bytes found.fits found.written here in
      message_answered layout room m old new r same at (subst (λ (s : WireSchema). tree_of s line ≡ Ok m) same found.read)
      (subst (λ (x : Reply). DeliversDraft x old new r) reply h)
