-- The reply to a text whose body was drafted and judged.
use Rattle.std.proofs.Common.{◌≡◌, ◌≤◌, ℕ, List, Some, None, Result, length, refl, sym, ap, ◌∙◌, subst}
use Rattle.sbe_types.specs.declared.message.Msg.{Msg}
use Rattle.sbe_types.specs.declared.schema.Level.{out-Level}
use Rattle.sbe_types.specs.declared.schema.WireSchema.{WireSchema}
use Rattle.open_framing.specs.Frames.{Item}
use Rattle.open_framing.specs.declared.head.TheConstants.{TAG_VALUE}
use Rattle.sbe_wire.specs.Canonical.{canonical}
use Rattle.sbe_wire.specs.Misfit.{misfit}
use Rattle.sbe_base.specs.declared.status.Status.{Status}
use Rattle.schema_facts.specs.IsChecked.{IsChecked}
use Rattle.writing_laws.proofs.MessageMisfit.{fits_none}
use Rattle.writable_schemas.proofs.CheckedSchemas.{schema_writable}
use Rattle.map_types.specs.Trees.{Members, members_of}
use Rattle.tagvalue_codec.specs.declared.data_tags.Pair.{Pair}
use Rattle.tagvalue_codec.specs.Fields.{Field}
use Rattle.tagvalue_codec.specs.Texts.{FixText}
use Rattle.bridge_plan.specs.Mappings.{Mapping}
use Rattle.bridge_plan.specs.Translation.{IsMessageOf}
use Rattle.bridge_mapping.specs.Mapped.{tag_lists_of}
use Rattle.bridge_mapping.proofs.Lawful.{kept_distinct}
use Rattle.message_plans.specs.Plans.{IsOnly}
use Rattle.same_texts.specs.Follow.{IsFramed}
use Rattle.sbe_translation.specs.Translations.{IsMappedTo}
use Rattle.sbe_translation.proofs.Planning.{covers_all}
use Rattle.text_judge.specs.declared.judge.TextJudge.{TextJudge}
use Rattle.text_judge.specs.Judges.{HasBodyOf, IsJudge, IsJudgeFor, TextBody}
use Rattle.text_judge.proofs.Judging.{kind_of_only}
use Rattle.replies.specs.Drafts.{DeliversDraft}
use Rattle.replies.specs.Outside.{Sinks}
use Rattle.replies.specs.declared.verdict.Verdict.{Verdict}
use Rattle.command_steps.specs.Replies.{Replied}
use Rattle.build_command.specs.Build.{body_limit, frame_reply}
use Rattle.build_command.proofs.Answering.{frame_is}
use Rattle.fixcheck_command.specs.FixCheck.{type_of}
use Rattle.tosbe_command.specs.Bodies.{IsTextBody, IsTextWithBody}
use Rattle.tosbe_command.specs.Bridges.{mapping_in, tags_in, BackBridge, IsBackBridge}
use Rattle.tosbe_command.specs.ToSbe.{a_text, IsItemReply, IsTextReply}
use Rattle.tosbe_command.proofs.Told.{message_replied}

-- the tags that frame a text are among those of a mapping's header
pub frames_of : (m : Members) → IsFramed (tag_lists_of m)
frames_of m = record { begin = refl; size = refl; kind = refl; last = refl }

-- ---- the judge

-- the judge of a bridge keeps what the laws of messages ask
pub judge_for : (b : BackBridge) (judge : TextJudge) → IsBackBridge b → IsJudge (mapping_in b) b.schema.messages (tags_in b) judge → IsJudgeFor (mapping_in b) b.schema (tags_in b) judge
judge_for b judge good judged = record {
  own = judged;
  framed = frames_of (members_of b.repository);
  pairs = refl;
  covers = λ i level s there. covers_all b.schema (mapping_in b) i level good.checked good.short (λ k t h. kept_distinct (members_of b.repository) k t good.kept h) there s;
}

-- ---- the body

-- a message, and the only template that has its MsgType
abbrev IsBy : Mapping → WireSchema → List ℕ → List Field → Msg → ℕ → Type 0
IsBy m schema kind fields message i = (to : IsMappedTo m schema.messages kind i) × IsMessageOf m to.structure to.only.level fields message.block

-- bytes and a body that were judged are a text and the body of its message
pub text_with_body : (b : BackBridge) (kind : List ℕ) (i : ℕ) (only : IsOnly kind b.schema.messages i) (of : TextBody) → HasBodyOf (mapping_in b) b.schema i only.level of → of.tags ≡ tags_in b
    → IsTextWithBody b of.text of.body
text_with_body b kind i only of has tagged =
    let m = mapping_in b in
    let message : Msg = has.own.message in
    let fields = has.own.fields in
    let typed : type_of fields ≡ (out-Level only.level).semantic = ap type_of has.own.read.are in
    let same : kind ≡ type_of fields = sym (typed ∙ kind_of_only kind b.schema.messages only.level only.only) in
    let at : IsBy m b.schema kind fields message i =
    (record { only = only; structure = has.structure; mapped = has.mapped; covered = has.covered; cover = has.cover }, has.own.is) in
    let own : IsBy m b.schema (type_of fields) fields message message.template =
    subst (λ k. IsBy m b.schema k fields message message.template) same (subst (IsBy m b.schema kind fields message) (sym has.own.template_is) at) in
    record {
      fields = fields;
      read = subst (λ tags. FixText tags fields of.text) tagged has.own.read.read;
      own = record {
        message = message;
        is = record { template = own.0; version = has.own.version; block = own.1 };
        fits = has.own.fits;
        written = has.own.written;
      };
    }

-- ---- the reply

-- the frame of the body is the reply to the text
pub body_replied : (b : BackBridge) (number bytes limit : ℕ) (fields : List Field) (layout : WireSchema) (body shown : List ℕ) (old new : Sinks) (result : Result Verdict Status) → layout ≡ b.schema
    → limit ≡ body_limit b.frame → IsChecked b.schema → IsTextBody b fields body → shown ≡ body → length body ≤ limit → DeliversDraft (frame_reply layout shown) old new result
    → Replied bytes (IsTextReply b number fields) old new result
body_replied b number bytes limit fields layout body shown old new result laid_out size checked is same within delivered =
    let m : Msg = is.message in
    let none : misfit layout m limit ≡ None =
    ap (λ (s : WireSchema). misfit s m limit) laid_out
    ∙ fits_none b.schema m limit checked.placed (schema_writable b.schema checked) is.fits (body, is.written, within) in
    let written : canonical layout m ≡ Some body = ap (λ (s : WireSchema). canonical s m) laid_out ∙ is.written in
    message_replied b number bytes limit fields m layout old new result laid_out size is.is
    (subst (λ r. DeliversDraft r old new result) (frame_is layout number m (misfit layout m limit) body shown none written same) delivered)

-- the same for an item with the text
pub text_replied : (b : BackBridge) (number limit : ℕ) (item : Item) (layout : WireSchema) (body shown : List ℕ) (old new : Sinks) (result : Result Verdict Status) → layout ≡ b.schema
    → limit ≡ body_limit b.frame → IsChecked b.schema → item.encoding ≡ TAG_VALUE → IsTextWithBody b item.body body → shown ≡ body → length body ≤ limit
    → DeliversDraft (frame_reply layout shown) old new result → Replied (length item.body) (IsItemReply b number item) old new result
text_replied b number limit item layout body shown old new result laid_out size checked encoded is same within delivered =
    let own = body_replied b number (length item.body) limit is.fields layout body shown old new result laid_out size checked is.own same within delivered in
    (own.0, a_text encoded is.fields is.read own.1, own.2, own.3)
