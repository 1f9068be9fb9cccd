-- What the code writes is the reply to a frame.
use Rattle.std.proofs.Common.{◌≡◌, ◌≤◌, ℕ, List, length, Option, Some, None, Result, refl, sym, ap, ◌∙◌, subst, arith}
use Rattle.std.specs.Prelude.{slice_get}
use Rattle.sbe_types.specs.declared.message.Block.{Block}
use Rattle.sbe_types.specs.declared.message.Value.{Value}
use Rattle.sbe_types.specs.declared.schema.Level.{Level, out-Level}
use Rattle.sbe_types.specs.declared.schema.WireSchema.{WireSchema}
use Rattle.sbe_base.specs.Objects.{Object}
use Rattle.sbe_base.specs.Writes.{Writes}
use Rattle.sbe_base.specs.declared.status.Status.{Status}
use Rattle.sbe_base.specs.declared.stream.WriteFault.{WriteFault}
use Rattle.sbe_wire.specs.Faults.{Fault, FirstFault}
use Rattle.sbe_wire.specs.Lays.{Lays}
use Rattle.open_framing.specs.Frames.{Item}
use Rattle.body_walk.specs.Refusals.{Misread}
use Rattle.flyweight_view.specs.TypedBlocks.{TypedMessage}
use Rattle.bridge_terms.specs.Blocks.{values_of}
use Rattle.bridge_terms.specs.Places.{Places, Unsent, place_fields, places_of}
use Rattle.bridge_terms.specs.Plans.{Plan, Tree}
use Rattle.schema_rules.specs.PartRules.{most_groups}
use Rattle.schema_facts.specs.CheckedLevels.{groups_deep}
use Rattle.schema_facts.specs.IsChecked.{IsChecked}
use Rattle.schema_facts.proofs.KindDeclared.{all_at}
use Rattle.reference_graph.specs.Expansion.{Structure}
use Rattle.bridge_terms.specs.Parts.{TagLists}
use Rattle.bridge_plan.specs.Covers.{Cover, covered_by, no_message, unmapped, cover_of, plan_of}
use Rattle.bridge_plan.specs.Mappings.{Mapping}
use Rattle.dump_lines.specs.Chosen.{schema_for}
use Rattle.dump_lines.specs.Dumped.{encoding_of}
use Rattle.dump_lines.specs.declared.schemas.Schemas.{Schemas}
use Rattle.dump_lines.specs.Refused.{message_meant, of_fault, of_fault_in}
use Rattle.refused_items.specs.Refused.{of_encoding, refused_line}
use Rattle.command_steps.specs.declared.kept.Kept.{Kept}
use Rattle.command_steps.specs.Replies.{HasParts, Replied}
use Rattle.command_steps.proofs.Told.{refused_parts}
use Rattle.replies.specs.Drafts.{DeliversDraft}
use Rattle.replies.specs.Outside.{Sinks, sinks_of}
use Rattle.replies.specs.Reply.{Reply}
use Rattle.replies.specs.declared.verdict.Verdict.{Verdict}
use Rattle.replies.specs.declared.verdict.Verdict.TheVariants as verdicts
use Rattle.fix_messages.specs.Heads.{Head}
use Rattle.fix_messages.specs.Texts.{message_text, text_refusal}
use Rattle.tofix_replies.specs.Covered.{put_so, AreNear}
use Rattle.tofix_replies.specs.ToFix.{cover_reply, head_after, noted, text_limit, text_reply, Bridge, IsToFixReply, other_encoding, a_fault, a_message}
use Rattle.tofix_replies.specs.Unsent.{of_no_message, of_uncovered}
use Rattle.tofix_replies.proofs.Delivering.{noted_delivered}
use Rattle.tofix_replies.proofs.Near.{near_refusal}
use Rattle.tofix_command.specs.declared.translations.Translation.{Translation}
use Rattle.tofix_command.specs.declared.translations.Translations.{Translations}
use Rattle.tofix_command.specs.Planned.{schemas_of, IsSetUpFor, IsWith}

-- ---- a line of the notes

pub noted_so : (line : List ℕ) (old new output : Object (List ℕ)) (put : Result (Unit {0}) WriteFault) (result : Result Verdict Status) → Writes old new line put
    → result ≡ put_so put verdicts.Refused → DeliversDraft (noted line) (sinks_of output old) (sinks_of output new) result
noted_so line old new output put result w told =
    subst (λ r. DeliversDraft (noted line) (sinks_of output old) (sinks_of output new) r) (sym told) (noted_delivered old new line output put w)

-- ---- a message

module _ (b : Bridge) (kept : Kept) (level : Level) (block : Block) (old new : Sinks) (result : Result Verdict Status) where
  -- by what the mapping says of its template
  abbrev Delivers : Cover → Type 0
  Delivers c = DeliversDraft (cover_reply b kept level block c) old new result

  by_cover : (c : Cover) → cover_of b.mapping level ≡ c → Delivers c → Delivers (cover_of b.mapping level)
  by_cover c is h = subst Delivers (sym is) h

  pub no_message_replied : cover_of b.mapping level ≡ no_message → DeliversDraft (noted (refused_line kept.items of_no_message)) old new result → Delivers (cover_of b.mapping level)
  no_message_replied is h = by_cover no_message is h

  pub uncovered_replied : (path : List (List ℕ)) → cover_of b.mapping level ≡ unmapped path → DeliversDraft (noted (refused_line kept.items (of_uncovered path))) old new result
      → Delivers (cover_of b.mapping level)
  uncovered_replied path is h = by_cover (unmapped path) is h

  module _ (p : Plan) (is : cover_of b.mapping level ≡ covered_by p) where
    -- the reply with a head, a limit, a MsgType, a level and a block
    abbrev pub reply_with : Head → ℕ → List ℕ → Level → Block → Reply
    reply_with head limit kind base its =
        text_reply kept.items base p (message_text b.mapping.lists kind head (place_fields (places_of p (values_of p its)).places))
        (text_refusal b.mapping.lists limit kind head (places_of p (values_of p its)))

    pub covered_replied : (head : Head) (limit : ℕ) (kind : List ℕ) (base : Level) (its : Block) → IsWith b kept head limit → kind ≡ (out-Level level).semantic → base ≡ level → its ≡ block
        → DeliversDraft (reply_with head limit kind base its) old new result → Delivers (cover_of b.mapping level)
    covered_replied head limit kind base its with_these is_kind is_level is_block h =
        let next = head_after kept.translated b.head in
        let most = text_limit b.frame in
        let same : reply_with head limit kind base its ≡ reply_with next most (out-Level level).semantic level block =
        ap (λ x. reply_with x limit kind base its) with_these.head_is ∙ ap (λ x. reply_with next x kind base its) with_these.limit_is ∙ ap (λ x. reply_with next most x base its) is_kind
        ∙ ap (λ x. reply_with next most (out-Level level).semantic x its) is_level ∙ ap (λ x. reply_with next most (out-Level level).semantic level x) is_block in
        by_cover (covered_by p) is (subst (λ (r : Reply). DeliversDraft r old new result) same h)

-- the ways to places that aren't written have few steps
pub near_all : (schema : WireSchema) (i : ℕ) (level : Level) (m : Mapping) (s : Structure) → IsChecked schema → slice_get schema.messages i ≡ Some level
    → (lists : TagLists) (limit : ℕ) (kind : List ℕ) (head : Head) (t : Tree Value (plan_of m s level)) → AreNear (text_refusal lists limit kind head (places_of (plan_of m s level) t))
near_all schema i level m s checked there lists limit kind head t u is =
    near_refusal m s level (all_at (λ (root : Level). groups_deep root ≤ most_groups) schema.messages i level checked.nesting there) lists limit kind head t u is

-- ---- no reply counts parts

translated_parts : (bytes : ℕ) → HasParts bytes verdicts.Translated
translated_parts bytes = record { dropped = omega arith; filled = omega arith }

text_parts : (bytes number : ℕ) (level : Level) (p : Plan) (text : List ℕ) (refusal : Option Unsent) → HasParts bytes (text_reply number level p text refusal).verdict
text_parts bytes number level p text None = translated_parts bytes
text_parts bytes number level p text (Some u) = refused_parts bytes

cover_parts : (bytes : ℕ) (b : Bridge) (kept : Kept) (level : Level) (block : Block) (c : Cover) → HasParts bytes (cover_reply b kept level block c).verdict
cover_parts bytes b kept level block no_message = refused_parts bytes
cover_parts bytes b kept level block (unmapped path) = refused_parts bytes
cover_parts bytes b kept level block (covered_by p) =
    let kind = (out-Level level).semantic in
    let head = head_after kept.translated b.head in
    let all = places_of p (values_of p block) in
    text_parts bytes kept.items level p (message_text b.mapping.lists kind head (place_fields all.places)) (text_refusal b.mapping.lists (text_limit b.frame) kind head all)

-- ---- a frame

module _ (b : Bridge) (kept : Kept) (all : Translations) (encoding : ℕ) (body : List ℕ) (up : IsSetUpFor b all) (old new : Sinks) (result : Result Verdict Status) where
  abbrev item : Item
  item = record { encoding = encoding; body = body }

  abbrev Answers : Type 0
  Answers = Replied (length body) (IsToFixReply b kept item) old new result

  order_is : all.first.layout.order ≡ b.schemas.first.order
  order_is = ap (λ (s : Schemas). s.first.order) (sym up.schemas)

  pub other_replied : (encoding ≡ encoding_of all.first.layout.order → ⊥) → DeliversDraft (noted (refused_line kept.items (of_encoding encoding))) old new result → Answers
  other_replied differs h =
      (noted (refused_line kept.items (of_encoding encoding)), other_encoding (λ same. differs (same ∙ ap encoding_of (sym order_is))) refl, refused_parts (length body), h)

  module _ (t : Translation) (chosen : t.layout ≡ schema_for (schemas_of all) body) (same : encoding ≡ encoding_of all.first.layout.order) where
    its : t.layout ≡ schema_for b.schemas body
    its = chosen ∙ ap (λ (s : Schemas). schema_for s body) (sym up.schemas)

    right : encoding ≡ encoding_of b.schemas.first.order
    right = same ∙ ap encoding_of order_is

    pub message_replied : (seen : TypedMessage) → Lays t.layout seen.message body → slice_get t.layout.messages seen.message.template ≡ Some seen.level
        → DeliversDraft (cover_reply b kept seen.level seen.message.block (cover_of b.mapping seen.level)) old new result → Answers
    message_replied seen lies there h = (
      cover_reply b kept seen.level seen.message.block (cover_of b.mapping seen.level),
      a_message right seen.message (subst (λ (s : WireSchema). Lays s seen.message body) its lies) seen.level
          (subst (λ (s : WireSchema). slice_get s.messages seen.message.template ≡ Some seen.level) its there) refl,
      cover_parts (length body) b kept seen.level seen.message.block (cover_of b.mapping seen.level),
      h,
    )

    pub fault_replied : (r : Misread) → FirstFault t.layout r.fault body → r.template ≡ message_meant t.layout body
        → DeliversDraft (noted (refused_line kept.items (of_fault_in t.layout r.template r.fault))) old new result → Answers
    fault_replied r first meant h =
        let line = ap (λ o. refused_line kept.items (of_fault_in t.layout o r.fault)) meant ∙ ap (λ (s : WireSchema). refused_line kept.items (of_fault s body r.fault)) its in (
          noted (refused_line kept.items (of_fault (schema_for b.schemas body) body r.fault)),
          a_fault right r.fault (subst (λ (s : WireSchema). FirstFault s r.fault body) its first) refl,
          refused_parts (length body),
          subst (λ l. DeliversDraft (noted l) old new result) line h,
        )
