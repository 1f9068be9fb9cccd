-- What `tosbe` replies to a text that `tofix` wrote.
use Rattle.std.proofs.Common.{◌≡◌, ◌≤◌, ◌<◌, ◌+◌, ◌-◌, ℕ, List, [], ◌∷◌, length, true, Option, Some, None, Ok, refl, sym, ap, ◌∙◌, subst, arith}
use Rattle.std.specs.Prelude.{slice_get}
use Rattle.byte_digits.specs.Digits.{IsBytes}
use Rattle.sbe_types.specs.declared.kind.Order.{Order}
use Rattle.sbe_types.specs.declared.message.Block.{Block}
use Rattle.sbe_types.specs.declared.message.Msg.{Msg}
use Rattle.sbe_types.specs.declared.message.Value.{Value}
use Rattle.sbe_types.specs.declared.schema.Level.{Level, out-Level}
use Rattle.sbe_wire.specs.Fits.{BlockFits, Fits}
use Rattle.writing_laws.proofs.MessageBack.{lies_fits}
use Rattle.writable_schemas.proofs.CheckedSchemas.{schema_writable}
use Rattle.open_framing.specs.Frames.{Item}
use Rattle.open_framing.specs.declared.head.TheConstants.{HEAD_BYTES}
use Rattle.map_types.specs.Trees.{members_of}
use Rattle.tagvalue_codec.specs.Drafts.{typed}
use Rattle.tagvalue_codec.specs.Fields.{Field, bytes_of}
use Rattle.tagvalue_codec.specs.Texts.{Body, FixText, Free, fields_over}
use Rattle.tagvalue_codec.proofs.Whole.{not_both, one_text}
use Rattle.reference_graph.specs.Expansion.{Structure}
use Rattle.bridge_rules.proofs.OptionLemmas.{some_is}
use Rattle.bridge_terms.specs.Blocks.{IsBackBlock, values_of}
use Rattle.bridge_terms.specs.Gathering.{message_application_items}
use Rattle.bridge_terms.specs.MessageFields.{fields_of}
use Rattle.bridge_terms.specs.Parts.{application_fields}
use Rattle.bridge_terms.specs.Places.{places_of}
use Rattle.bridge_terms.specs.Plans.{Each, Plan, Tree, is_in}
use Rattle.bridge_terms.specs.WayBack.{Refusal, back_refused}
use Rattle.bridge_terms.proofs.Telling.{told_fields}
use Rattle.bridge_plan.specs.CheckedLevels.{HasShortCodes, IsCovered}
use Rattle.bridge_plan.specs.Covers.{Cover, cover_of, plan_of, templates_of, uncovered}
use Rattle.bridge_plan.specs.Mappings.{Mapping, structure_for}
use Rattle.bridge_plan.specs.Translation.{ComesBack as MessageComesBack, Draft, IsMessageOf, whole_text}
use Rattle.bridge_plan.proofs.BackFits.{KindsAreWritable, back_fits}
use Rattle.bridge_plan.proofs.FittingMessages.{fits_come_back}
use Rattle.bridge_plan.proofs.SchemaGives.{checked_kinds}
use Rattle.bridge_plan.proofs.Translating.{back_application, message_unrefused, one_message}
use Rattle.bridge_mapping.proofs.Lawful.{kept_distinct}
use Rattle.fix_messages.specs.Heads.{Head, IsHeadReady, given_fields}
use Rattle.fix_messages.specs.Texts.{message_text}
use Rattle.fix_messages.proofs.Limits.{text_within}
use Rattle.fix_messages.proofs.Texts.{none_refused}
use Rattle.fix_translation.specs.Translations.{HasKinds}
use Rattle.command_steps.specs.declared.kept.Kept.{Kept}
use Rattle.dump_lines.specs.declared.schemas.Schemas.{Schemas}
use Rattle.replies.specs.Reply.{Reply}
use Rattle.replies.specs.declared.verdict.Verdict.TheVariants.{Translated}
use Rattle.sbe_translation.proofs.Planning.{covered_as, covers_all}
use Rattle.tofix_replies.specs.ToFix.{Bridge, IsToFixReply, head_after, text_limit}
use Rattle.tosbe_command.specs.Bridges.{BackBridge, IsBackBridge, mapping_in, tags_in}
use Rattle.tosbe_command.specs.ToSbe.{IsItemReply, IsTextMessage, IsTextReply, RepliesByCover, RepliesByRefusal, RepliesByTemplates, a_fault, a_text, other_encoding, own_fields}
use Rattle.tosbe_command.proofs.TextBodies.{frames_of}
use Rattle.same_texts.specs.Follow.{IsFramed}
use Rattle.same_texts.specs.Same.{ArePairsOf}
use Rattle.back_texts.proofs.Following.{given_follow}
use Rattle.back_texts.proofs.Passing.{front_fields, front_headed, text_fields}
use Rattle.back_texts.proofs.Texts.{body_bytes, fields_short, sent_text}
use Rattle.round_trip.specs.Returns.{fields_between, fields_by, items_by, plan_by, text_item, values_by, AreOfOne, CanReturn, IsReturned, IsOfMessage, IsReplyWith, MayFollow}
use Rattle.round_trip.proofs.Following.{given_headed, head_alone}
use Rattle.round_trip.proofs.Sending.{IsSent, frame_sent}

-- ---- a text of a covered template

module _ (writable : KindsAreWritable) (back : BackBridge) (good : IsBackBridge back) (s : Structure) (level : Level) (i : ℕ) (there : slice_get back.schema.messages i ≡ Some level)
    (mapped : structure_for (mapping_in back) (out-Level level).semantic ≡ Some s) (none : uncovered (mapping_in back) s level ≡ None) where
  abbrev m : Mapping
  m = mapping_in back

  abbrev p : Plan
  p = plan_of m s level

  abbrev kind : List ℕ
  kind = (out-Level level).semantic

  pub covered : IsCovered m s level
  covered = covers_all back.schema m i level good.checked good.short (λ k t h. kept_distinct (members_of back.repository) k t good.kept h) there s mapped none

  frames : IsFramed m.lists
  frames = frames_of (members_of back.repository)

  module _ (head : Head) (fields : List Field) (values : Tree Value p) (only : templates_of kind back.schema.messages ≡ level ∷ [])
      (headed : Each (λ f. is_in f.tag m.lists.header ≡ true) (given_fields head)) (written : fields_of p values ≡ Ok fields) (can : CanReturn p values) where
    abbrev body : List ℕ
    body = body_bytes m.lists kind head fields

    -- the fields of the text, and the same as a draft
    abbrev all : List Field
    all = fields_over head.begin (typed kind) (fields_between m.lists head fields) body

    abbrev draft : Draft
    draft = record { head = front_fields m.lists frames kind head fields body; fields = fields }

    comes : MessageComesBack m s level values draft
    comes = record {
      there = record { covered = covered; headed = front_headed m.lists frames kind head fields body headed; written = written; shown = can.shown; counted = can.counted };
      readable = can.readable;
    }

    own_is : own_fields back all ≡ application_fields m.lists (whole_text m draft)
    own_is = text_fields m.lists frames kind head fields body

    abbrev its : (b : Block) × IsMessageOf m s level (whole_text m draft) b × (message_application_items p (values_of p b) ≡ message_application_items p values)
    its = back_application m s level values draft comes

    unrefused : back_refused p (own_fields back all) ≡ None
    unrefused = ap (back_refused p) own_is ∙ message_unrefused m s level (whole_text m draft) its.0 covered its.1

    message_fits : (n : Msg) → IsTextMessage back level p all n → IsMessageOf m s level (whole_text m draft) n.block → Fits back.schema n
    message_fits n is of =
        let kinds = checked_kinds back.schema s n.template level good.checked is.there in
        (level, is.there, is.version, back_fits writable back.schema.order m s level (whole_text m draft) n.block kinds.0 kinds.1 covered of)

    by_message : (number : ℕ) (reply : Reply) → RepliesByRefusal back number level p all None reply → IsReplyWith back number p (message_application_items p values) reply
    by_message number reply h =
        let n : Msg = h.0 in
        let of : IsMessageOf m s level (whole_text m draft) n.block = subst (λ fs. IsBackBlock level p fs n.block) own_is h.1.block in
        let same : n.block ≡ its.0 = one_message m s level (whole_text m draft) n.block its.0 covered of its.1 in
        record {
          message = n;
          fits = message_fits n h.1 of;
          items_are = ap (λ (b : Block). message_application_items p (values_of p b)) same ∙ its.2;
          is = h.2;
        }

    with_items : (number : ℕ) (reply : Reply) → IsTextReply back number all reply → IsReplyWith back number p (message_application_items p values) reply
    with_items number reply h =
        let by_cover : RepliesByCover back number level all (cover_of m level) reply = subst (λ ts. RepliesByTemplates back number all ts reply) only h in
        let by_plan : RepliesByRefusal back number level p all (back_refused p (own_fields back all)) reply =
        subst (λ (c : Cover). RepliesByCover back number level all c reply) (covered_as m level s mapped none) by_cover in
        by_message number reply (subst (λ (o : Option Refusal). RepliesByRefusal back number level p all o reply) unrefused by_plan)

    -- the reply to a frame with a text of these fields
    pub text_replied : (text : List ℕ) → FixText (tags_in back) all text → (number : ℕ) (reply : Reply) → IsItemReply back number (text_item text) reply
        → IsReplyWith back number p (message_application_items p values) reply
    text_replied text is number reply h = elim h [
      | other_encoding n e ↦ absurd (n refl)
      | a_fault j fault u e ↦ absurd (not_both (tags_in back) text all fault is u)
      | a_text j others u e ↦ with_items number reply (subst (λ fs. IsTextReply back number fs reply) (one_text (tags_in back) text others all u is) e)
    ]

-- ---- a message that is sent

room_left : (n limit frame : ℕ) → limit ≡ frame - HEAD_BYTES → n ≤ limit → HEAD_BYTES ≤ frame → n + HEAD_BYTES ≤ frame
room_left n limit frame is within low = omega arith

below : (n limit : ℕ) → limit < 1000000000 → n ≤ limit → n < 1000000000
below n limit small within = omega arith

-- what the law says of a bridge
module _ (back : BackBridge) (kept : Kept) (item : Item) (s : Structure) (level : Level) (m : Msg) (reply : Reply) where
  abbrev Returns : Bridge → Type 0
  Returns on = IsBackBridge back → HasKinds (mapping_in back) → IsHeadReady on.head → HEAD_BYTES ≤ on.frame → on.frame ≤ 16_777_216 → IsOfMessage on back item s level m
      → CanReturn (plan_by on s level) (values_by on s level m) → MayFollow on back (plan_by on s level) (head_after kept.translated on.head) (fields_by on s level m)
      → IsToFixReply on kept item reply → reply.verdict ≡ Translated → IsReturned on back (plan_by on s level) (items_by on s level m) reply

-- the same mapping in both
module _ (writable : KindsAreWritable) (schemas : Schemas) (first : Head) (frame : ℕ) (back : BackBridge) (kept : Kept) (item : Item) (s : Structure) (level : Level) (m : Msg) (reply : Reply) where
  abbrev with_mapping : Mapping → Bridge
  with_mapping mapping = record { schemas = schemas; mapping = mapping; head = first; frame = frame }

  abbrev on : Bridge
  on = with_mapping (mapping_in back)

  of_one : Returns back kept item s level m reply on
  of_one good kinds ready low high is can follow h told =
      let p = plan_by on s level in
      let values = values_by on s level m in
      let kind = (out-Level level).semantic in
      let head : Head = head_after kept.translated first in
      let fields = fields_by on s level m in
      let lists = (mapping_in back).lists in
      let limit = text_limit frame in
      let text = message_text lists kind head fields in
      let sends : IsSent on kept s level m.block reply = frame_sent on kept item s level m back.schema reply is.chosen good.checked.placed is.lies is.there is.mapped h told in
      let within : length text ≤ limit = text_within lists limit kind head (places_of p values) sends.unrefused in
      let written : fields_of p values ≡ Ok fields = told_fields p values (none_refused lists limit kind head (places_of p values) sends.unrefused) in
      let few : limit < 1000000000 = omega (arith, high) in
      let small : length text < 1000000000 = below (length text) limit few within in
      let tags = tags_in back in
      let pairs : ArePairsOf tags lists = refl in
      let its : IsCovered (mapping_in back) s level = covered writable back good s level m.template is.there is.mapped sends.covered in
      let body : Body tags Free (fields_between lists head fields) (bytes_of (fields_between lists head fields)) =
      given_follow (mapping_in back) s level values fields tags (given_fields head) pairs follow.tags (frames_of (members_of back.repository))
      (head_alone tags lists kept.translated first ready follow.given) its follow.clear can.shown can.counted written (fields_short lists kind head fields 1000000000 small) in
      let own : FixText tags (fields_over head.begin (typed kind) (fields_between lists head fields) (body_bytes lists kind head fields)) text =
      sent_text lists kind head fields tags ready.begin (kinds kind s is.mapped) small body follow.few in
      record {
        text = text;
        is = sends.is;
        short = room_left (length text) limit frame refl within low;
        replied = text_replied writable back good s level m.template is.there is.mapped sends.covered head fields values is.only (given_headed tags lists (given_fields head) follow.given) written can text own;
      }

  pub of_same : (mapping : Mapping) → mapping ≡ mapping_in back → Returns back kept item s level m reply (with_mapping mapping)
  of_same mapping same = subst (λ (x : Mapping). Returns back kept item s level m reply (with_mapping x)) (sym same) of_one

-- ---- the laws

module _ (writable : KindsAreWritable) (on : Bridge) (back : BackBridge) (kept : Kept) (item : Item) (s : Structure) (level : Level) (m : Msg) (reply : Reply) where
  pub comes_back : AreOfOne on back → IsOfMessage on back item s level m → CanReturn (plan_by on s level) (values_by on s level m)
      → MayFollow on back (plan_by on s level) (head_after kept.translated on.head) (fields_by on s level m) → IsToFixReply on kept item reply → reply.verdict ≡ Translated
      → IsReturned on back (plan_by on s level) (items_by on s level m) reply
  comes_back one is can follow h told =
      of_same writable on.schemas on.head on.frame back kept item s level m reply on.mapping one.mapping one.good one.kinds one.ready one.low one.high is can follow h told

  own_can : (order : Order) (fields : List Field) → IsCovered on.mapping s level → BlockFits order level m.block → fields_of (plan_by on s level) (values_by on s level m) ≡ Ok fields
      → CanReturn (plan_by on s level) (values_by on s level m)
  own_can order fields covered fits written =
      let is = fits_come_back order on.mapping s level m.block (record { head = []; fields = fields }) covered tt fits written in
      record { shown = is.there.shown; readable = is.readable; counted = is.there.counted }

  -- a message of the schema's own version fits its template
  own_fits : AreOfOne on back → IsOfMessage on back item s level m → IsBytes item.body → m.version ≡ back.schema.version → BlockFits back.schema.order level m.block
  own_fits one is bytes own =
      let fits : Fits back.schema m = lies_fits back.schema one.good.checked.placed (schema_writable back.schema one.good.checked) m item.body bytes own is.lies in
      subst (λ (l : Level). BlockFits back.schema.order l m.block) (some_is (sym fits.1 ∙ is.there)) fits.3

  pub own_comes_back : AreOfOne on back → IsOfMessage on back item s level m → IsBytes item.body → m.version ≡ back.schema.version
      → MayFollow on back (plan_by on s level) (head_after kept.translated on.head) (fields_by on s level m) → IsToFixReply on kept item reply → reply.verdict ≡ Translated
      → IsReturned on back (plan_by on s level) (items_by on s level m) reply
  own_comes_back one is bytes own follow h told =
      let head = head_after kept.translated on.head in
      let all = places_of (plan_by on s level) (values_by on s level m) in
      let sends : IsSent on kept s level m.block reply = frame_sent on kept item s level m back.schema reply is.chosen one.good.checked.placed is.lies is.there is.mapped h told in
      let written : fields_of (plan_by on s level) (values_by on s level m) ≡ Ok (fields_by on s level m) =
      told_fields (plan_by on s level) (values_by on s level m) (none_refused on.mapping.lists (text_limit on.frame) (out-Level level).semantic head all sends.unrefused) in
      let short : HasShortCodes on.mapping = subst HasShortCodes (sym one.mapping) one.good.short in
      let covered : IsCovered on.mapping s level =
      covers_all back.schema on.mapping m.template level one.good.checked short
      (λ k t here. kept_distinct (members_of back.repository) k t one.good.kept (ap (λ (x : Mapping). structure_for x k) (sym one.mapping) ∙ here)) is.there s is.mapped sends.covered in
      comes_back one is (own_can back.schema.order (fields_by on s level m) covered (own_fits one is bytes own) written) follow h told
