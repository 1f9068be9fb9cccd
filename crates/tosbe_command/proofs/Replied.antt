-- `tosbe` has one reply to each frame.
use Rattle.std.proofs.Common.{◌≡◌, inl, inr, ℕ, false, List, [], ◌∷◌, slice_get, Option, Some, None, Result, Ok, Err, refl, sym, ap, ◌∙◌, subst}
use Rattle.sbe_base.specs.declared.status.Limits.{Limits}
use Rattle.sbe_base.specs.declared.status.Status.{Status}
use Rattle.sbe_types.specs.declared.message.Block.{Block}
use Rattle.sbe_types.specs.declared.message.Msg.{Msg}
use Rattle.sbe_types.specs.declared.schema.Level.{Level, out-Level}
use Rattle.sbe_types.specs.declared.schema.WireSchema.{WireSchema}
use Rattle.sbe_wire.specs.Misfit.{Misfit, misfit}
use Rattle.open_framing.specs.Frames.{Item}
use Rattle.open_framing.specs.declared.head.TheConstants.{TAG_VALUE}
use Rattle.tagvalue_codec.specs.declared.read.FixFault.{FixFault}
use Rattle.tagvalue_codec.specs.Fields.{Field}
use Rattle.tagvalue_codec.proofs.Whole.{one_text, one_fault, not_both, text_or_fault}
use Rattle.map_types.specs.Trees.{members_of}
use Rattle.reference_graph.specs.Expansion.{Structure}
use Rattle.bridge_rules.specs.Sound.{IsSound}
use Rattle.bridge_terms.specs.Blocks.{IsPlanOf}
use Rattle.bridge_terms.specs.PlanFacts.{EachRule, IsPlaced}
use Rattle.bridge_terms.specs.Plans.{Plan}
use Rattle.bridge_terms.specs.WayBack.{Refusal, back_refused}
use Rattle.bridge_terms.proofs.Whole.{one_back_block, some_block}
use Rattle.bridge_plan.specs.CheckedLevels.{IsCovered}
use Rattle.bridge_plan.specs.Covers.{Cover, cover_by, cover_in, cover_of, covered_by, no_message, plan_of, templates_of, uncovered, unmapped}
use Rattle.bridge_plan.specs.Mappings.{Mapping, structure_for}
use Rattle.bridge_plan.proofs.Translating.{covered_plan, covered_placed, covered_sound}
use Rattle.bridge_mapping.proofs.Lawful.{kept_distinct}
use Rattle.refused_items.specs.Refused.{Refused as RefusedItem, of_encoding}
use Rattle.schema_files.proofs.Deciding.{numbers}
use Rattle.replies.specs.Reply.{Reply}
use Rattle.replies.specs.declared.verdict.Verdict.{Verdict}
use Rattle.command_steps.specs.Replies.{HasParts, Wants, by_frames, no_line}
use Rattle.command_steps.proofs.Folding.{AnswersOnce, frames_once}
use Rattle.command_steps.proofs.Told.{answered_parts, refused_parts}
use Rattle.build_command.specs.Build.{body_limit, message_reply}
use Rattle.fixcheck_command.specs.FixCheck.{of_fault, type_of}
use Rattle.tofix_replies.specs.Unsent.{of_no_message, of_uncovered}
use Rattle.sbe_translation.specs.Plans.{CoversAll}
use Rattle.sbe_translation.proofs.Planning.{covers_all}
use Rattle.tosbe_command.specs.Bridges.{mapping_in, tags_in, BackBridge, IsBackBridge}
use Rattle.tosbe_command.specs.ToSbe.{own_fields, refused_so, RepliesByRefusal, RepliesByCover, RepliesByTemplates, IsItemReply, IsTextReply, IsToSbeReply, other_encoding, a_fault, a_text}
use Rattle.tosbe_command.specs.Unsent.{of_refusal, of_several}
use Rattle.tosbe_command.proofs.Places.{has_it, one_place, place_of_first}

-- ---- a covered template

-- the plan of a covered template, with what the laws ask of it
pub record IsPlanned (level : Level) (p : Plan) : Type 0 where
  pub whole : IsPlanOf level p
  pub placed : IsPlaced p
  pub sound : EachRule IsSound p

planned_by : (m : Mapping) (s : Structure) (level : Level) → IsCovered m s level → IsPlanned level (plan_of m s level)
planned_by m s level covered = record { whole = covered_plan m s level covered; placed = covered_placed m s level covered; sound = covered_sound m s level covered }

plan_is : {p q : Plan} → covered_by p ≡ covered_by q → p ≡ q
plan_is h = cc

path_plan : {Z : Type 0} {path : List (List ℕ)} {p : Plan} → unmapped path ≡ covered_by p → Z
path_plan h = cc

none_plan : {Z : Type 0} {p : Plan} → no_message ≡ covered_by p → Z
none_plan h = cc

planned_path : (m : Mapping) (level : Level) (s : Structure) (p : Plan) → CoversAll m level → structure_for m (out-Level level).semantic ≡ Some s
    → (path : Option (List (List ℕ))) → uncovered m s level ≡ path → cover_by m s level path ≡ covered_by p → IsPlanned level p
planned_path m level s p all mapped None none h = subst (IsPlanned level) (plan_is h) (planned_by m s level (all s mapped none))
planned_path m level s p all mapped (Some path) some h = path_plan h

planned_in : (m : Mapping) (level : Level) (p : Plan) → CoversAll m level → (o : Option Structure) → structure_for m (out-Level level).semantic ≡ o → cover_in m level o ≡ covered_by p
    → IsPlanned level p
planned_in m level p all None e h = none_plan h
planned_in m level p all (Some s) e h = planned_path m level s p all e (uncovered m s level) refl h

pub covered_is_planned : (m : Mapping) (level : Level) (p : Plan) → CoversAll m level → cover_of m level ≡ covered_by p → IsPlanned level p
covered_is_planned m level p all h = planned_in m level p all (structure_for m (out-Level level).semantic) refl h

-- ---- messages

msg_is : (m n : Msg) → m.template ≡ n.template → m.version ≡ n.version → m.block ≡ n.block → m ≡ n
msg_is m n a b c =
    ap (λ t. as_msg t m.version m.block) a ∙ ap (λ v. as_msg n.template v m.block) b ∙ ap (λ (k : Block). as_msg n.template n.version k) c
  where
    as_msg : ℕ → ℕ → Block → Msg
    as_msg template version block = record { template = template; version = version; block = block }

module _ (b : BackBridge) (number : ℕ) (fields : List Field) where
  abbrev kind : List ℕ
  kind = type_of fields

  -- ---- there is one reply

  some_by_refusal : (level : Level) (p : Plan) (i : ℕ) → IsPlanned level p → slice_get b.schema.messages i ≡ Some level → (o : Option Refusal) → back_refused p (own_fields b fields) ≡ o
      → (reply : Reply) × RepliesByRefusal b number level p fields o reply
  some_by_refusal level p i planned at (Some refusal) e = (refused_so number (of_refusal refusal), refl)
  some_by_refusal level p i planned at None e =
      let block = some_block level p planned.whole planned.placed planned.sound (own_fields b fields) e in
      let m : Msg = record { template = i; version = b.schema.version; block = block.0 } in
      (message_reply b.schema number m (misfit b.schema m (body_limit b.frame)), (m, record { there = at; version = refl; block = block.1 }, refl))

  some_by_cover : (level : Level) (i : ℕ) → CoversAll (mapping_in b) level → slice_get b.schema.messages i ≡ Some level → (cover : Cover) → cover_of (mapping_in b) level ≡ cover
      → (reply : Reply) × RepliesByCover b number level fields cover reply
  some_by_cover level i all at (covered_by p) e =
      some_by_refusal level p i (covered_is_planned (mapping_in b) level p all e) at (back_refused p (own_fields b fields)) refl
  some_by_cover level i all at no_message e = (refused_so number of_no_message, refl)
  some_by_cover level i all at (unmapped path) e = (refused_so number (of_uncovered path), refl)

  -- ---- there is no other

  once_by_refusal : (level : Level) (p : Plan) → templates_of kind b.schema.messages ≡ level ∷ [] → IsPlanned level p → (o : Option Refusal) (x y : Reply)
      → RepliesByRefusal b number level p fields o x → RepliesByRefusal b number level p fields o y → x ≡ y
  once_by_refusal level p only planned (Some refusal) x y h k = h ∙ sym k
  once_by_refusal level p only planned None x y h k =
      let its = has_it kind b.schema.messages level [] only in
      let template = one_place kind b.schema.messages h.0.template k.0.template level only its h.1.there k.1.there in
      let block = one_back_block level p planned.whole planned.sound (own_fields b fields) h.0.block k.0.block h.1.block k.1.block in
      let same = msg_is h.0 k.0 template (h.1.version ∙ sym k.1.version) block in
      h.2 ∙ ap (λ (m : Msg). message_reply b.schema number m (misfit b.schema m (body_limit b.frame))) same ∙ sym k.2

  once_by_cover : (level : Level) → templates_of kind b.schema.messages ≡ level ∷ [] → CoversAll (mapping_in b) level → (cover : Cover) → cover_of (mapping_in b) level ≡ cover
      → (x y : Reply) → RepliesByCover b number level fields cover x → RepliesByCover b number level fields cover y → x ≡ y
  once_by_cover level only all (covered_by p) e x y h k =
      once_by_refusal level p only (covered_is_planned (mapping_in b) level p all e) (back_refused p (own_fields b fields)) x y h k
  once_by_cover level only all no_message e x y h k = h ∙ sym k
  once_by_cover level only all (unmapped path) e x y h k = h ∙ sym k

  module _ (good : IsBackBridge b) where
    covers : (i : ℕ) (level : Level) → slice_get b.schema.messages i ≡ Some level → CoversAll (mapping_in b) level
    covers i level at =
        covers_all b.schema (mapping_in b) i level good.checked good.short (λ kind s h. kept_distinct (members_of b.repository) kind s good.kept h) at

    some_by_templates : (levels : List Level) → templates_of kind b.schema.messages ≡ levels → (reply : Reply) × RepliesByTemplates b number fields levels reply
    some_by_templates [] e = (refused_so number of_no_message, refl)
    some_by_templates (level ∷ []) e =
        let place = place_of_first kind b.schema.messages level [] e in
        some_by_cover level place.0 (covers place.0 level place.1) place.1 (cover_of (mapping_in b) level) refl
    some_by_templates (level ∷ other ∷ more) e = (refused_so number of_several, refl)

    pub some_text_reply : (reply : Reply) × IsTextReply b number fields reply
    some_text_reply = some_by_templates (templates_of kind b.schema.messages) refl

    once_by_templates : (levels : List Level) → templates_of kind b.schema.messages ≡ levels → (x y : Reply)
        → RepliesByTemplates b number fields levels x → RepliesByTemplates b number fields levels y → x ≡ y
    once_by_templates [] e x y h k = h ∙ sym k
    once_by_templates (level ∷ []) e x y h k =
        let place = place_of_first kind b.schema.messages level [] e in
        once_by_cover level e (covers place.0 level place.1) (cover_of (mapping_in b) level) refl x y h k
    once_by_templates (level ∷ other ∷ more) e x y h k = h ∙ sym k

    pub one_text_reply : (x y : Reply) → IsTextReply b number fields x → IsTextReply b number fields y → x ≡ y
    one_text_reply x y h k = once_by_templates (templates_of kind b.schema.messages) refl x y h k

-- ---- each frame

module _ (b : BackBridge) (number : ℕ) (item : Item) (good : IsBackBridge b) where
  pub some_item_reply : (reply : Reply) × IsItemReply b number item reply
  some_item_reply = elim (numbers item.encoding TAG_VALUE) [
    | inl same ↦ elim (text_or_fault (tags_in b) item.body) [
      | inl text ↦
          let own = some_text_reply b number text.0 good in
          (own.0, a_text same text.0 text.1 own.1)
      | inr fault ↦ (refused_so number (of_fault fault.0), a_fault same fault.0 fault.1 refl)
    ]
    | inr differs ↦ (refused_so number (of_encoding item.encoding), other_encoding differs refl)
  ]

  pub one_item_reply : (x y : Reply) → IsItemReply b number item x → IsItemReply b number item y → x ≡ y
  one_item_reply x y h k = elim h [
    | other_encoding n e ↦ elim k [ other_encoding m f ↦ e ∙ sym f | a_fault j g u f ↦ absurd (n j) | a_text j gs u f ↦ absurd (n j) ]
    | a_fault i fault t e ↦ elim k [
      | other_encoding m f ↦ absurd (m i)
      | a_fault j g u f ↦ e ∙ ap (λ (found : FixFault). refused_so number (of_fault found)) (one_fault (tags_in b) item.body fault g t u) ∙ sym f
      | a_text j gs u f ↦ absurd (not_both (tags_in b) item.body gs fault u t)
    ]
    | a_text i fields t e ↦ elim k [
      | other_encoding m f ↦ absurd (m i)
      | a_fault j g u f ↦ absurd (not_both (tags_in b) item.body fields g t u)
      | a_text j gs u f ↦
          one_text_reply b number fields good x y e (subst (λ fs. IsTextReply b number fs y) (sym (one_text (tags_in b) item.body fields gs t u)) f)
    ]
  ]

pub tosbe_answers : (b : BackBridge) (limits : Limits) → IsBackBridge b → AnswersOnce (by_frames limits false no_line (IsToSbeReply b))
tosbe_answers b limits good = frames_once limits false no_line (IsToSbeReply b)
    (λ kept item. some_item_reply b kept.items item good)
    (λ kept item x y h k. one_item_reply b kept.items item good x y h k)

-- ---- what it counts

pub message_parts : (bytes : ℕ) (schema : WireSchema) (number : ℕ) (m : Msg) (found : Option Misfit) → HasParts bytes (message_reply schema number m found).verdict
message_parts bytes schema number m None = answered_parts bytes
message_parts bytes schema number m (Some why) = refused_parts bytes

-- it may run out of memory
pub may_want : (r : Result Verdict Status) → Wants false r
may_want (Ok verdict) = tt
may_want (Err code) = λ h. refl

-- no reply to a text counts parts
module _ (b : BackBridge) (number bytes : ℕ) (fields : List Field) (reply : Reply) where
  same_parts : (line : Reply) → reply ≡ line → HasParts bytes line.verdict → HasParts bytes reply.verdict
  same_parts line is parts = subst (λ (r : Reply). HasParts bytes r.verdict) (sym is) parts

  noted_parts : (why : RefusedItem) → reply ≡ refused_so number why → HasParts bytes reply.verdict
  noted_parts why is = same_parts (refused_so number why) is (refused_parts bytes)

  parts_by_refusal : (level : Level) (p : Plan) (o : Option Refusal) → RepliesByRefusal b number level p fields o reply → HasParts bytes reply.verdict
  parts_by_refusal level p (Some refusal) h = noted_parts (of_refusal refusal) h
  parts_by_refusal level p None h =
      let found = misfit b.schema h.0 (body_limit b.frame) in
      same_parts (message_reply b.schema number h.0 found) h.2 (message_parts bytes b.schema number h.0 found)

  parts_by_cover : (level : Level) (cover : Cover) → RepliesByCover b number level fields cover reply → HasParts bytes reply.verdict
  parts_by_cover level (covered_by p) h = parts_by_refusal level p (back_refused p (own_fields b fields)) h
  parts_by_cover level no_message h = noted_parts of_no_message h
  parts_by_cover level (unmapped path) h = noted_parts (of_uncovered path) h

  parts_by_templates : (levels : List Level) → RepliesByTemplates b number fields levels reply → HasParts bytes reply.verdict
  parts_by_templates [] h = noted_parts of_no_message h
  parts_by_templates (level ∷ []) h = parts_by_cover level (cover_of (mapping_in b) level) h
  parts_by_templates (level ∷ other ∷ more) h = noted_parts of_several h

  pub text_parts : IsTextReply b number fields reply → HasParts bytes reply.verdict
  text_parts h = parts_by_templates (templates_of (type_of fields) b.schema.messages) h
