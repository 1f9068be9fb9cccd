-- What `tofix` replies where it translates a message.
use Rattle.std.proofs.Common.{◌≡◌, ℕ, List, Option, Some, None, refl, sym, ap, ◌∙◌, subst}
use Rattle.std.specs.Prelude.{slice_get}
use Rattle.sbe_types.specs.declared.message.Block.{Block}
use Rattle.sbe_types.specs.declared.message.Msg.{Msg}
use Rattle.sbe_types.specs.declared.schema.Level.{Level, out-Level}
use Rattle.sbe_types.specs.declared.schema.WireSchema.{WireSchema}
use Rattle.sbe_wire.specs.Lays.{Lays}
use Rattle.sbe_wire.specs.Placed.{IsPlaced}
use Rattle.sbe_wire.proofs.Messages.{one_message}
use Rattle.open_framing.specs.Frames.{Item}
use Rattle.reference_graph.specs.Expansion.{Structure}
use Rattle.bridge_terms.specs.Blocks.{values_of}
use Rattle.bridge_terms.specs.Places.{Places, Unsent, place_fields, places_of}
use Rattle.bridge_terms.specs.Plans.{Plan}
use Rattle.bridge_plan.specs.Covers.{cover_by, cover_in, cover_of, plan_of, uncovered}
use Rattle.bridge_plan.specs.Mappings.{structure_for}
use Rattle.fix_messages.specs.Heads.{Head}
use Rattle.fix_messages.specs.Texts.{message_text, text_refusal}
use Rattle.dump_lines.specs.Chosen.{schema_for}
use Rattle.command_steps.specs.declared.kept.Kept.{Kept}
use Rattle.replies.specs.Reply.{Reply}
use Rattle.replies.specs.declared.verdict.Verdict.{Verdict}
use Rattle.replies.specs.declared.verdict.Verdict.TheVariants.{Refused, Translated}
use Rattle.tofix_replies.specs.ToFix.{Bridge, IsToFixReply, a_fault, a_message, cover_reply, head_after, noted, other_encoding, sent, text_limit, text_reply}

-- a refused item isn't a translated one
refused_not : {Z : Type 0} {line : List ℕ} (reply : Reply) → reply ≡ noted line → reply.verdict ≡ Translated → Z
refused_not {Z = Z} reply is told = absurd (never (sym (ap (λ (r : Reply). r.verdict) is) ∙ told))
  where
    never : ◌≡◌ {A = Verdict} Refused Translated → ⊥
    never h = cc

-- ---- a message of a template with this structure

-- The template is covered, nothing of the message is refused, and the reply is its text.
pub record IsSent (on : Bridge) (kept : Kept) (s : Structure) (level : Level) (block : Block) (reply : Reply) : Type 0 where
  pub covered : uncovered on.mapping s level ≡ None
  pub unrefused : text_refusal on.mapping.lists (text_limit on.frame) (out-Level level).semantic (head_after kept.translated on.head) (places_of (plan_of on.mapping s level) (values_of (plan_of on.mapping s level) block)) ≡ None
  pub is : reply ≡ sent (message_text on.mapping.lists (out-Level level).semantic (head_after kept.translated on.head)
      (place_fields (places_of (plan_of on.mapping s level) (values_of (plan_of on.mapping s level) block)).places))

module _ (on : Bridge) (kept : Kept) (s : Structure) (level : Level) (block : Block) (reply : Reply) where
  abbrev p : Plan
  p = plan_of on.mapping s level

  abbrev kind : List ℕ
  kind = (out-Level level).semantic

  abbrev head : Head
  head = head_after kept.translated on.head

  abbrev all : Places
  all = places_of p (values_of p block)

  abbrev text : List ℕ
  text = message_text on.mapping.lists kind head (place_fields all.places)

  abbrev refusal : Option Unsent
  refusal = text_refusal on.mapping.lists (text_limit on.frame) kind head all

  by_refusal : (o : Option Unsent) → refusal ≡ o → reply ≡ text_reply kept.items level p text o → reply.verdict ≡ Translated → (refusal ≡ None) × (reply ≡ sent text)
  by_refusal None e is told = (e, is)
  by_refusal (Some u) e is told = refused_not reply is told

  by_path : (o : Option (List (List ℕ))) → uncovered on.mapping s level ≡ o → reply ≡ cover_reply on kept level block (cover_by on.mapping s level o) → reply.verdict ≡ Translated
      → IsSent on kept s level block reply
  by_path None e is told = let own = by_refusal refusal refl is told in record { covered = e; unrefused = own.0; is = own.1 }
  by_path (Some path) e is told = refused_not reply is told

  pub sent_so : structure_for on.mapping kind ≡ Some s → reply ≡ cover_reply on kept level block (cover_of on.mapping level) → reply.verdict ≡ Translated → IsSent on kept s level block reply
  sent_so mapped is told =
      by_path (uncovered on.mapping s level) refl (is ∙ ap (λ o. cover_reply on kept level block (cover_in on.mapping level o)) mapped) told

-- ---- a frame

one_level : {x y : Level} {o : Option Level} → o ≡ Some x → o ≡ Some y → x ≡ y
one_level h k = cc

module _ (on : Bridge) (kept : Kept) (item : Item) (s : Structure) (level : Level) (m : Msg) (schema : WireSchema) (reply : Reply) where
  pub frame_sent : schema_for on.schemas item.body ≡ schema → IsPlaced schema → Lays schema m item.body → slice_get schema.messages m.template ≡ Some level
      → structure_for on.mapping (out-Level level).semantic ≡ Some s → IsToFixReply on kept item reply → reply.verdict ≡ Translated → IsSent on kept s level m.block reply
  frame_sent chosen placed lies there mapped h told = elim h [
    | other_encoding n e ↦ refused_not reply e told
    | a_fault i fault first e ↦ refused_not reply e told
    | a_message i l also base here e ↦
        let same : l ≡ m = one_message schema placed l m item.body (subst (λ (x : WireSchema). Lays x l item.body) chosen also) lies in
        let at : slice_get schema.messages m.template ≡ Some base =
        ap (λ (n : Msg). slice_get schema.messages n.template) (sym same) ∙ subst (λ (x : WireSchema). slice_get x.messages l.template ≡ Some base) chosen here in
        let level_is : base ≡ level = one_level at there in
        sent_so on kept s level m.block reply mapped
        (e ∙ ap (λ (n : Msg). cover_reply on kept base n.block (cover_of on.mapping base)) same ∙ ap (λ root. cover_reply on kept root m.block (cover_of on.mapping root)) level_is) told
  ]
