-- What `tosbe` writes for the output of a run of `tofix`.
use Rattle.std.proofs.Common.{◌≡◌, ◌⊎◌, inl, inr, ◌≤◌, ◌+◌, ℕ, true, false, List, [], ◌∷◌, ◌++◌, length, map, Option, Some, None, refl, sym, ap, ◌∙◌, subst, arith}
use Rattle.std.specs.List.{AllByRecursion}
use Rattle.std.proofs.lemmas.List.{append-nil}
use Rattle.sbe_base.specs.declared.status.Limits.{Limits}
use Rattle.sbe_types.specs.declared.message.Block.{Block}
use Rattle.sbe_types.specs.declared.schema.Level.{Level}
use Rattle.open_framing.specs.Frames.{IsFrame, Item, frame_of}
use Rattle.open_framing.specs.Pieces.{concat_pieces}
use Rattle.open_framing.specs.declared.head.TheConstants.{HEAD_BYTES}
use Rattle.bridge_terms.specs.Places.{Unsent}
use Rattle.bridge_terms.specs.Plans.{Plan}
use Rattle.bridge_plan.proofs.BackFits.{KindsAreWritable}
use Rattle.bridge_plan.specs.Covers.{Cover, cover_of, covered_by, no_message, unmapped}
use Rattle.command_steps.specs.Ends.{Outcome, PiecesReport}
use Rattle.command_steps.specs.Replies.{Answering, Replies, by_frames, counted, no_line, none_kept}
use Rattle.command_steps.specs.Splits.{Frame, Frames, Piece, PieceEnd, Splits}
use Rattle.command_steps.specs.Splits as ends
use Rattle.command_steps.specs.Ends.{closed}
use Rattle.command_steps.specs.declared.kept.Kept.{Kept}
use Rattle.command_steps.proofs.Splitting.{splits_once}
use Rattle.replies.specs.Reply.{Reply, Written, then_written, written_of}
use Rattle.replies.specs.declared.verdict.Verdict.TheVariants.{Refused, Translated}
use Rattle.tofix_replies.specs.ToFix.{Bridge, IsToFixReply, a_fault, a_message, cover_reply, noted, other_encoding, text_reply}
use Rattle.tosbe_command.specs.Bridges.{BackBridge}
use Rattle.tosbe_command.specs.ToSbe.{IsToSbeReply}
use Rattle.round_trip.specs.Returns.{AreOfOne, IsReturned, items_by, plan_by, text_item}
use Rattle.round_trip.specs.Runs.{MayAllReturn, AreReturned, IsAnswerFor, MayReturn}
use Rattle.round_trip.proofs.Returning.{comes_back}
use Rattle.round_trip.proofs.Streams.{frames_split}

-- ---- a reply of `tofix` is a note, or it is a frame

-- nothing goes to the output, or the item is translated
abbrev IsEither : Reply → Type 0
IsEither reply = ((reply.verdict ≡ Refused) × (reply.output ≡ [])) ⊎ (reply.verdict ≡ Translated)

either_note : (line : List ℕ) (reply : Reply) → reply ≡ noted line → IsEither reply
either_note line reply is = inl (ap (λ (r : Reply). r.verdict) is, ap (λ (r : Reply). r.output) is)

either_text : (number : ℕ) (level : Level) (p : Plan) (text : List ℕ) (o : Option Unsent) (reply : Reply) → reply ≡ text_reply number level p text o → IsEither reply
either_text number level p text None reply is = inr (ap (λ (r : Reply). r.verdict) is)
either_text number level p text (Some u) reply is = either_note _ reply is

either_cover : (on : Bridge) (kept : Kept) (level : Level) (block : Block) (c : Cover) (reply : Reply) → reply ≡ cover_reply on kept level block c → IsEither reply
either_cover on kept level block (covered_by p) reply is = either_text kept.items level p _ _ reply is
either_cover on kept level block no_message reply is = either_note _ reply is
either_cover on kept level block (unmapped path) reply is = either_note _ reply is

either_reply : (on : Bridge) (kept : Kept) (item : Item) (reply : Reply) → IsToFixReply on kept item reply → IsEither reply
either_reply on kept item reply h = elim h [
  | other_encoding n e ↦ either_note _ reply e
  | a_fault i fault first e ↦ either_note _ reply e
  | a_message i m lies level there e ↦ either_cover on kept level m.block (cover_of on.mapping level) reply e
]

-- ---- the texts of a run

module _ (writable : KindsAreWritable) (on : Bridge) (back : BackBridge) (one : AreOfOne on back) (limits others : Limits) (wide : on.frame ≤ others.frame) where
  abbrev there : Answering
  there = by_frames limits true no_line (IsToFixReply on)

  abbrev again : Answering
  again = by_frames others false no_line (IsToSbeReply back)

  -- The output is the frames of these texts, and whatever is replied to them comes back.
  pub record AreSent (kept : Kept) (items : List Item) (written : Written) : Type 0 where
    pub texts : List (List ℕ)
    pub output_is : written.output ≡ concat_pieces frame_of (map text_item texts)
    pub framed : AllByRecursion (IsFrame others.frame) (map text_item texts)
    pub answered : (before after : Kept) (all : Written) → Replies again before (map Frame (map text_item texts)) all after → AreReturned on back kept before.items items all

  is_frame : (text : List ℕ) → length text + HEAD_BYTES ≤ on.frame → IsFrame others.frame (text_item text)
  is_frame text short = record { fits = let high = one.high in omega (arith, short, high); within = omega (arith, short, wide); known = refl }

  module _ (kept : Kept) (item : Item) (items : List Item) (written : Written) (reply : Reply) (more : Written) (here : IsToFixReply on kept item reply)
      (is : written ≡ then_written (written_of reply) more) (later : AreSent (counted kept (Frame item) reply.verdict) items more) where
    -- nothing was written for the item
    sent_none : reply.verdict ≡ Refused → reply.output ≡ [] → AreSent kept (item ∷ items) written
    sent_none refused none = record {
      texts = later.texts;
      output_is = ap (λ (w : Written). w.output) is ∙ ap (λ o. o ++ more.output) none ∙ later.output_is;
      framed = later.framed;
      answered = λ before after all h. (reply, here, inl (refused, later.answered before after all h));
    }

    -- its text was written
    sent_one : reply.verdict ≡ Translated → MayReturn on back kept item → AreSent kept (item ∷ items) written
    sent_one told can =
        let its : IsReturned on back (plan_by on can.structure can.level) (items_by on can.structure can.level can.message) reply =
        comes_back writable on back kept item can.structure can.level can.message reply one can.its can.can can.follow here told in
        record {
          texts = its.text ∷ later.texts;
          output_is = ap (λ (w : Written). w.output) is ∙ ap (λ (r : Reply). r.output ++ more.output) its.is ∙ ap (λ o. frame_of (text_item its.text) ++ o) later.output_is;
          framed = (is_frame its.text its.short, later.framed);
          answered = λ before after all h.
              let answer : IsAnswerFor on back item before.items h.0 =
              record { structure = can.structure; level = can.level; message = can.message; its = can.its; replied = its.replied before.items h.0 h.2 } in
              (reply, here, inr (told, (h.0, h.1, answer, later.answered (counted before (Frame (text_item its.text)) h.0.verdict) after h.1 h.3, h.4)));
        }

  all_sent : (kept after : Kept) (items : List Item) (written : Written) → MayAllReturn on back kept items → Replies there kept (map Frame items) written after → AreSent kept items written
  all_sent kept after [] written can h = record { texts = []; output_is = ap (λ (w : Written). w.output) h.0; framed = tt; answered = λ before last all r. r.0 }
  all_sent kept after (item ∷ items) written can h =
      let returns = can h.0 h.2 in
      let later = all_sent (counted kept (Frame item) h.0.verdict) after items h.1 returns.1 h.3 in
      elim (either_reply on kept item h.0 h.2) [
        | inl none ↦ sent_none kept item items written h.0 h.1 h.2 h.4 later none.0 none.1
        | inr told ↦ sent_one kept item items written h.0 h.1 h.2 h.4 later told (returns.0 told)
      ]

  -- ---- two runs

  pub run_back : (input : List ℕ) (items : List Item) (end : PieceEnd) (first second : Outcome) → Splits (Frames limits) input (map Frame items) end → MayAllReturn on back none_kept items
      → length first.output ≤ others.input → PiecesReport there input first → PiecesReport again first.output second
      → (written : Written) × AreReturned on back none_kept 0 items written × (second.output ≡ written.output) × (second.notes ≡ written.notes)
  run_back input items end first second split can within a b =
      let pieces = (splits_once (Frames limits) input a.0 (map Frame items) a.1 end a.4 split).0 in
      let replies : Replies there none_kept (map Frame items) a.2 a.3 = subst (λ ps. Replies there none_kept ps a.2 a.3) pieces a.5 in
      let sent = all_sent none_kept a.3 items a.2 can replies in
      let output : first.output ≡ concat_pieces frame_of (map text_item sent.texts) = ap (λ (o : Outcome). o.output) a.6 ∙ sent.output_is in
      let whole = frames_split others (map text_item sent.texts) sent.framed (subst (λ bytes. length bytes ≤ others.input) output within) in
      let own = subst (λ bytes. Splits (Frames others) bytes (map Frame (map text_item sent.texts)) ends.End) (sym output) whole in
      let same = splits_once (Frames others) first.output b.0 (map Frame (map text_item sent.texts)) b.1 ends.End b.4 own in
      let back_replies = subst (λ ps. Replies again none_kept ps b.2 b.3) same.0 b.5 in
      let at_end : second ≡ closed again ends.End b.2 b.3 = b.6 ∙ ap (λ e. closed again e b.2 b.3) same.1 in (
        b.2,
        sent.answered none_kept b.3 b.2 back_replies,
        ap (λ (o : Outcome). o.output) at_end,
        ap (λ (o : Outcome). o.notes) at_end ∙ append-nil b.2.notes,
      )
