-- `regrade` has one reply to each frame.
use Rattle.std.proofs.Common.{◌≡◌, ◌≢◌, ℕ, ◌==◌, Bool, true, false, cond, List, [], length, Option, Some, None, Result, Ok, Err, refl, sym, ap, ◌∙◌, arith}
use Rattle.std.specs.Prelude.{unwrap_or}
use Rattle.std.proofs.lemmas.Bool.Decides.{nat_tests}
use Rattle.sbe_base.specs.declared.status.Limits.{Limits}
use Rattle.sbe_base.specs.declared.status.Status.{Status}
use Rattle.sbe_types.specs.declared.path.Step.{Step}
use Rattle.sbe_types.specs.declared.message.Msg.{Msg}
use Rattle.sbe_wire.specs.Faults.{Fault, FirstFault}
use Rattle.sbe_wire.specs.Lays.{Lays}
use Rattle.sbe_wire.specs.Misfit.{Misfit, misfit}
use Rattle.sbe_wire.specs.Reading.{message_of}
use Rattle.sbe_wire.proofs.Messages.{message_judges}
use Rattle.open_framing.specs.Frames.{Item, frame}
use Rattle.dump_lines.specs.Dumped.{encoding_of}
use Rattle.dump_lines.specs.Refused.{of_fault}
use Rattle.refused_items.specs.Refused.{refused_line, of_encoding}
use Rattle.replies.specs.Reply.{Reply}
use Rattle.replies.specs.declared.verdict.Verdict.{Verdict}
use Rattle.replies.specs.declared.verdict.Verdict.TheVariants as verdict
use Rattle.command_steps.specs.Replies.{HasParts, Wants, by_frames}
use Rattle.command_steps.proofs.Folding.{AnswersOnce, frames_once}
use Rattle.command_steps.proofs.Told.{refused_parts}
use Rattle.build_command.specs.Build.{body_limit, refused_reply}
use Rattle.build_command.proofs.Buildable.{body_there}
use Rattle.regrade_laws.specs.Regraded.{Refusal, NoTemplate, NoFill, moved, regraded}
use Rattle.regrade_laws.specs.Counts.{dropped, filled}
use Rattle.regrade_command.specs.Regrade.{Regrading, IsRegradable, IsRegraded, other_encoding, a_fault, no_template, no_fill, no_room, a_frame, written_reply, rewritten_as, lack_line, reply_by, body_reply, regrade_reply, IsRegradeReply, sums_line}
use Rattle.regrade_command.proofs.Lacking.{lack_leads}
use Rattle.regrade_command.proofs.Answering.{right_encoding, wrong_encoding, message_read}
use Rattle.regrade_command.proofs.Sizes.{regraded_parts}

-- ---- there is one

module _ (on : Regrading) (number : ℕ) (item : Item) (good : IsRegradable on.pair) where
  abbrev same_type : Type 0
  same_type = item.encoding ≡ encoding_of on.pair.from.order

  module _ (same : same_type) (m : Msg) (lies : Lays on.pair.from m item.body) where
    frame_there : (n : Msg) → regraded on.pair.from on.pair.to m ≡ Ok n → (found : Option Misfit) → misfit on.pair.to n (body_limit on.frame) ≡ found →
        IsRegraded on number item (written_reply on.pair.to number (rewritten_as on.pair m n) found)
    frame_there n told None e =
        let body = body_there on.pair.to n (body_limit on.frame) good.to e in
        a_frame same m n (lies, told) e body.0 body.1
        (ap (λ (b : Option (List ℕ)).
        let r : Reply = record { output = frame (encoding_of on.pair.to.order) (unwrap_or b []); notes = []; verdict = verdict.Regraded (dropped on.pair.from on.pair.to m) (filled on.pair.from on.pair.to m) } in r) body.1)
    frame_there n told (Some why) e = no_room same m n (lies, told) why e refl

    lack_there : (path : List Step) → regraded on.pair.from on.pair.to m ≡ Err (NoFill path) →
        IsRegraded on number item (refused_reply (lack_line on.pair.to number path (moved on.pair.from on.pair.to m)))
    lack_there path told =
        let leads = lack_leads on.pair.to path (moved on.pair.from on.pair.to m) told in
        no_fill same m path (lies, told) leads.0 leads.1 (ap (λ o. refused_reply (lack_line on.pair.to number path o)) leads.1)

    told_there : (r : Result Msg Refusal) → regraded on.pair.from on.pair.to m ≡ r → IsRegraded on number item (reply_by on number m r)
    told_there (Ok n) e = frame_there n e (misfit on.pair.to n (body_limit on.frame)) refl
    told_there (Err NoTemplate) e = no_template same m (lies, e) refl
    told_there (Err (NoFill path)) e = lack_there path e

  body_answered : same_type → (r : Result Msg Fault) → message_of on.pair.from item.body ≡ r →
      IsRegraded on number item (body_reply on number item.body r)
  body_answered same (Ok m) e = told_there same m ((message_judges on.pair.from good.from.placed).sound item.body m tt e) (regraded on.pair.from on.pair.to m) refl
  body_answered same (Err f) e = a_fault same f ((message_judges on.pair.from good.from.placed).told item.body f tt e) refl

  either : (t : Bool) → (item.encoding == encoding_of on.pair.from.order) ≡ t →
      IsRegraded on number item (cond t (body_reply on number item.body (message_of on.pair.from item.body)) (refused_reply (refused_line number (of_encoding item.encoding))))
  either true e = body_answered (grind (arith, nat_tests)) (message_of on.pair.from item.body) refl
  either false e = other_encoding differs refl
    where
      untrue : ◌≡◌ {A = Bool} false true → ⊥
      untrue h = cc

      differs : item.encoding ≢ encoding_of on.pair.from.order
      differs same = untrue (sym e ∙ hit)
        where
          hit : (item.encoding == encoding_of on.pair.from.order) ≡ true
          hit = grind (arith, nat_tests)

  pub is_regraded : IsRegraded on number item (regrade_reply on number item)
  is_regraded = either (item.encoding == encoding_of on.pair.from.order) refl

-- ---- there is no other

module _ (on : Regrading) (number : ℕ) (item : Item) (good : IsRegradable on.pair) where
  abbrev framed : Msg → Option (List ℕ) → Reply
  framed m b = record { output = frame (encoding_of on.pair.to.order) (unwrap_or b []); notes = []; verdict = verdict.Regraded (dropped on.pair.from on.pair.to m) (filled on.pair.from on.pair.to m) }

  right : item.encoding ≡ encoding_of on.pair.from.order →
      regrade_reply on number item ≡ body_reply on number item.body (message_of on.pair.from item.body)
  right same = right_encoding on number item.encoding item.body same

  read_as : (m : Msg) → item.encoding ≡ encoding_of on.pair.from.order → Lays on.pair.from m item.body → (r : Result Msg Refusal) →
      regraded on.pair.from on.pair.to m ≡ r → regrade_reply on number item ≡ reply_by on number m r
  read_as m same lies r told = message_read on number item.encoding item.body m same good.from.placed lies ∙ ap (reply_by on number m) told

  fault_as : (f : Fault) → item.encoding ≡ encoding_of on.pair.from.order → FirstFault on.pair.from f item.body →
      regrade_reply on number item ≡ refused_reply (refused_line number (of_fault on.pair.from item.body f))
  fault_as f same first = right same ∙ ap (body_reply on number item.body) ((message_judges on.pair.from good.from.placed).only item.body f first)

  -- a reply that is shown is the one that is computed
  pub is_the_reply : (reply : Reply) → IsRegraded on number item reply → reply ≡ regrade_reply on number item
  is_the_reply reply h = elim h [
    | other_encoding differs is ↦ is ∙ sym (wrong_encoding on number item.encoding item.body differs)
    | a_fault same f first is ↦ is ∙ sym (fault_as f same first)
    | no_template same m told is ↦ is ∙ sym (read_as m same told.0 (Err NoTemplate) told.1)
    | no_fill same m path told n moves is ↦ is ∙ sym (read_as m same told.0 (Err (NoFill path)) told.1 ∙ ap (λ o. refused_reply (lack_line on.pair.to number path o)) moves)
    | no_room same m n told why unfit is ↦ is ∙ sym (read_as m same told.0 (Ok n) told.1 ∙ ap (written_reply on.pair.to number (rewritten_as on.pair m n)) unfit)
    | a_frame same m n told fits body there is ↦
        is ∙ sym (read_as m same told.0 (Ok n) told.1 ∙ ap (written_reply on.pair.to number (rewritten_as on.pair m n)) fits ∙ ap (framed m) there)
  ]

pub regrade_answers : (on : Regrading) (limits : Limits) → IsRegradable on.pair → AnswersOnce (by_frames limits false sums_line (IsRegradeReply on))
regrade_answers on limits good = frames_once limits false sums_line (IsRegradeReply on)
    (λ kept item. (regrade_reply on kept.items item, is_regraded on kept.items item good))
    (λ kept item a b h k. is_the_reply on kept.items item good a h ∙ sym (is_the_reply on kept.items item good b k))

-- ---- what it counts

module _ (on : Regrading) (number : ℕ) (item : Item) (good : IsRegradable on.pair) where
  frame_parts : (m n : Msg) → Lays on.pair.from m item.body → (found : Option Misfit) →
      HasParts (length item.body) (written_reply on.pair.to number (rewritten_as on.pair m n) found).verdict
  frame_parts m n lies None = regraded_parts on.pair m item.body good lies
  frame_parts m n lies (Some why) = refused_parts (length item.body)

  told_parts : (m : Msg) → Lays on.pair.from m item.body → (r : Result Msg Refusal) → HasParts (length item.body) (reply_by on number m r).verdict
  told_parts m lies (Ok n) = frame_parts m n lies (misfit on.pair.to n (body_limit on.frame))
  told_parts m lies (Err NoTemplate) = refused_parts (length item.body)
  told_parts m lies (Err (NoFill path)) = refused_parts (length item.body)

  body_parts : (r : Result Msg Fault) → message_of on.pair.from item.body ≡ r → HasParts (length item.body) (body_reply on number item.body r).verdict
  body_parts (Ok m) e = told_parts m ((message_judges on.pair.from good.from.placed).sound item.body m tt e) (regraded on.pair.from on.pair.to m)
  body_parts (Err f) e = refused_parts (length item.body)

  either_parts : (t : Bool) →
      HasParts (length item.body) (cond t (body_reply on number item.body (message_of on.pair.from item.body)) (refused_reply (refused_line number (of_encoding item.encoding)))).verdict
  either_parts true = body_parts (message_of on.pair.from item.body) refl
  either_parts false = refused_parts (length item.body)

  pub regrade_parts : HasParts (length item.body) (regrade_reply on number item).verdict
  regrade_parts = either_parts (item.encoding == encoding_of on.pair.from.order)

-- it may run out of memory
pub may_want : (r : Result Verdict Status) → Wants false r
may_want (Ok verdict) = tt
may_want (Err code) = λ h. refl
