-- Two runs: `tofix` of an input, and `tosbe` of what it wrote. Own profile.
use Rattle.std.specs.Prelude.{◌≡◌, ◌⊎◌, ◌+◌, ℕ, ⊤, List, [], ◌∷◌}
use Rattle.sbe_types.specs.declared.message.Msg.{Msg}
use Rattle.sbe_types.specs.declared.schema.Level.{Level}
use Rattle.open_framing.specs.Frames.{Item}
use Rattle.reference_graph.specs.Expansion.{Structure}
use Rattle.command_steps.specs.Replies.{counted}
use Rattle.command_steps.specs.Splits.{Frame}
use Rattle.command_steps.specs.declared.kept.Kept.{Kept}
use Rattle.replies.specs.Reply.{Reply, Written, none_written, then_written, written_of}
use Rattle.replies.specs.declared.verdict.Verdict.TheVariants.{Refused, Translated}
use Rattle.tofix_replies.specs.ToFix.{Bridge, IsToFixReply, head_after}
use Rattle.tosbe_command.specs.Bridges.{BackBridge}
use Rattle.round_trip.specs.Returns.{fields_by, items_by, plan_by, values_by, CanReturn, IsOfMessage, IsReplyWith, MayFollow}

-- ---- what is asked

-- The message in an item, after the items that were counted, can be translated there and back.
pub record MayReturn (on : Bridge) (back : BackBridge) (kept : Kept) (item : Item) : Type 0 where
  pub structure : Structure
  pub level : Level
  pub message : Msg
  pub its : IsOfMessage on back item structure level message
  pub can : CanReturn (plan_by on structure level) (values_by on structure level message)
  pub follow : MayFollow on back (plan_by on structure level) (head_after kept.translated on.head) (fields_by on structure level message)

-- the same of each item that is translated
abbrev pub MayAllReturn : Bridge → BackBridge → Kept → List Item → Type 0
MayAllReturn on back kept [] = ⊤
MayAllReturn on back kept (item ∷ items) =
    (reply : Reply) → IsToFixReply on kept item reply
    → (reply.verdict ≡ Translated → MayReturn on back kept item) × MayAllReturn on back (counted kept (Frame item) reply.verdict) items

-- ---- what comes back

-- The reply of `tosbe` with this number is the one to a message with the application items of an item's message.
pub record IsAnswerFor (on : Bridge) (back : BackBridge) (item : Item) (number : ℕ) (answer : Reply) : Type 0 where
  pub structure : Structure
  pub level : Level
  pub message : Msg
  pub its : IsOfMessage on back item structure level message
  pub replied : IsReplyWith back number (plan_by on structure level) (items_by on structure level message) answer

-- What `tosbe` writes, from this number on, for the texts that `tofix` wrote of items: nothing for a refused one, and
-- for each translated one, in order, the reply to a message with the same application items.
abbrev pub AreReturned : Bridge → BackBridge → Kept → ℕ → List Item → Written → Type 0
AreReturned on back kept number [] written = written ≡ none_written
AreReturned on back kept number (item ∷ items) written =
    (reply : Reply) × IsToFixReply on kept item reply
    × (((reply.verdict ≡ Refused) × AreReturned on back (counted kept (Frame item) reply.verdict) number items written)
    ⊎ ((reply.verdict ≡ Translated) × ((answer : Reply) × (more : Written) × IsAnswerFor on back item number answer
    × AreReturned on back (counted kept (Frame item) reply.verdict) (number + 1) items more × (written ≡ then_written (written_of answer) more))))
