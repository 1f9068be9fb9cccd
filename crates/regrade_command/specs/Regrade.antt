-- What `regrade` answers to one frame. Own profile.
use Rattle.std.specs.Prelude.{◌≡◌, ◌≢◌, ℕ, ◌-◌, ◌==◌, if◌then◌else◌, Some, None, Option, Result, Ok, Err, List, [], ◌++◌, codes, decimal, unwrap_or}
use Rattle.sbe_base.specs.declared.status.Status.{Status}
use Rattle.sbe_base.specs.declared.status.Status.TheVariants.{WriteFault as WriteFailed}
use Rattle.sbe_base.specs.declared.stream.WriteFault.{WriteFault}
use Rattle.sbe_types.specs.declared.path.Step.{Step}
use Rattle.sbe_types.specs.declared.schema.WireSchema.{WireSchema}
use Rattle.sbe_types.specs.declared.message.Msg.{Msg}
use Rattle.sbe_wire.specs.Canonical.{canonical}
use Rattle.sbe_wire.specs.Faults.{Fault, FirstFault}
use Rattle.sbe_wire.specs.Lays.{Lays}
use Rattle.sbe_wire.specs.Misfit.{Misfit, misfit}
use Rattle.sbe_wire.specs.Reading.{message_of}
use Rattle.open_framing.specs.Frames.{Item, frame}
use Rattle.layout_tables.specs.Paths.{path_text}
use Rattle.dump_lines.specs.Dumped.{encoding_of}
use Rattle.dump_lines.specs.Refused.{of_fault}
use Rattle.refused_items.specs.Refused.{Refused as RefusedItem, refused_line, of_encoding}
use Rattle.build_command.specs.Build.{body_limit, of_misfit, refused_reply}
use Rattle.regrade_laws.specs.Regraded.{Refusal, moved, regraded, NoTemplate, NoFill}
use Rattle.regrade_laws.specs.Counts.{dropped, filled}
use Rattle.regrade.specs.Regrades.{HasWay}
use Rattle.regrade.specs.declared.regrading.Regraded.{Regraded}
use Rattle.schema_facts.specs.IsChecked.{IsChecked}
use Rattle.replies.specs.Reply.{Reply}
use Rattle.replies.specs.declared.verdict.Verdict.{Verdict}
use Rattle.replies.specs.declared.verdict.Verdict.TheVariants as verdict
use Rattle.command_steps.specs.declared.kept.Kept.{Kept}

-- the schema of the messages that are read, and that of those that are written
pub record FromTo : Type 0 where
  pub from : WireSchema
  pub to : WireSchema

-- the same for frames of at most so many bytes
pub record Regrading : Type 0 where
  pub pair : FromTo
  pub frame : ℕ

-- both schemas are in order, and the later one extends the earlier one
pub record IsRegradable (pair : FromTo) : Type 0 where
  pub from : IsChecked pair.from
  pub to : IsChecked pair.to
  pub way : HasWay pair.from pair.to

-- ---- the reply

-- the schema that is written has no message of that id
abbrev pub of_no_template : RefusedItem
of_no_template = record { code = codes "G03"; offset = None; path = []; detail = [] }

-- the part at this path of a message of that template is absent, and has no empty value
abbrev pub of_no_fill : WireSchema → ℕ → List Step → RefusedItem
of_no_fill to template path = record { code = codes "G02"; offset = None; path = path_text to template path; detail = [] }

-- a message in another version is written, with so many parts dropped and filled
abbrev pub regraded_reply : FromTo → Msg → List ℕ → Reply
regraded_reply pair m body = record {
  output = frame (encoding_of pair.to.order) body;
  notes = [];
  verdict = verdict.Regraded (dropped pair.from pair.to m) (filled pair.from pair.to m);
}

-- a message in another version that is written as these bytes, with no part dropped or filled
abbrev pub copy_reply : WireSchema → List ℕ → Reply
copy_reply to bytes = record { output = frame (encoding_of to.order) bytes; notes = []; verdict = verdict.Regraded 0 0 }

-- the item is noted so
abbrev pub IsNoted : ℕ → RefusedItem → Reply → Type 0
IsNoted number why reply = reply ≡ refused_reply (refused_line number why)

-- the frame is of the encoding type of the schema that is read
abbrev pub IsOfType : Regrading → Item → Type 0
IsOfType on item = item.encoding ≡ encoding_of on.pair.from.order

-- the message lies in the frame, and is rewritten so
abbrev pub Rewrites : Regrading → Item → Msg → Result Msg Refusal → Type 0
Rewrites on item m told = Lays on.pair.from m item.body × (regraded on.pair.from on.pair.to m ≡ told)

-- A frame of another encoding type than that of the schema that is read is refused, and a body that is no message of it at its
-- first fault. Else the message is rewritten, and its frame is written where it can be.
pub data IsRegraded (on : Regrading) (number : ℕ) (item : Item) (reply : Reply) : Type 0 where
  other_encoding : item.encoding ≢ encoding_of on.pair.from.order → IsNoted number (of_encoding item.encoding) reply
      → IsRegraded on number item reply
  a_fault : IsOfType on item → (fault : Fault) → FirstFault on.pair.from fault item.body
      → IsNoted number (of_fault on.pair.from item.body fault) reply → IsRegraded on number item reply
  no_template : IsOfType on item → (m : Msg) → Rewrites on item m (Err NoTemplate)
      → IsNoted number of_no_template reply → IsRegraded on number item reply
  no_fill : IsOfType on item → (m : Msg) → (path : List Step) → Rewrites on item m (Err (NoFill path))
      → (n : Msg) → moved on.pair.from on.pair.to m ≡ Some n
      → IsNoted number (of_no_fill on.pair.to n.template path) reply → IsRegraded on number item reply
  no_room : IsOfType on item → (m n : Msg) → Rewrites on item m (Ok n)
      → (why : Misfit) → misfit on.pair.to n (body_limit on.frame) ≡ Some why
      → IsNoted number (of_misfit on.pair.to n.template why) reply → IsRegraded on number item reply
  a_frame : IsOfType on item → (m n : Msg) → Rewrites on item m (Ok n)
      → misfit on.pair.to n (body_limit on.frame) ≡ None
      → (body : List ℕ) → canonical on.pair.to n ≡ Some body → reply ≡ regraded_reply on.pair m body → IsRegraded on number item reply

-- The reply of `regrade` to a frame.
abbrev pub IsRegradeReply : Regrading → Kept → Item → Reply → Type 0
IsRegradeReply on kept item reply = IsRegraded on kept.items item reply

-- The output is the frame of a body that is read as the message that the frame's message is rewritten to.
abbrev pub HoldsRewritten : FromTo → Item → List ℕ → Type 0
HoldsRewritten pair item output =
    (m n : Msg) × (body : List ℕ) × Lays pair.from m item.body × (regraded pair.from pair.to m ≡ Ok n)
    × (output ≡ frame (encoding_of pair.to.order) body) × (message_of pair.to body ≡ Ok n)

-- ---- the same by reading

-- a message that is written with these counts, by its first misfit
abbrev pub written_reply : WireSchema → ℕ → Regraded → Option Misfit → Reply
written_reply to number it None = record {
  output = frame (encoding_of to.order) (unwrap_or (canonical to it.msg) []);
  notes = [];
  verdict = verdict.Regraded it.dropped it.filled;
}
written_reply to number it (Some why) = refused_reply (refused_line number (of_misfit to it.msg.template why))

-- the note of a message that lacks the part at this path, by what the message is in the other version
abbrev pub lack_line : WireSchema → ℕ → List Step → Option Msg → List ℕ
lack_line to number path None = refused_line number of_no_template
lack_line to number path (Some n) = refused_line number (of_no_fill to n.template path)

-- a message that is rewritten as n, with its counts
abbrev pub rewritten_as : FromTo → Msg → Msg → Regraded
rewritten_as pair m n = record { msg = n; dropped = dropped pair.from pair.to m; filled = filled pair.from pair.to m }

-- the reply to a message that is rewritten so
abbrev pub reply_by : Regrading → ℕ → Msg → Result Msg Refusal → Reply
reply_by on number m (Ok n) =
    written_reply on.pair.to number (rewritten_as on.pair m n) (misfit on.pair.to n (body_limit on.frame))
reply_by on number m (Err NoTemplate) = refused_reply (refused_line number of_no_template)
reply_by on number m (Err (NoFill path)) = refused_reply (lack_line on.pair.to number path (moved on.pair.from on.pair.to m))

-- the reply to a message
abbrev pub rewritten_reply : Regrading → ℕ → Msg → Reply
rewritten_reply on number m = reply_by on number m (regraded on.pair.from on.pair.to m)

-- the reply to a body that is read so
abbrev pub body_reply : Regrading → ℕ → List ℕ → Result Msg Fault → Reply
body_reply on number body (Ok m) = rewritten_reply on number m
body_reply on number body (Err fault) = refused_reply (refused_line number (of_fault on.pair.from body fault))

-- the reply to a frame
abbrev pub regrade_reply : Regrading → ℕ → Item → Reply
regrade_reply on number item =
    if item.encoding == encoding_of on.pair.from.order
    then body_reply on number item.body (message_of on.pair.from item.body)
    else refused_reply (refused_line number (of_encoding item.encoding))

-- ---- what becomes of an item

-- an item whose refusal is noted so
abbrev pub refused_so : Result (Unit {0}) WriteFault → Result Verdict Status
refused_so (Ok done) = Ok verdict.Refused
refused_so (Err e) = Err WriteFailed

-- a message that is written has the counts of its rewriting
abbrev pub counted_verdict : Regraded → Result Verdict Status → Result Verdict Status
counted_verdict it (Ok verdict.Answered) = Ok (verdict.Regraded it.dropped it.filled)
counted_verdict it (Ok verdict.Refused) = Ok verdict.Refused
counted_verdict it (Ok verdict.Translated) = Ok verdict.Translated
counted_verdict it (Ok (verdict.Regraded dropped filled)) = Ok (verdict.Regraded dropped filled)
counted_verdict it (Err code) = Err code

-- ---- the end

-- The last line: how many frames are written, and how many parts were dropped and filled in these.
abbrev pub sums_line : Kept → List ℕ
sums_line kept =
    codes "{\"regraded\":" ++ (decimal (kept.items - kept.refused)
    ++ (codes ",\"dropped\":" ++ (decimal kept.dropped ++ (codes ",\"filled\":" ++ (decimal kept.filled ++ codes "}\n")))))
