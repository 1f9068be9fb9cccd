-- What `dump` answers for one frame.
use Rattle.std.specs.Prelude.{◌≡◌, ℕ, Bool, true, false, List, Result, Ok, Err, [], length}
use Rattle.sbe_base.specs.declared.stream.WriteFault.{WriteFault}
use Rattle.sbe_base.specs.declared.status.Status.{Status}
use Rattle.sbe_base.specs.declared.status.Status.TheVariants as status
use Rattle.open_framing.specs.Frames.{Item}
use Rattle.dump_lines.specs.declared.schemas.Schemas.{Schemas}
use Rattle.dump_lines.specs.Dumped.{IsDumped, AreInOrder}
use Rattle.schema_files.specs.FileChecks.{IsWithin, JudgesSchemas}
use Rattle.command_files.specs.Files.{FilesOf}
use Rattle.replies.specs.Reply.{Reply}
use Rattle.command_steps.specs.declared.kept.Kept.{Kept}
use Rattle.replies.specs.declared.verdict.Verdict.{Verdict}
use Rattle.replies.specs.declared.verdict.Verdict.TheVariants.{Answered, Refused}

-- An item is refused unless it is answered by its message.
abbrev pub verdict_of : Bool → Verdict
verdict_of true = Answered
verdict_of false = Refused

-- the line of a frame's message, or of a refused item
abbrev pub IsDumpedLine : Schemas → ℕ → Item → List ℕ → Verdict → Type 0
IsDumpedLine schemas number item line verdict = (is_message : Bool) × IsDumped schemas number item line is_message × (verdict ≡ verdict_of is_message)

-- the verdict on an item whose line was written, or the status of a failed write
abbrev pub put_so : Result Bool WriteFault → Result Verdict Status
put_so (Ok is_message) = Ok (verdict_of is_message)
put_so (Err e) = Err status.WriteFault

-- the reply of `dump` to a frame
abbrev pub IsDumpReply : Schemas → Kept → Item → Reply → Type 0
IsDumpReply schemas kept item reply = IsDumpedLine schemas kept.items item reply.output reply.verdict × (reply.notes ≡ [])

-- The files of `dump`: the first schema, and further ones.
abbrev pub dump_files : List ℕ → List (List ℕ) → FilesOf Schemas
dump_files name also = record { AreJudged = λ contents. JudgesSchemas contents name also; IsRole = IsWithin (length also); AreGood = AreInOrder }
