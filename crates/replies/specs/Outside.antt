-- The objects outside at one time, as they are modelled.
use Rattle.std.specs.Prelude.{◌≡◌, ℕ, List}
use Rattle.std.specs.Io.KnownBytes.{Appends}
use Rattle.sbe_base.specs.Causes.{AppendsPart}
use Rattle.sbe_base.specs.Objects.{Object, Failed}
use Rattle.sbe_base.specs.declared.status.Status.{Status}
use Rattle.sbe_base.specs.declared.status.Status.TheVariants as answer
use Rattle.replies.specs.Reply.{Written}

-- where the answers and the notes go
pub record Sinks : Type 0 where
  pub output : Object (List ℕ)
  pub notes : Object (List ℕ)

-- where the items come from, and where the answers go
pub record Streams : Type 0 where
  pub input : Object (List ℕ)
  pub sinks : Sinks

-- output and notes
abbrev pub sinks_of : Object (List ℕ) → Object (List ℕ) → Sinks
sinks_of output notes = record { output = output; notes = notes }

-- Input, output and notes.
abbrev pub streams_of : Object (List ℕ) → Object (List ℕ) → Object (List ℕ) → Streams
streams_of input output notes = record { input = input; sinks = sinks_of output notes }

-- output and notes grew by what is written
pub record Wrote (old new : Sinks) (written : Written) : Type 0 where
  pub output : Appends old.output.told new.output.told written.output
  pub notes : Appends old.notes.told new.notes.told written.notes

-- an answer is written in part, its output first, and then a call failed
pub data Breaks (old new : Sinks) (written : Written) : Type 0 where
  at_output : AppendsPart old.output.told new.output.told written.output → new.notes ≡ old.notes → Failed old.output new.output → Breaks old new written
  at_notes : Appends old.output.told new.output.told written.output → new.output.faults ≡ old.output.faults
      → AppendsPart old.notes.told new.notes.told written.notes → Failed old.notes new.notes → Breaks old new written

-- no count of faults changed
pub record Calm (old new : Streams) : Type 0 where
  pub input : new.input.faults ≡ old.input.faults
  pub output : new.sinks.output.faults ≡ old.sinks.output.faults
  pub notes : new.sinks.notes.faults ≡ old.sinks.notes.faults

-- A line is noted and this status answered, or the write failed.
pub data NotesLine (line : List ℕ) (status : Status) (old new : Object (List ℕ)) (code : Status) : Type 0 where
  noted : code ≡ status → Appends old.told new.told line → new.faults ≡ old.faults → NotesLine line status old new code
  failed : code ≡ answer.WriteFault → AppendsPart old.told new.told line → Failed old new → NotesLine line status old new code
