-- What writing a text leaves in a sink. Own profile.
use Rattle.std.specs.Prelude.{◌≡◌, ℕ, Bool, true, false, List, Result, Ok, Err}
use Rattle.std.specs.Io.KnownBytes.{Appends}
use Rattle.sbe_base.specs.Causes.{AppendsPart}
use Rattle.sbe_base.specs.Objects.{Object, Failed}
use Rattle.sbe_base.specs.declared.stream.WriteFault.{WriteFault}

-- all of the text is written, and no call failed
pub record WroteAll (old new : Object (List ℕ)) (text : List ℕ) : Type 0 where
  pub all : Appends old.told new.told text
  pub kept : new.faults ≡ old.faults

-- a prefix of the text is written, and a call failed
pub record WrotePart (old new : Object (List ℕ)) (text : List ℕ) : Type 0 where
  pub part : AppendsPart old.told new.told text
  pub failed : Failed old new

-- how a text ends, by whether a call failed
abbrev pub Ends : Bool → Object (List ℕ) → Object (List ℕ) → List ℕ → Type 0
Ends false old new text = WroteAll old new text
Ends true old new text = WrotePart old new text

-- the same by the result of a call
abbrev pub Writes : Object (List ℕ) → Object (List ℕ) → List ℕ → Result (Unit {0}) WriteFault → Type 0
Writes old new text (Ok done) = Ends false old new text
Writes old new text (Err fault) = Ends true old new text
