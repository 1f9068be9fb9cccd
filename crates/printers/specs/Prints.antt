-- What is printed to a sink through a chunk. Own profile.
use Rattle.std.specs.Prelude.{◌≡◌, ℕ, Bool, true, false, List, [], ◌++◌, Result}
use Rattle.sbe_base.specs.Objects.{Object}
use Rattle.sbe_base.specs.Writes.{WroteAll, WrotePart, Writes}
use Rattle.sbe_base.specs.declared.stream.WriteFault.{WriteFault}
use Rattle.printers.specs.declared.printer.Printer.{Printer}

-- If no write failed, the sink and the chunk hold all of the text. If one failed, the sink holds a prefix of it.
abbrev pub StandsBy : Bool → Object (List ℕ) → Object (List ℕ) → List ℕ → List ℕ → Type 0
StandsBy false origin sink waiting text = (front : List ℕ) × (text ≡ front ++ waiting) × WroteAll origin sink front
StandsBy true origin sink waiting text = WrotePart origin sink text

-- this text was printed since the sink was the origin
abbrev pub Stands : {O : Type 0} → (O → Object (List ℕ)) → Object (List ℕ) → Printer O → List ℕ → Type 0
Stands state origin printer text = StandsBy printer.chunk.now.failed origin (state printer.sink.now) printer.chunk.now.bytes text

-- These bytes are printed after whatever was printed before, to the same sink.
pub record Prints {O : Type 0} (state : O → Object (List ℕ)) (old new : Printer O) (bytes : List ℕ) : Type 0 where
  pub same_reference : new.sink.ghost_name ≡ old.sink.ghost_name
  pub more : (origin : Object (List ℕ)) (text : List ℕ) → Stands state origin old text → Stands state origin new (text ++ bytes)

-- nothing is printed yet
abbrev pub Begins : {O : Type 0} → (O → Object (List ℕ)) → Object (List ℕ) → Printer O → Type 0
Begins state origin printer = Stands state origin printer []

-- all that was printed is written, or a prefix of it after a failure
pub record Finishes {O : Type 0} (state : O → Object (List ℕ)) (old : Printer O) (new : Object (List ℕ)) (result : Result (Unit {0}) WriteFault) : Type 0 where
  pub ends : (origin : Object (List ℕ)) (text : List ℕ) → Stands state origin old text → Writes origin new text result
