-- Bytes of a source that are held in a part of a buffer. Own profile.
use Rattle.std.specs.Io.KnownBytes.{Consumes}
use Rattle.std.specs.Prelude.{◌+◌, ◌++◌, ◌≡◌, ◌<◌, ◌≤◌, ℕ, Option, Some, None, Result, Ok, Err, List, [], length, take, drop}
use Rattle.open_framing.specs.Lines.{before_end}
use Rattle.frame_stream.specs.Reading.{Beyond, DryCause}
use Rattle.frame_stream.specs.declared.reading.Dry.{Dry}
use Rattle.frame_stream.specs.declared.reading.Dry.TheVariants as dry
use Rattle.frame_stream.specs.declared.window.NoEnd.{NoEnd}
use Rattle.frame_stream.specs.declared.window.NoEnd.TheVariants as no_end

-- the bytes held, the capacity, how many bytes were taken in all, and how many may be
pub record HeldState : Type 0 where
  pub bytes : List ℕ
  pub size : ℕ
  pub taken : ℕ
  pub limit : ℕ

-- nothing is held yet
abbrev pub none_held : ℕ → ℕ → HeldState
none_held size limit = record { bytes = []; size = size; taken = 0; limit = limit }

-- what is held, and how many bytes are free after it
pub record WindowState : Type 0 where
  pub held : HeldState
  pub free : ℕ

-- what is held after its first n bytes are dropped
abbrev pub let_go_of : ℕ → HeldState → HeldState
let_go_of n h = record { bytes = drop n h.bytes; size = h.size; taken = h.taken; limit = h.limit }

-- more bytes of the source are held; those beyond what may be taken are not
pub record Moves (old new : HeldState) (left left' : Option (List ℕ)) (beyond : List ℕ) : Type 0 where
  pub more : List ℕ
  pub grown : new.bytes ≡ old.bytes ++ more
  pub consumed : Consumes left left' (more ++ beyond)
  pub taken : new.taken ≡ old.taken + length more
  pub within : new.taken ≤ new.limit
  pub limit : new.limit ≡ old.limit
  pub size : new.size ≡ old.size
  pub fits : length new.bytes ≤ new.size

-- an answer for one byte beyond comes only when the limit was reached
abbrev pub AtLimit : HeldState → Dry → Type 0
AtLimit new d = d ≡ dry.Over → new.taken ≡ new.limit

-- bytes were read, or none for this reason
abbrev pub Reads : HeldState → HeldState → Option (List ℕ) → Option (List ℕ) → Result (Unit {0}) Dry → Type 0
Reads old new left left' (Ok done) = Moves old new left left' [] × (length old.bytes < length new.bytes)
Reads old new left left' (Err d) = (beyond : List ℕ) × Moves old new left left' beyond × (new.bytes ≡ old.bytes) × Beyond beyond left' d × AtLimit new d

-- the position of the first line end, if there is one
abbrev pub FindsEnd : List ℕ → Option ℕ → Type 0
FindsEnd bytes (Some i) = (i < length bytes) × (before_end bytes ≡ Some (take i bytes))
FindsEnd bytes None = before_end bytes ≡ None

-- the end of a line is held, or none for this reason
abbrev pub LineEnds : HeldState → HeldState → Option (List ℕ) → Option (List ℕ) → Result ℕ NoEnd → Type 0
LineEnds old new left left' (Ok i) = Moves old new left left' [] × FindsEnd new.bytes (Some i)
LineEnds old new left left' (Err no_end.Full) = Moves old new left left' [] × FindsEnd new.bytes None × (new.size ≤ length new.bytes)
LineEnds old new left left' (Err (no_end.Dry d)) =
    (beyond : List ℕ) × Moves old new left left' beyond × FindsEnd new.bytes None × (length new.bytes < new.size) × Beyond beyond left' d × AtLimit new d

-- the count of faults rose at a fault, and any other answer leaves it
abbrev pub EndCause : ℕ → ℕ → Result ℕ NoEnd → Type 0
EndCause before now (Ok i) = now ≡ before
EndCause before now (Err no_end.Full) = now ≡ before
EndCause before now (Err (no_end.Dry d)) = DryCause {T = ℕ} before now (Err d)
