-- What the answers of the walk mean, with the fault in the lent slot.
use Rattle.std.specs.Prelude.{ℕ, Bool, true, false, Option, Some, None, Result, Ok, Err, List}
use Rattle.sbe_wire.specs.Faults.{Fault, shifted}
use Rattle.body_walk.specs.declared.found.Found.{Found}

-- bytes that begin at an offset of the body
pub record Piece : Type 0 where
  pub at : ℕ
  pub bytes : List ℕ

-- these bytes at this offset
abbrev pub piece : ℕ → List ℕ → Piece
piece at bytes = record { at = at; bytes = bytes }

-- the fault in the slot
abbrev pub fault_of : Found → Fault
fault_of found = record { code = found.code; path = found.path; offset = found.offset; detail = found.detail }

-- the result of a check of bytes at an offset, without the value
abbrev pub check_at : {X : Type 0} → ℕ → Result X Fault → Result Unit Fault
check_at at (Ok x) = Ok tt
check_at at (Err f) = Err (shifted at f)

-- the result that `true` or `false` and the fault slot encode
abbrev pub fault_unless : Bool → Found → Result Unit Fault
fault_unless true found = Ok tt
fault_unless false found = Err (fault_of found)

-- the result that an offset or None and the fault slot encode
abbrev pub place_or_fault : Option ℕ → Found → Result ℕ Fault
place_or_fault (Some next) found = Ok next
place_or_fault None found = Err (fault_of found)
