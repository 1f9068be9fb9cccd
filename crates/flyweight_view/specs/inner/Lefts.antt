-- What is read in order: the items, and the bytes after them.
use Rattle.std.specs.Prelude.{Result, Ok, Err, ℕ, List, []}
use Rattle.sbe_wire.specs.Faults.{Fault}

-- the items that were read; none after a fault
abbrev pub items_of : {X : Type 0} → Result (List X × List ℕ) Fault → List X
items_of (Ok r) = r.0
items_of (Err f) = []

-- the bytes after what was read; none after a fault
abbrev pub rest_of : {X : Type 0} → Result (X × List ℕ) Fault → List ℕ
rest_of (Ok r) = r.1
rest_of (Err f) = []
