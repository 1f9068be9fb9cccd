-- The caller's buffers.
use Rattle.std.specs.Prelude.{List, ◌++◌, length, min, take, drop}

-- a buffer with the first of some items, as many as there is room for; what is after them stays
abbrev pub filled : {A : Type 0} → List A → List A → List A
filled items buffer = take (min (length buffer) (length items)) items ++ drop (min (length buffer) (length items)) buffer
