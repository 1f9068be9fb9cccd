-- A body with one byte altered. Own profile.
use Rattle.std.specs.Prelude.{ℕ, ◌+◌, ◌%◌, List, length, slice_index, slice_set}
use Rattle.vectors.specs.declared.numbers.TheConstants.{BYTE_VALUES}

-- the bytes, of which the one at the index is increased by 1, modulo 256
abbrev pub raised_at : List ℕ → ℕ → List ℕ
raised_at bytes place = slice_set bytes place ((slice_index bytes place + 1) % BYTE_VALUES)

-- the body, of which the byte at `index` modulo its length is increased by 1, modulo 256
unfoldable pub altered : List ℕ → ℕ → List ℕ
altered body index = raised_at body (index % length body)
