-- The least number of bytes of an entry. Own profile, from SBE 1.0, Message structure and Repeating group encoding.
use Rattle.std.specs.Prelude.{ℕ, ◌+◌, if◌then◌else◌, List, [], ◌∷◌}
use Rattle.sbe_types.specs.declared.schema.DataField.{DataField}
use Rattle.sbe_types.specs.declared.schema.Group.{Group, out-Group}
use Rattle.sbe_types.specs.declared.schema.Level.{Level, out-Level}
use Rattle.sbe_types.specs.Numbers.{prim_width}
use Rattle.sbe_types.specs.Places.{members_end}
use Rattle.sbe_wire.specs.Versions.{is_alive, floor}

-- the bytes that a group takes at least: its dimension, if it is alive
abbrev pub group_least : ℕ → Group → ℕ
group_least version g = if is_alive version (out-Level (out-Group g).level).since then members_end 0 (out-Group g).dim else 0

-- the same for some groups
abbrev pub groups_least : ℕ → List Group → ℕ
groups_least version [] = 0
groups_least version (g ∷ gs) = group_least version g + groups_least version gs

-- the bytes that a data part takes at least: its length number, if it is alive
abbrev pub part_least : ℕ → DataField → ℕ
part_least version part = if is_alive version part.since then prim_width part.length.prim else 0

-- the same for some data parts
abbrev pub parts_least : ℕ → List DataField → ℕ
parts_least version [] = 0
parts_least version (part ∷ parts) = part_least version part + parts_least version parts

-- the bytes that an entry takes at least: the floor of its block, the dimensions of its groups, and the length numbers
-- of its data
abbrev pub entry_least : ℕ → Level → ℕ
entry_least version level =
    floor version (out-Level level).fields + groups_least version (out-Level level).groups + parts_least version (out-Level level).parts
