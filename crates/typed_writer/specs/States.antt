-- The states of a writer: which writer is the innermost one, and which others are open.
use Rattle.std.specs.Prelude.{◌≡◌, ℕ, suc, ◌+◌, ◌-◌, ◌*◌, ◌≤◌, ◌<◌, nat_lt, if◌then◌else◌, List, [], ◌∷◌, length, drop}
use Rattle.std.specs.Option.{option_map_or, IsSome}
use Rattle.sbe_types.specs.declared.schema.Level.{Level, out-Level}
use Rattle.sbe_types.specs.declared.schema.WireSchema.{WireSchema}
use Rattle.schema_facts.specs.CheckedLevels.{groups_deep}
use Rattle.schema_facts.specs.Levels.{all_nodes, level_at, fields_at, groups_at, parts_at}
use Rattle.layout_tables.specs.Parts.{dim_at}
use Rattle.typed_writer.specs.declared.stack.TheConstants.{OPEN_LIMIT}
use Rattle.typed_writer.specs.declared.stack.Frame.{Frame}
use Rattle.typed_writer.specs.declared.stack.Frame.TheVariants.{Fields, Tail, Entries}
use Rattle.typed_writer.specs.declared.states.NextPart.{NextPart}
use Rattle.typed_writer.specs.declared.states.NextPart.TheVariants as next
use Rattle.typed_writer.specs.Held.{Held}

-- ---- the innermost writer

-- the number of the innermost writer's level
abbrev pub level_of : List Frame → ℕ
level_of [] = 0
level_of (Fields level ∷ rest) = level
level_of (Tail level many ∷ rest) = level
level_of (Entries level left ∷ rest) = level

-- how many groups and data parts the innermost writer has appended
abbrev pub parts_done : List Frame → ℕ
parts_done [] = 0
parts_done (Fields level ∷ rest) = 0
parts_done (Tail level many ∷ rest) = many
parts_done (Entries level left ∷ rest) = 0

-- how many entries the innermost writer has still to append
abbrev pub entries_left : List Frame → ℕ
entries_left [] = 0
entries_left (Fields level ∷ rest) = 0
entries_left (Tail level many ∷ rest) = 0
entries_left (Entries level left ∷ rest) = left

-- ---- its level

-- the block length of level n
abbrev pub block_at : WireSchema → ℕ → ℕ
block_at schema n = option_map_or (λ (l : Level). (out-Level l).block_length) (level_at schema n) 0

-- how many groups below level n are nested in one another at most
abbrev pub deep_at : WireSchema → ℕ → ℕ
deep_at schema n = option_map_or groups_deep (level_at schema n) 0

-- how many groups and data parts level n has
abbrev pub parts_in_tail : WireSchema → ℕ → ℕ
parts_in_tail schema n = length (groups_at schema n) + length (parts_at schema n)

-- what follows the first `many` groups and data parts of level n
abbrev pub next_part : WireSchema → ℕ → ℕ → NextPart
next_part schema n many =
    if nat_lt many (length (groups_at schema n)) then next.Group many
    else (if nat_lt (many - length (groups_at schema n)) (length (parts_at schema n)) then next.Data (many - length (groups_at schema n)) else next.End)

-- ---- states

-- The innermost writer sets the fields of a level's block, which is within the bytes; there is memory for the groups
-- below.
pub record SetsFields (schema : WireSchema) (held : Held) : Type 0 where
  pub frames : held.frames ≡ Fields (level_of held.frames) ∷ drop 1 held.frames
  pub level : level_of held.frames < length (all_nodes schema)
  pub below : length held.frames + 2 * deep_at schema (level_of held.frames) ≤ OPEN_LIMIT
  pub block : held.at + block_at schema (level_of held.frames) ≤ length held.bytes
  pub marks : length held.set ≡ length (fields_at schema (level_of held.frames))

-- The innermost writer appends the groups and data of a level.
pub record AppendsParts (schema : WireSchema) (held : Held) : Type 0 where
  pub frames : held.frames ≡ Tail (level_of held.frames) (parts_done held.frames) ∷ drop 1 held.frames
  pub level : level_of held.frames < length (all_nodes schema)
  pub below : length held.frames + 2 * deep_at schema (level_of held.frames) ≤ OPEN_LIMIT
  pub done : parts_done held.frames ≤ parts_in_tail schema (level_of held.frames)

-- The innermost writer appends the entries of a group.
pub record AppendsEntries (schema : WireSchema) (held : Held) : Type 0 where
  pub frames : held.frames ≡ Entries (level_of held.frames) (entries_left held.frames) ∷ drop 1 held.frames
  pub group : IsSome (dim_at schema (level_of held.frames))
  pub level : level_of held.frames < length (all_nodes schema)
  pub below : suc (length held.frames) + 2 * deep_at schema (level_of held.frames) ≤ OPEN_LIMIT
