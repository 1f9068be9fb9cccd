-- The names of a level's parts.
use Rattle.std.specs.Prelude.{ℕ, Option, Some, None, List, [], map}
use Rattle.sbe_types.specs.declared.schema.Level.{Level}
use Rattle.sbe_types.specs.declared.schema.WireSchema.{WireSchema}
use Rattle.schema_facts.specs.Levels.{level_at}
use Rattle.layout_tables.specs.Paths.{level_parts}

-- the names of a level's parts: its fields, then its groups, then its data
abbrev pub names_of : Level → List (List ℕ)
names_of level = map (λ p. p.name) (level_parts level)

-- the names of the parts of a level, if there is one
abbrev pub names_in : Option Level → List (List ℕ)
names_in None = []
names_in (Some level) = names_of level

-- the names of the parts of level n
abbrev pub names_at : WireSchema → ℕ → List (List ℕ)
names_at schema n = names_in (level_at schema n)
