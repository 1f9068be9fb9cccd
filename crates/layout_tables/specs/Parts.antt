-- The groups and data parts of a schema by number. From SBE 1.0, Message structure; the numbers are own profile.
use Rattle.std.specs.Prelude.{◌≡◌, ℕ, zero, suc, ◌+◌, ◌<◌, Option, List, [], ◌∷◌, ◌++◌, length, map, flat_map, take, slice_get}
use Rattle.std.specs.Option.{option_and_then}
use Rattle.sbe_types.specs.declared.kind.Member.{Member}
use Rattle.sbe_types.specs.declared.schema.DataField.{DataField}
use Rattle.sbe_types.specs.declared.schema.Level.{out-Level}
use Rattle.sbe_types.specs.declared.schema.WireSchema.{WireSchema}
use Rattle.schema_facts.specs.Levels.{Node, all_nodes, nodes_of, fields_at, groups_at, parts_at}
use Rattle.layout_tables.specs.declared.rows.PartPlace.{PartPlace}

-- the number of the level of group i of level n
abbrev pub group_number : WireSchema → ℕ → ℕ → ℕ
group_number schema n i = n + 1 + length (flat_map (nodes_of 0) (take i (groups_at schema n)))

-- the dimension of level n; a root has none
abbrev pub dim_at : WireSchema → ℕ → Option (List Member)
dim_at schema n = option_and_then (λ (node : Node). node.dim) (slice_get (all_nodes schema) n)

-- the data parts of some levels, in order
abbrev pub parts_of : List Node → List DataField
parts_of nodes = flat_map (λ (node : Node). (out-Level node.level).parts) nodes

-- the data parts of a schema, by number
abbrev pub all_parts : WireSchema → List DataField
all_parts schema = parts_of (all_nodes schema)

-- the number of data part i of level n
abbrev pub part_number : WireSchema → ℕ → ℕ → ℕ
part_number schema n i = length (parts_of (take n (all_nodes schema))) + i

-- how many parts level n has: fields, groups and data together
abbrev pub parts_in_all : WireSchema → ℕ → ℕ
parts_in_all schema n = length (fields_at schema n) + length (groups_at schema n) + length (parts_at schema n)

-- ---- the tables of data parts

-- how many data parts each level has
abbrev pub part_counts : List Node → List ℕ
part_counts nodes = map (λ (node : Node). length (out-Level node.level).parts) nodes

-- the number of each level's first data part, where k precede the first level
abbrev pub firsts_from : ℕ → List ℕ → List ℕ
firsts_from k [] = []
firsts_from k (count ∷ counts) = k ∷ firsts_from (k + count) counts

-- the places of a level's data parts from number i on
abbrev pub places_in : ℕ → ℕ → ℕ → List PartPlace
places_in level i zero = []
places_in level i (suc many) = record { level = level; part = i } ∷ places_in level (suc i) many

-- the places of the data parts of levels, of which the first is number n
abbrev pub places_from : ℕ → List ℕ → List PartPlace
places_from n [] = []
places_from n (count ∷ counts) = places_in n 0 count ++ places_from (suc n) counts

-- data part k is the one at this place
pub record PartStands (schema : WireSchema) (k : ℕ) (place : PartPlace) : Type 0 where
  pub level : place.level < length (all_nodes schema)
  pub part : place.part < length (parts_at schema place.level)
  pub number : k ≡ part_number schema place.level place.part
  pub same : slice_get (all_parts schema) k ≡ slice_get (parts_at schema place.level) place.part

-- f data parts precede those of level n, which has a data part i
pub record Numbered (schema : WireSchema) (n i f : ℕ) : Type 0 where
  pub within : f + i < length (all_parts schema)
  pub number : f + i ≡ part_number schema n i
  pub same : slice_get (all_parts schema) (f + i) ≡ slice_get (parts_at schema n) i
