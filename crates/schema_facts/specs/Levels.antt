-- The levels of a schema by number: a message's root and then the levels of its groups, each followed by those of its
-- own groups; the messages in order. From SBE 1.0, Message structure; the numbers are own profile.
use Rattle.std.specs.Prelude.{◌≡◌, ℕ, suc, Option, Some, None, List, [], ◌∷◌, ◌++◌, slice_get, length, take}
use Rattle.std.specs.Option.{option_map}
use Rattle.sbe_types.specs.declared.kind.Member.{Member}
use Rattle.sbe_types.specs.declared.schema.Field.{Field}
use Rattle.sbe_types.specs.declared.schema.Group.{Group, Group', out-Group}
use Rattle.sbe_types.specs.declared.schema.DataField.{DataField}
use Rattle.sbe_types.specs.declared.schema.Level.{Level, Level', out-Level, Row_of-Group, end_of-Group, more_of-Group}
use Rattle.sbe_types.specs.declared.schema.WireSchema.{WireSchema}

-- a level, the number of its message, and the dimension of its group; a root has none
pub record Node : Type 0 where
  pub template : ℕ
  pub dim : Option (List Member)
  pub level : Level

unfoldable mutual
  -- a level of message t, and then the levels of its groups
  pub nodes : ℕ → Option (List Member) → Level → List Node
  nodes t dim (Level' name id semantic since block_length fields n groups parts) =
      record { template = t; dim = dim; level = Level' name id semantic since block_length fields n groups parts } ∷ nodes_below t groups

  -- the levels of a row of groups
  pub nodes_below : ℕ → {n : _} → Row_of-Group n → List Node
  nodes_below t end_of-Group = []
  nodes_below t (more_of-Group g rest) = nodes_of t g ++ nodes_below t rest

  -- the levels of a group
  pub nodes_of : ℕ → Group → List Node
  nodes_of t (Group' dim level) = nodes t (Some dim) level

-- the levels of messages, of which the first is number t
abbrev pub nodes_from : ℕ → List Level → List Node
nodes_from t [] = []
nodes_from t (level ∷ levels) = nodes t None level ++ nodes_from (suc t) levels

-- the levels of a schema, by number
abbrev pub all_nodes : WireSchema → List Node
all_nodes schema = nodes_from 0 schema.messages

-- a level of message t with a dimension
abbrev pub node : ℕ → Option (List Member) → Level → Node
node t dim level = record { template = t; dim = dim; level = level }

-- the level of a group's entries
abbrev pub group_node : ℕ → Group → Node
group_node t g = node t (Some (out-Group g).dim) (out-Group g).level

-- xs has the levels ys from index k on
abbrev pub Stands : List Node → ℕ → List Node → Type 0
Stands xs k ys = (front : List Node) × (rest : List Node) × (xs ≡ front ++ (ys ++ rest)) × (length front ≡ k)

-- the number of the root level of message t
abbrev pub root_of : WireSchema → ℕ → ℕ
root_of schema t = length (nodes_from 0 (take t schema.messages))

-- level n
abbrev pub level_at : WireSchema → ℕ → Option Level
level_at schema n = option_map (λ (node : Node). node.level) (slice_get (all_nodes schema) n)

-- the fields of a level, if there is one
abbrev pub fields_in : Option Level → List Field
fields_in None = []
fields_in (Some level) = (out-Level level).fields

-- the groups of a level, if there is one
abbrev pub groups_in : Option Level → List Group
groups_in None = []
groups_in (Some level) = (out-Level level).groups

-- the data parts of a level, if there is one
abbrev pub parts_in : Option Level → List DataField
parts_in None = []
parts_in (Some level) = (out-Level level).parts

-- the fields of level n
abbrev pub fields_at : WireSchema → ℕ → List Field
fields_at schema n = fields_in (level_at schema n)

-- the groups of level n
abbrev pub groups_at : WireSchema → ℕ → List Group
groups_at schema n = groups_in (level_at schema n)

-- the data parts of level n
abbrev pub parts_at : WireSchema → ℕ → List DataField
parts_at schema n = parts_in (level_at schema n)
