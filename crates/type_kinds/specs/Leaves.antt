-- The leaf that a name of a type stands for.
use Rattle.std.specs.Prelude.{List, Option, Some, None}
use Rattle.sbe_types.specs.declared.kind.Leaf.{Leaf}
use Rattle.sbe_types.specs.declared.tree.TypesItem.{TypesItem}
use Rattle.sbe_types.specs.declared.tree.TypesItem.TheVariants as item
use Rattle.schema_rules.specs.Kinds.{as_declared, type_kind}
use Rattle.schema_rules.specs.Counters.{leaf_in}

-- The leaf of a type, if it was found and is one.
abbrev pub found_leaf : List TypesItem → Option TypesItem → Option Leaf
found_leaf types None = None
found_leaf types (Some (item.Type t)) = leaf_in (type_kind types as_declared t)
found_leaf types (Some (item.Composite c)) = None
found_leaf types (Some (item.Enum e)) = None
found_leaf types (Some (item.Set s)) = None
