-- A table of kinds for the declared types, built round by round: each round reaches one name further.
use Rattle.std.specs.Prelude.{ℕ, zero, suc, List, map, slice_get, option_and_then}
use Rattle.sbe_types.specs.declared.kind.Kind.{Kind}
use Rattle.sbe_types.specs.declared.tree.TypesItem.{TypesItem}
use Rattle.schema_rules.specs.Kinds.{as_declared, unresolved, item_kind, kind_or_plain}
use Rattle.schema_rules.specs.Names.{place_of}

-- the kind that a table gives for a name
abbrev pub table_kind : List TypesItem → List Kind → List ℕ → Kind
table_kind types table name = kind_or_plain types (option_and_then (slice_get table) (place_of name types)) name

-- The kinds of the declared types through one more name.
abbrev pub kind_round : ℕ → List TypesItem → List Kind
kind_round zero types = map (λ t. unresolved) types
kind_round (suc n) types = map (item_kind types (table_kind types (kind_round n types)) as_declared) types
