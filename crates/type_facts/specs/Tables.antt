-- Tables for the declared types, built round by round: each round reaches one name further.
use Rattle.std.specs.Prelude.{ℕ, zero, suc, Bool, true, false, List, map, Option, Some, None, slice_get, option_and_then, unwrap_or}
use Rattle.sbe_types.specs.declared.tree.TypesItem.{TypesItem}
use Rattle.schema_rules.specs.declared.facts.Fact.{Fact}
use Rattle.schema_rules.specs.Names.{place_of}
use Rattle.schema_rules.specs.Facts.{no_fact, item_fact, declared_or_plain}
use Rattle.schema_rules.specs.Chains.{is_composite, item_goes_on}

-- the fact that a table gives for a name
abbrev pub table_fact : List TypesItem → List Fact → List ℕ → Fact
table_fact types table name = declared_or_plain (option_and_then (slice_get table) (place_of name types)) name

-- The facts of the declared types through one more name.
abbrev pub fact_round : ℕ → List TypesItem → List Fact
fact_round zero types = map (λ t. no_fact) types
fact_round (suc n) types = map (item_fact types (table_fact types (fact_round n types))) types

-- what a table of chains gives for a name
abbrev pub table_chain : List TypesItem → List Bool → List ℕ → Bool
table_chain types table name = unwrap_or (option_and_then (slice_get table) (place_of name types)) false

-- for each declared type, whether some chain from it has more than n names of composites
abbrev pub chain_round : ℕ → List TypesItem → List Bool
chain_round zero types = map (λ t. is_composite (Some t)) types
chain_round (suc n) types = map (λ t. item_goes_on (table_chain types (chain_round n types)) (Some t)) types
