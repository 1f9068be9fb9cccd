-- What the table of kinds tells is what is meant.
use Rattle.std.proofs.Common.{◌≡◌, ℕ, zero, suc, List, ap, ◌∙◌}
use Rattle.std.specs.Prelude.{option_map}
use Rattle.sbe_types.specs.declared.kind.Kind.{Kind}
use Rattle.sbe_types.specs.declared.tree.TypesItem.{TypesItem}
use Rattle.schema_rules.specs.Kinds.{as_declared, unresolved, item_kind, kind_or_plain, kind_through}
use Rattle.schema_rules.specs.Names.{place_of, declared_as}
use Rattle.type_facts.proofs.TableLemmas.{mapped}
use Rattle.type_kinds.specs.Tables.{table_kind, kind_round}

pub told_kinds : (n : ℕ) (types : List TypesItem) → table_kind types (kind_round n types) ≡ kind_through n types
told_kinds zero types = λ j name. kind_or_plain types (mapped (λ (t : TypesItem). unresolved) types (place_of name types) j) name
told_kinds (suc n) types =
    (λ j name. kind_or_plain types (mapped (item_kind types (table_kind types (kind_round n types)) as_declared) types (place_of name types) j) name)
    ∙ ap {B = List ℕ → Kind} (λ (kinds : List ℕ → Kind) (name : List ℕ). kind_or_plain types (option_map (item_kind types kinds as_declared) (declared_as types name)) name) (told_kinds n types)
