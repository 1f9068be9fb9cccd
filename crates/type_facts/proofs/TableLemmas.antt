-- What the tables tell is what is meant.
use Rattle.std.proofs.Common.{◌≡◌, ℕ, zero, suc, Bool, true, false, List, map, Option, Some, None, length, ◌+◌, ◌-◌, ◌≤◌, arith, refl, ap, sym, ◌∙◌}
use Rattle.std.specs.Prelude.{slice_get, unwrap_or, option_map, option_and_then}
use Rattle.std.specs.Bool.{Decides}
use Rattle.std.proofs.lemmas.Option.{slice_get-map}
use mathlib.Core.Bool.{beq}
use Rattle.sbe_types.specs.declared.tree.TypesItem.{TypesItem}
use Rattle.schema_rules.specs.declared.facts.Fact.{Fact}
use Rattle.schema_rules.specs.Names.{place_of, declared_as}
use Rattle.schema_rules.specs.Facts.{no_fact, item_fact, declared_or_plain, fact_through}
use Rattle.schema_rules.specs.Chains.{is_composite, item_goes_on, goes_on}
use Rattle.type_facts.specs.Tables.{table_fact, fact_round, table_chain, chain_round}

pub mapped : {X Y : Type 0} (f : X → Y) (xs : List X) (o : Option ℕ) → option_and_then (slice_get (map f xs)) o ≡ option_map f (option_and_then (slice_get xs) o)
mapped f xs None = refl
mapped f xs (Some i) = slice_get-map f xs i

-- ---- facts

pub told_facts : (n : ℕ) (types : List TypesItem) → table_fact types (fact_round n types) ≡ fact_through n types
told_facts zero types = λ j name. declared_or_plain (mapped (λ (t : TypesItem). no_fact) types (place_of name types) j) name
told_facts (suc n) types =
    (λ j name. declared_or_plain (mapped (item_fact types (table_fact types (fact_round n types))) types (place_of name types) j) name)
    ∙ ap {B = List ℕ → Fact} (λ (facts : List ℕ → Fact) (name : List ℕ). declared_or_plain (option_map (item_fact types facts) (declared_as types name)) name) (told_facts n types)

-- ---- chains

begun : (o : Option TypesItem) → unwrap_or (option_map (λ (t : TypesItem). is_composite (Some t)) o) false ≡ is_composite o
begun None = refl
begun (Some t) = refl

went_on : (goes : List ℕ → Bool) (o : Option TypesItem) → unwrap_or (option_map (λ (t : TypesItem). item_goes_on goes (Some t)) o) false ≡ item_goes_on goes o
went_on goes None = refl
went_on goes (Some t) = refl

pub told_chains : (n : ℕ) (types : List TypesItem) → table_chain types (chain_round n types) ≡ goes_on n types
told_chains zero types = λ j name. (ap (λ (o : Option Bool). unwrap_or o false) (mapped (λ (t : TypesItem). is_composite (Some t)) types (place_of name types)) ∙ begun (declared_as types name)) j
told_chains (suc n) types =
    (λ j name. (ap (λ (o : Option Bool). unwrap_or o false) (mapped (λ (t : TypesItem). item_goes_on (table_chain types (chain_round n types)) (Some t)) types (place_of name types))
    ∙ went_on (table_chain types (chain_round n types)) (declared_as types name)) j)
    ∙ ap {B = List ℕ → Bool} (λ (goes : List ℕ → Bool) (name : List ℕ). item_goes_on goes (declared_as types name)) (told_chains n types)

-- where a round changes nothing, no later one does
abbrev next_chain : List TypesItem → List Bool → List Bool
next_chain types table = map (λ t. item_goes_on (table_chain types table) (Some t)) types

stands : (j k : ℕ) (types : List TypesItem) → chain_round (suc k) types ≡ chain_round k types → chain_round (j + k) types ≡ chain_round k types
stands zero k types h = let e : 0 + k ≡ k = omega arith in ap (λ n. chain_round n types) e
stands (suc j) k types h =
    let e : suc j + k ≡ suc (j + k) = omega arith in
    ap (λ n. chain_round n types) e ∙ ap (next_chain types) (stands j k types h) ∙ h

pub last_round : (n k : ℕ) (types : List TypesItem) (table next : List Bool) → k ≤ n → table ≡ chain_round k types →
    next ≡ map (λ t. item_goes_on (table_chain types table) (Some t)) types → next ≡ table → table ≡ chain_round n types
last_round n k types table next below is made same =
    let one : chain_round (suc k) types ≡ chain_round k types = ap (next_chain types) (sym is) ∙ sym made ∙ same ∙ is in
    let e : n - k + k ≡ n = omega arith in
    is ∙ sym (stands (n - k) k types one) ∙ ap (λ m. chain_round m types) e

pub flags_decided : (a b : Bool) → Decides (beq a b) (a ≡ b)
flags_decided true true = (λ h. refl, λ h. refl)
flags_decided true false = (λ h. cc, λ h. cc)
flags_decided false true = (λ h. cc, λ h. cc)
flags_decided false false = (λ h. refl, λ h. refl)
