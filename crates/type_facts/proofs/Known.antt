-- What is known of the declared types is what is meant.
use Rattle.std.proofs.Common.{◌≡◌, ℕ, Bool, List, length, ap, ◌∙◌}
use Rattle.sbe_types.specs.declared.tree.TypesItem.{TypesItem}
use Rattle.sbe_types.specs.declared.tree.MemberItem.{MemberItem}
use Rattle.sbe_types.specs.declared.tree.CompositeEl.{CompositeEl}
use Rattle.schema_rules.specs.declared.facts.Fact.{Fact}
use Rattle.schema_rules.specs.Facts.{member_fact, fact_through, fact_named, fact_of}
use Rattle.schema_rules.specs.Chains.{composite_has, goes_on, is_endless}
use Rattle.type_facts.specs.Tables.{table_fact, fact_round, table_chain, chain_round}
use Rattle.type_facts.proofs.TableLemmas.{told_facts, told_chains}

pub named_known : (types self : List TypesItem) (table : List Fact) (name : List ℕ) → types ≡ self → table ≡ fact_round 5 types →
    table_fact types table name ≡ fact_named self name
unfolding fact_named
named_known types self table name same made =
    ap (λ (t : List Fact). table_fact types t name) made ∙ ap (λ (f : List ℕ → Fact). f name) (told_facts 5 types)
    ∙ ap (λ (ts : List TypesItem). fact_through 5 ts name) same

pub member_known : (types self : List TypesItem) (table : List Fact) (m : MemberItem) → types ≡ self → table ≡ fact_round 5 types →
    member_fact types (table_fact types table) m ≡ fact_of self m
unfolding fact_named
member_known types self table m same made =
    ap (λ (t : List Fact). member_fact types (table_fact types t) m) made ∙ ap (λ (f : List ℕ → Fact). member_fact types f m) (told_facts 5 types)
    ∙ ap (λ (ts : List TypesItem). member_fact ts (fact_through 5 ts) m) same

pub endless_known : (types self : List TypesItem) (table : List Bool) (c : CompositeEl) → types ≡ self → table ≡ chain_round (length types) types →
    composite_has (table_chain types table) c ≡ is_endless self c
endless_known types self table c same made =
    ap (λ (t : List Bool). composite_has (table_chain types t) c) made ∙ ap (λ (f : List ℕ → Bool). composite_has f c) (told_chains (length types) types)
    ∙ ap (λ (ts : List TypesItem). composite_has (goes_on (length ts) ts) c) same
