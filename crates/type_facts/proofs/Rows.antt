-- A composite's members as a row and as a list.
use Rattle.std.proofs.Common.{◌≡◌, ℕ, Bool, List, refl, ap, ◌∙◌}
use mathlib.Core.Former.{Count}
use Rattle.std.specs.Prelude.{◌||◌}
use Rattle.std.specs.List.{list_any}
use Rattle.schema_rules.specs.Chains.{member_has, row_has}
use Rattle.sbe_types.specs.declared.tree.MemberItem.{MemberItem, Row_of-MemberItem, end_of-MemberItem, more_of-MemberItem, items-the_row-MemberItem, items_hidden-the_row-MemberItem-0}
use Rattle.sbe_types.specs.declared.tree.MemberItem as part
use Rattle.sbe_types.specs.declared.tree.CompositeEl.{CompositeEl}
use Rattle.sbe_types.specs.declared.tree.TypesItem.{TypesItem}
use Rattle.schema_rules.specs.declared.facts.Fact.{Fact}
use Rattle.schema_rules.specs.Kinds.{member_offset}
use Rattle.schema_rules.specs.Facts.{no_members, with_member, member_fact, row_fact, members_fact}

abbrev pub row_in : MemberItem → (n : Count) × Row_of-MemberItem n
row_in (part.Composite' _ _ _ _ row) = (_, row)
row_in _ = (_, end_of-MemberItem)

fact_row : (types : List TypesItem) (facts : List ℕ → Fact) (all : Fact) (n : _) (row : Row_of-MemberItem n) →
    row_fact types facts all row ≡ members_fact types facts all (items-the_row-MemberItem n row)
fact_row types facts all n end_of-MemberItem = refl
fact_row types facts all n (more_of-MemberItem m rest) = fact_row types facts (with_member all (member_offset m) (member_fact types facts m)) _ rest

pub composite_fact : (types : List TypesItem) (facts : List ℕ → Fact) (c : CompositeEl) →
    member_fact types facts (part.Composite c) ≡ members_fact types facts no_members c.children
composite_fact types facts c =
    let row = row_in (part.Composite c) in
    fact_row types facts no_members row.0 row.1 ∙ ap (members_fact types facts no_members) (items_hidden-the_row-MemberItem-0 c.children)

chain_row : (name_is : List ℕ → Bool) (n : _) (row : Row_of-MemberItem n) → row_has name_is row ≡ list_any (member_has name_is) (items-the_row-MemberItem n row)
chain_row name_is n end_of-MemberItem = refl
chain_row name_is n (more_of-MemberItem m rest) = ap (λ b. member_has name_is m || b) (chain_row name_is _ rest)

pub chain_composite : (name_is : List ℕ → Bool) (c : CompositeEl) → member_has name_is (part.Composite c) ≡ list_any (member_has name_is) c.children
chain_composite name_is c =
    let row = row_in (part.Composite c) in
    chain_row name_is row.0 row.1 ∙ ap (list_any (member_has name_is)) (items_hidden-the_row-MemberItem-0 c.children)
