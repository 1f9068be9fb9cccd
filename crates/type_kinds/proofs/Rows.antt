-- The kinds of a composite's members, as a row and as a list.
use Rattle.std.proofs.Common.{◌≡◌, ℕ, List, ◌∷◌, refl, ap, ◌∙◌}
use Rattle.sbe_types.specs.declared.kind.Kind.{Kind, Comp}
use Rattle.sbe_types.specs.declared.kind.Member.{Member}
use Rattle.sbe_types.specs.declared.tree.CompositeEl.{CompositeEl}
use Rattle.sbe_types.specs.declared.tree.MemberItem.{Row_of-MemberItem, end_of-MemberItem, more_of-MemberItem, items-the_row-MemberItem, items_hidden-the_row-MemberItem-0}
use Rattle.sbe_types.specs.declared.tree.MemberItem as part
use Rattle.sbe_types.specs.declared.tree.TypesItem.{TypesItem}
use Rattle.schema_rules.specs.Kinds.{member_name, member_offset, member_kind, row_members, members_of}
use Rattle.type_facts.proofs.Rows.{row_in}

kind_row : (types : List TypesItem) (kinds : List ℕ → Kind) (n : _) (row : Row_of-MemberItem n) → row_members types kinds row ≡ members_of types kinds (items-the_row-MemberItem n row)
kind_row types kinds n end_of-MemberItem = refl
kind_row types kinds n (more_of-MemberItem m rest) =
    ap (λ (ms : List Member). record { name = member_name m; offset = member_offset m; kind = member_kind types kinds m } ∷ ms) (kind_row types kinds _ rest)

pub kind_composite : (types : List TypesItem) (kinds : List ℕ → Kind) (c : CompositeEl) → member_kind types kinds (part.Composite c) ≡ Comp (members_of types kinds c.children)
kind_composite types kinds c =
    let row = row_in (part.Composite c) in
    ap (λ (ms : List Member). Comp ms) (kind_row types kinds row.0 row.1 ∙ ap (members_of types kinds) (items_hidden-the_row-MemberItem-0 c.children))
