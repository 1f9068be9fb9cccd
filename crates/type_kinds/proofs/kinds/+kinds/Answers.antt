use Rattle.std.proofs.Common.{◌≡◌, List, IfOk, ap, sym, subst, ◌∙◌}
use Rattle.sbe_types.specs.declared.kind.Kind.{Kind, Comp}
use Rattle.sbe_types.specs.declared.tree.MemberItem.{MemberItem}
use Rattle.schema_rules.specs.Kinds.{member_kind, members_of}
use Rattle.type_kinds.specs.Tables.{table_kind}
use Rattle.type_kinds.proofs.Rows.{kind_composite}
use Rattle.type_kinds.proofs.kinds.+kinds.Goals as goal

pub member_kind-returns-in-Composite : goal.member_kind-returns-in-Composite
member_kind-returns-in-Composite t c =
    subst (λ (k : Kind). IfOk c.composite_of.result (λ made. made ≡ k))
    (ap (λ (ms : List MemberItem). Comp (members_of c.args.types.now (table_kind c.args.types.now c.args.table.now) ms)) c.as_slice-in-Composite.ensures
    ∙ sym (kind_composite c.args.types.now (table_kind c.args.types.now c.args.table.now) c.in-Composite.c)
    ∙ ap (member_kind c.args.types.now (table_kind c.args.types.now c.args.table.now)) (sym c.in-Composite.is))
    c.composite_of.ensures
