use Rattle.std.proofs.Common.{◌≡◌, IfOk, ap, sym, subst, ◌∙◌}
use Rattle.sbe_types.specs.declared.kind.Kind.{Kind}
use Rattle.type_kinds.specs.Tables.{kind_round}
use Rattle.type_kinds.proofs.Known.{field_known}
use Rattle.type_kinds.proofs.resolver.Resolver.field_kind.Goals as goal

pub returns : goal.returns
returns c =
    subst (λ (k : Kind). IfOk c.field_kind.result (λ kind. kind ≡ k))
    (field_known c.types.result.now c.args.self.now c.self.inside.kinds c.args.field.now (c.types.ensures ∙ c.self.view_is) (c.self.invariant ∙ ap (kind_round 4) (sym c.types.ensures)))
    c.field_kind.ensures
