use Rattle.std.proofs.Common.{◌≡◌, List, IfOk, ap, sym, subst, ◌∙◌}
use Rattle.sbe_types.specs.declared.kind.Member.{Member}
use Rattle.sbe_types.specs.declared.tree.TypesItem.{TypesItem}
use Rattle.schema_rules.specs.Kinds.{kind_named, members_of, members_named}
use Rattle.type_kinds.specs.Tables.{kind_round}
use Rattle.type_kinds.proofs.Known.{members_known}
use Rattle.type_kinds.proofs.resolver.Resolver.members_named.Goals as goal

pub returns : goal.returns
returns c =
    let first : c.types.result.now ≡ c.args.self.now = c.types.ensures ∙ c.self.view_is in
    subst (λ (ms : List Member). IfOk c.members_of.result (λ members. members ≡ ms))
    (members_known c.types-2.result.now c.args.self.now c.self.inside.kinds c.members_named-members.result.now (c.types-2.ensures ∙ c.self.view_is) (c.self.invariant ∙ ap (kind_round 4) (sym c.types-2.ensures))
    ∙ ap (λ (ts : List TypesItem). members_of ts (kind_named ts) c.members_named-members.result.now) (sym first)
    ∙ c.members_named-members.ensures
    ∙ ap (λ (ts : List TypesItem). members_named ts c.args.name.now) first)
    c.members_of.ensures
