use Rattle.std.proofs.Common.{◌≡◌, List, IfOk, subst}
use Rattle.sbe_types.specs.declared.tree.TypesItem.{TypesItem}
use Rattle.type_kinds.specs.Tables.{kind_round}
use Rattle.type_kinds.proofs.resolver.kinds_of.Goals as goal

pub returns : goal.returns
returns c = subst (λ (types : List TypesItem). IfOk c.find_kinds.result (λ kinds. kinds ≡ kind_round 4 types)) c.types.ensures c.find_kinds.ensures
