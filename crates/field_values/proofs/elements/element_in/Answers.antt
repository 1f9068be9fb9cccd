use Rattle.std.proofs.Common.{◌≤◌, ◌+◌, ◌*◌, length, take, drop, subst, sym, ap, ◌∙◌, rules}
use Rattle.std.specs.Prelude.{Some}
use Rattle.std.specs.Option.{IsSome}
use Rattle.sbe_types.specs.declared.kind.Leaf.{Leaf}
use Rattle.sbe_types.specs.Numbers.{number_of, prim_width}
use Rattle.field_values.specs.Reports.{leaf_in, element_of, seen_element}
use Rattle.field_values.proofs.Shown.{element_told, same_some}
use Rattle.field_values.proofs.elements.element_in.Goals as goal

pub leaf_of-requires : goal.leaf_of-requires
leaf_of-requires c =
    let told = element_told c.args.order c.requires.0 c.args.kind.now c.requires.1 c.args.bytes.now c.args.j c.requires.2 c.requires.3 in
    subst IsSome (sym told.1) (search rules)

pub element_at-requires : goal.element_at-requires
element_at-requires c =
    let told = element_told c.args.order c.requires.0 c.args.kind.now c.requires.1 c.args.bytes.now c.args.j c.requires.2 c.requires.3 in
    subst (λ (l : Leaf). prim_width l.prim * c.args.j + prim_width l.prim ≤ length c.args.bytes.now) (same_some (leaf_in c.args.kind.now) told.0 c.leaf_of.result.now told.1 c.leaf_of.ensures) told.2.0

pub returns : goal.returns
returns c = λ known v h more.
    let told = element_told c.args.order known c.args.kind.now v c.args.bytes.now c.args.j h more in
    told.2.1
    ∙ ap (λ (l : Leaf). Some (element_of (seen_element l (number_of c.args.order l.prim (take (prim_width l.prim) (drop (prim_width l.prim * c.args.j) c.args.bytes.now)))))) (same_some (leaf_in c.args.kind.now) told.0 c.leaf_of.result.now told.1 c.leaf_of.ensures)
    ∙ ap (λ o. Some (element_of o)) (sym c.element_at.ensures)
