use Rattle.std.proofs.Common.{◌+◌, ◌-◌, ◌*◌, take, drop, ap, ◌∙◌}
use Rattle.sbe_types.specs.Numbers.{number_of, prim_width}
use Rattle.field_values.specs.Reports.{seen_element}
use Rattle.field_values.proofs.Shown.{cut}
use Rattle.field_values.proofs.elements.element_at.Goals as goal

pub returns : goal.returns
returns c =
    let w = prim_width c.args.leaf.now.prim in
    c.element_shown.ensures
    ∙ ap (λ k. seen_element c.args.leaf.now (number_of c.args.order c.args.leaf.now.prim (take (k * c.args.j + k - k * c.args.j) (drop (k * c.args.j) c.args.bytes.now)))) c.width-wide.ensures.value
    ∙ ap (λ k. seen_element c.args.leaf.now (number_of c.args.order c.args.leaf.now.prim (take k (drop (w * c.args.j) c.args.bytes.now)))) (cut (w * c.args.j) w)
