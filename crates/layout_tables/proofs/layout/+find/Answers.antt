use Rattle.std.proofs.Common.{◌≡◌, ◌+◌, length, drop, arith, ap, sym, subst}
use Rattle.std.specs.Prelude.{flat_map, slice_get, Some}
use Rattle.std.proofs.lemmas.Option.{slice_get_within}
use Rattle.schema_facts.specs.Levels.{all_nodes, nodes_of, group_node, Stands}
use Rattle.layout_tables.proofs.Finds.{child_at, child_end, left_is, none_left}
use Rattle.layout_tables.proofs.layout.+find.Goals as goal

pub returns-then-n-child : goal.returns-then-n-child
returns-then-n-child t c =
    let here = child_at c.args.layout.now c.args.template c.loop-group.child c.args.groups.now c.loop-group.group-index c.group-item.result (omega arith) c.group-item.is c.loop-group.invariant.stands in
    let same : c.args.n ≡ c.loop-group.child = omega arith in
    subst (λ k. slice_get (all_nodes c.args.layout.now) k ≡ Some (group_node c.args.template c.group-item.result)) (sym same) here.at

pub row-requires : goal.row-requires
row-requires t c =
    let here = child_at c.args.layout.now c.args.template c.loop-group.child c.args.groups.now c.loop-group.group-index c.group-item.result (omega arith) c.group-item.is c.loop-group.invariant.stands in
    slice_get_within (all_nodes c.args.layout.now) c.loop-group.child _ here.at

pub group_in-requires : goal.group_in-requires
group_in-requires t c =
    let here = child_at c.args.layout.now c.args.template c.loop-group.child c.args.groups.now c.loop-group.group-index c.group-item.result (omega arith) c.group-item.is c.loop-group.invariant.stands in
    let end = child_end c.args.layout.now c.args.template c.loop-group.child c.group-item.result c.row.result.now here.at c.row.ensures in
    let long = ap (λ gs. length (flat_map (nodes_of c.args.template) gs)) c.as_slice.ensures in (
      omega arith,
      (
        subst (λ gs. Stands (all_nodes c.args.layout.now) (c.loop-group.child + 1) (flat_map (nodes_of c.args.template) gs)) (sym c.as_slice.ensures) here.below,
        (omega arith, omega (arith, end, here.many, long)),
      ),
    )

pub unreachable-requires : goal.unreachable-requires
unreachable-requires t c =
    let none = none_left c.args.template c.args.groups.now c.loop-group.group-index (omega arith) in
    omega (arith, none, c.loop-group.invariant.low, c.loop-group.invariant.high)

pub loop-group-preserved : goal.loop-group-preserved
loop-group-preserved t c =
    let schema = c.args.layout.now in
    let g = c.group-item.result in
    let i = c.loop-group.group-index in
    let here = child_at schema c.args.template c.loop-group.child c.args.groups.now i g (omega arith) c.group-item.is c.loop-group.invariant.stands in
    let end = child_end schema c.args.template c.loop-group.child g c.row.result.now here.at c.row.ensures in
    let left = left_is c.args.template c.args.groups.now i g (omega arith) c.group-item.is in
    record {
      later = omega (arith, end, c.loop-group.invariant.later);
      low = omega arith;
      high = omega (arith, end, left, c.loop-group.invariant.high);
      stands = subst (λ k. Stands (all_nodes schema) k (flat_map (nodes_of c.args.template) (drop (i + 1) c.args.groups.now))) (sym end) here.after;
    }
