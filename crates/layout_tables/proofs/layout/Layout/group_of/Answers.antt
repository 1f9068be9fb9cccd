use Rattle.std.proofs.Common.{◌<◌, ◌+◌, length, arith, sym, subst}
use Rattle.std.specs.Prelude.{flat_map}
use Rattle.schema_facts.specs.Levels.{all_nodes, nodes_of, Stands}
use Rattle.layout_tables.proofs.Finds.{template_within, below_root}
use Rattle.layout_tables.proofs.GroupWalk.{dim_within, behind_root}
use Rattle.layout_tables.proofs.layout.Layout.group_of.Goals as goal

pub row-requires : goal.row-requires
row-requires c = dim_within c.args.self.now c.args.n c.requires

pub message-root-requires : goal.message-root-requires
message-root-requires c = template_within c.args.self.now c.args.n c.row.result.now c.row.ensures

pub root-first-requires : goal.root-first-requires
root-first-requires c = template_within c.args.self.now c.args.n c.row.result.now c.row.ensures

pub overflow_add-first : goal.overflow_add-first
overflow_add-first c =
    let after = behind_root c.args.self.now c.args.n c.root-first.result c.row.result.now c.message-root.result.now c.requires c.row.ensures c.message-root.ensures c.root-first.ensures in
    omega (arith, after)

pub group_in-requires : goal.group_in-requires
group_in-requires c =
    let after = behind_root c.args.self.now c.args.n c.root-first.result c.row.result.now c.message-root.result.now c.requires c.row.ensures c.message-root.ensures c.root-first.ensures in
    let below = below_root c.args.self.now c.args.n c.root-first.result c.row.result.now c.message-root.result.now c.row.ensures c.message-root.ensures c.root-first.ensures after in
    record {
      stands = subst (λ gs. Stands (all_nodes c.args.self.now) (c.root-first.result + 1) (flat_map (nodes_of c.row.result.now.template) gs)) (sym c.as_slice.ensures) below.stands;
      low = below.low;
      high = subst (λ gs. c.args.n < c.root-first.result + 1 + length (flat_map (nodes_of c.row.result.now.template) gs)) (sym c.as_slice.ensures) below.high;
    }
