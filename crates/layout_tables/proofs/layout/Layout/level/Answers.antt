use Rattle.std.proofs.Common.{◌<◌, ◌+◌, length, arith, sym, subst}
use Rattle.std.specs.Prelude.{flat_map}
use Rattle.schema_facts.specs.Levels.{all_nodes, nodes_of, Stands}
use Rattle.layout_tables.proofs.Finds.{template_within, root_found, below_root}
use Rattle.layout_tables.proofs.layout.Layout.level.Goals as goal

pub message-root-requires : goal.message-root-requires
message-root-requires c = template_within c.args.self.now c.args.n c.row.result.now c.row.ensures

pub root-first-requires : goal.root-first-requires
root-first-requires c = template_within c.args.self.now c.args.n c.row.result.now c.row.ensures

pub group_in-requires-clause-stands : goal.group_in-requires-clause-stands
group_in-requires-clause-stands c =
    let below = below_root c.args.self.now c.args.n c.root-first.result c.row.result.now c.message-root.result.now c.row.ensures c.message-root.ensures c.root-first.ensures (omega arith) in
    subst (λ gs. Stands (all_nodes c.args.self.now) (c.root-first.result + 1) (flat_map (nodes_of c.row.result.now.template) gs)) (sym c.as_slice.ensures) below.stands

pub group_in-requires-clause-high : goal.group_in-requires-clause-high
group_in-requires-clause-high c =
    let below = below_root c.args.self.now c.args.n c.root-first.result c.row.result.now c.message-root.result.now c.row.ensures c.message-root.ensures c.root-first.ensures (omega arith) in
    subst (λ gs. c.args.n < c.root-first.result + 1 + length (flat_map (nodes_of c.row.result.now.template) gs)) (sym c.as_slice.ensures) below.high

pub returns-then-n-first : goal.returns-then-n-first
returns-then-n-first c = root_found c.args.self.now c.args.n c.root-first.result c.row.result.now c.message-root.result.now c.row.ensures c.message-root.ensures c.root-first.ensures (omega arith)
