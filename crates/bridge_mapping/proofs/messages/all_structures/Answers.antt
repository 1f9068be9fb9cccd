use Rattle.std.proofs.Common.{◌≡◌, List, subst, ◌∙◌}
use Rattle.std.specs.Prelude.{IfOk}
use Rattle.reference_graph.specs.declared.graph.Node.{Node}
use Rattle.orchestra_map.proofs.Gathered.{graph_is}
use Rattle.bridge_mapping.proofs.messages.all_structures.Goals as goal

pub returns : goal.returns
returns c =
    subst (λ (graph : List Node). IfOk c.new-2.result (λ structures. structures ≡ graph))
    (c.in_ok-nodes.ensures
    ∙ graph_is c.args.fields.now c.args.components.now c.args.groups.now c.args.messages.now c.in_ok-ids.ids c.in_ok-ids.ensures) c.new-2.ensures
