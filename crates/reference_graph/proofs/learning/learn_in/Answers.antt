use Rattle.std.proofs.Common.{subst, sym, Vec, Global, Option}
use Rattle.reference_graph.specs.declared.extent.Extent.{Extent}
use Rattle.reference_graph.specs.Learning.{Keeps}
use Rattle.reference_graph.proofs.Rounds.{kept_one}
use Rattle.reference_graph.proofs.learning.learn_in.Goals as goal
use Rattle.reference_graph.proofs.learning.learn_in.Goals.{then-i-nodes, else-i-nodes}

pub loop-i-preserved : goal.loop-i-preserved
loop-i-preserved c = elim c.if-i-nodes.branch [
  | then-i-nodes w ↦
      subst (λ (t : Vec (Option Extent) Global). Keeps c.args.nodes.now c.args.extents.now.items t.items) (sym w.extents-is)
      (kept_one c.args.nodes.now c.args.extents.now.items c.loop-i.extents.items w.learn_at-learned.new.extents.items _ w.learn_at-learned.result c.loop-i.invariant w.learn_at-learned.ensures)
  | else-i-nodes w ↦
      subst (λ (t : Vec (Option Extent) Global). Keeps c.args.nodes.now c.args.extents.now.items t.items) (sym w.extents-is) c.loop-i.invariant
]
