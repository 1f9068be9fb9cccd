use Rattle.std.proofs.Common.{subst, sym, ◌+◌}
use Rattle.reference_graph.specs.Learning.{Learned, Passes}
use Rattle.reference_graph.proofs.Rounds.{learned_one, learned_none}
use Rattle.reference_graph.proofs.learning.learn.Goals as goal
use Rattle.reference_graph.proofs.learning.learn.Goals.{then-learn_at, else-learn_at}

pub loop-i-preserved : goal.loop-i-preserved
loop-i-preserved c = elim c.if-learn_at.branch [
  | then-learn_at w ↦
      subst (Passes c.args.nodes.now c.args.extents.now.items (c.loop-i.i + 1) c.learn_at.new.extents.items) (sym w.learned-is)
      (learned_one c.args.nodes.now c.args.extents.now.items c.loop-i.extents.items c.learn_at.new.extents.items c.loop-i.i c.loop-i.learned c.loop-i.invariant
      (subst (Learned c.args.nodes.now c.loop-i.i c.loop-i.extents.items c.learn_at.new.extents.items) w.if-learn_at.true c.learn_at.ensures))
  | else-learn_at w ↦
      subst (Passes c.args.nodes.now c.args.extents.now.items (c.loop-i.i + 1) c.learn_at.new.extents.items) (sym w.learned-is)
      (learned_none c.args.nodes.now c.args.extents.now.items c.loop-i.extents.items c.learn_at.new.extents.items c.loop-i.i c.loop-i.learned c.loop-i.invariant
      (subst (Learned c.args.nodes.now c.loop-i.i c.loop-i.extents.items c.learn_at.new.extents.items) w.if-learn_at.false c.learn_at.ensures))
]
