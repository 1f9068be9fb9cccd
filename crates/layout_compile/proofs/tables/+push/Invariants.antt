use Rattle.std.proofs.Common.{◌+◌, ◌*◌, length, take, drop, None}
use Rattle.std.specs.Prelude.{flat_map}
use Rattle.schema_facts.specs.Levels.{nodes, nodes_of}
use Rattle.layout_compile.specs.inner.Grown.{Grown, AreOrdered}
use Rattle.layout_compile.proofs.tables.+push.Given as goal

abbrev pub decreases-push_level : goal.decreases-push_level
decreases-push_level l = 2 * length (nodes l.around.template None l.level.now)

abbrev pub decreases-push_below : goal.decreases-push_below
decreases-push_below l = 2 * length (flat_map (nodes_of l.template) l.groups.now) + 1

abbrev pub invariant-push_below-loop-group : goal.invariant-push_below-loop-group
invariant-push_below-loop-group l = record {
  grown : Grown l.fn.levels.items l.levels.items (flat_map (nodes_of l.template) (take l.group-index l.groups));
  measured : AreOrdered (flat_map (nodes_of l.template) (drop l.group-index l.groups));
}
