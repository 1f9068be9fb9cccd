use Rattle.std.proofs.Common.{◌≤◌, ◌<◌, ◌+◌, ◌-◌, length, drop}
use Rattle.std.specs.Prelude.{flat_map}
use Rattle.schema_facts.specs.Levels.{all_nodes, nodes_of, Stands}
use Rattle.layout_tables.proofs.layout.+find.Given as goal

abbrev pub decreases-group_in : goal.decreases-group_in
decreases-group_in l = l.n - l.first

abbrev pub invariant-loop-group : goal.invariant-loop-group
invariant-loop-group l = record {
  later : l.first ≤ l.child;
  low : l.child ≤ l.n;
  high : l.n < l.child + length (flat_map (nodes_of l.template) (drop l.group-index l.groups));
  stands : Stands (all_nodes l.layout) l.child (flat_map (nodes_of l.template) (drop l.group-index l.groups));
}
