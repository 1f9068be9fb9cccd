use Rattle.std.proofs.Common.{◌≡◌, ℕ, length, take}
use Rattle.std.specs.Prelude.{flat_map}
use Rattle.schema_facts.specs.Levels.{nodes_of}
use Rattle.layout_compile.proofs.tables.+count.Given as goal

abbrev pub invariant-count_below-loop-group : goal.invariant-count_below-loop-group
invariant-count_below-loop-group l = (t : ℕ) → l.many ≡ length (flat_map (nodes_of t) (take l.group-index l.groups))
