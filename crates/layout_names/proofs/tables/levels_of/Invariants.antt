use Rattle.std.proofs.Common.{◌≡◌, take}
use Rattle.schema_facts.specs.Levels.{all_nodes}
use Rattle.layout_names.specs.Tables.{parts_names}
use Rattle.layout_names.proofs.tables.levels_of.Given as goal

abbrev pub invariant-loop-n : goal.invariant-loop-n
invariant-loop-n l = l.levels.items ≡ parts_names (take l.n (all_nodes l.layout))
