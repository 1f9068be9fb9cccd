use Rattle.std.proofs.Common.{◌≡◌, take}
use Rattle.layout_names.specs.Names.{level_names}
use Rattle.layout_names.proofs.name_lists.level_names.Given as goal

abbrev pub invariant-loop-level : goal.invariant-loop-level
invariant-loop-level l = l.names ≡ level_names (take l.level-index l.levels)
