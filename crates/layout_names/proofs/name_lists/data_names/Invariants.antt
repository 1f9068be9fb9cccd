use Rattle.std.proofs.Common.{◌≡◌, take}
use Rattle.layout_names.specs.Names.{data_names}
use Rattle.layout_names.proofs.name_lists.data_names.Given as goal

abbrev pub invariant-loop-part : goal.invariant-loop-part
invariant-loop-part l = l.names ≡ data_names (take l.part-index l.parts)
