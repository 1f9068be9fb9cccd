use Rattle.std.proofs.Common.{◌≡◌, drop}
use Rattle.std.specs.List.{list_any}
use Rattle.map_members.specs.Lent.{lent_members}
use Rattle.orchestra_map.specs.DataFields.{hides_data}
use Rattle.bridge_mapping.proofs.tags.is_data_hidden.Given as goal

abbrev pub invariant-loop-code_set : goal.invariant-loop-code_set
invariant-loop-code_set l = list_any hides_data (lent_members (drop l.code_set-index l.code_sets)) ≡ list_any hides_data (lent_members l.code_sets)
