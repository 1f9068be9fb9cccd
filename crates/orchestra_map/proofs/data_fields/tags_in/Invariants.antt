use Rattle.std.proofs.Common.{◌≡◌, ◌++◌, drop, filter_map}
use Rattle.map_members.specs.Lent.{lent_members}
use Rattle.orchestra_map.specs.DataFields.{data_pair}
use Rattle.orchestra_map.proofs.data_fields.tags_in.Given as goal

abbrev pub invariant-loop-field : goal.invariant-loop-field
invariant-loop-field l = l.tags ++ filter_map (data_pair l.fn.hidden) (lent_members (drop l.field-index l.fields)) ≡ filter_map (data_pair l.fn.hidden) (lent_members l.fields)
