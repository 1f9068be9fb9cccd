use Rattle.std.proofs.Common.{◌≡◌, map, take}
use Rattle.bridge_mapping.proofs.datatypes.tags_of.Given as goal

abbrev pub invariant-loop-field : goal.invariant-loop-field
invariant-loop-field l = l.tags ≡ map (λ f. f.tag) (take l.field-index l.fields)
