use Rattle.std.proofs.Common.{◌≡◌, map, take}
use Rattle.map_members.specs.Lent.{lent_members}
use Rattle.map_rules.specs.Rules.{length_or_zero}
use Rattle.map_rules.proofs.tables.length_ids.Given as goal

abbrev pub invariant-loop-field : goal.invariant-loop-field
invariant-loop-field l = l.ids ≡ map (λ f. length_or_zero f.length_id) (lent_members (take l.field-index l.fields))
