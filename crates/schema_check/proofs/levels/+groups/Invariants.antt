use Rattle.std.proofs.Common.{◌≡◌, ◌++◌, drop}
use Rattle.schema_rules.specs.Resolved.{list_groups}
use Rattle.schema_check.specs.Reach.{AreShortParts}
use Rattle.schema_check.proofs.levels.+groups.Given as goal

abbrev pub invariant-resolve_groups-loop-part : goal.invariant-resolve_groups-loop-part
invariant-resolve_groups-loop-part l = record {
  short : AreShortParts l.resolver (drop l.part-index l.parts);
  made : l.groups ++ list_groups (record { types = l.resolver; since = l.since }) (drop l.part-index l.parts) ≡ list_groups (record { types = l.resolver; since = l.since }) l.parts;
}
