use Rattle.std.proofs.Common.{◌≡◌, ◌++◌, drop}
use Rattle.schema_rules.specs.Resolved.{list_data}
use Rattle.schema_check.proofs.levels.resolve_all_data.Given as goal

abbrev pub invariant-loop-part : goal.invariant-loop-part
invariant-loop-part l =
    l.all ++ list_data (record { types = l.resolver; since = l.since }) (drop l.part-index l.parts) ≡ list_data (record { types = l.resolver; since = l.since }) l.parts
