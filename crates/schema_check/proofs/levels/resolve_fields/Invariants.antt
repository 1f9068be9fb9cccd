use Rattle.std.proofs.Common.{◌≡◌, ◌++◌, drop}
use Rattle.schema_rules.specs.Resolved.{list_fields}
use Rattle.schema_check.proofs.levels.resolve_fields.Given as goal

abbrev pub invariant-loop-part : goal.invariant-loop-part
invariant-loop-part l =
    l.fields ++ list_fields (record { types = l.resolver; since = l.since }) (drop l.part-index l.parts) ≡ list_fields (record { types = l.resolver; since = l.since }) l.parts
