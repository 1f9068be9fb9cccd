use Rattle.std.proofs.Common.{◌≡◌, drop}
use Rattle.schema_rules.specs.PartRules.{no_part, parts_check}
use Rattle.schema_check.proofs.parts.+parts.Given as goal

abbrev pub invariant-judge_parts-loop-part : goal.invariant-judge_parts-loop-part
invariant-judge_parts-loop-part l =
    parts_check (record { types = l.known; level = l.level }) (record { names = l.names; all = l.all }) (drop l.part-index l.parts)
    ≡ parts_check (record { types = l.known; level = l.level }) no_part l.parts
