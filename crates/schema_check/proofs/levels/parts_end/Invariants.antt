use Rattle.std.proofs.Common.{◌≡◌, drop}
use Rattle.schema_facts.specs.Ends.{parts_end}
use Rattle.schema_check.proofs.levels.parts_end.Given as goal

abbrev pub invariant-loop-part : goal.invariant-loop-part
invariant-loop-part l = parts_end l.known l.end (drop l.part-index l.parts) ≡ parts_end l.known 0 l.parts
