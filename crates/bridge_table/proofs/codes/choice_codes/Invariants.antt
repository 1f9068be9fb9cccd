use Rattle.std.proofs.Common.{◌≡◌, ◌++◌, drop}
use Rattle.bridge_rules.specs.Table.{choice_codes}
use Rattle.bridge_table.specs.Codes.{named_codes}
use Rattle.bridge_table.proofs.codes.choice_codes.Given as goal

abbrev pub invariant-loop-name : goal.invariant-loop-name
invariant-loop-name l = l.codes ++ choice_codes (named_codes l.table) (drop l.name-index l.names) ≡ choice_codes (named_codes l.table) l.names
