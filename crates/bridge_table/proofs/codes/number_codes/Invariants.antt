use Rattle.std.proofs.Common.{◌≡◌, ◌++◌, drop}
use Rattle.bridge_rules.specs.Table.{number_codes}
use Rattle.bridge_table.proofs.codes.number_codes.Given as goal

abbrev pub invariant-loop-name : goal.invariant-loop-name
invariant-loop-name l = l.codes ++ number_codes l.fn.prim (drop l.name-index l.names) ≡ number_codes l.fn.prim l.names
