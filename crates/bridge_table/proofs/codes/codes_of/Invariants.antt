use Rattle.std.proofs.Common.{◌≡◌, ◌++◌, drop}
use Rattle.bridge_rules.specs.Table.{codes_of}
use Rattle.bridge_table.specs.Codes.{named_codes}
use Rattle.bridge_table.proofs.codes.codes_of.Given as goal

abbrev pub invariant-loop-name : goal.invariant-loop-name
invariant-loop-name l = l.codes ++ codes_of l.fn.prim (named_codes l.table) (drop l.name-index l.names) ≡ codes_of l.fn.prim (named_codes l.table) l.names
