use Rattle.std.proofs.Common.{take}
use Rattle.std.specs.BTreeMap.{get}
use Rattle.std.specs.Ordering.{nat_cmp}
use Rattle.layout_tables.specs.Tables.{AreIds}
use Rattle.layout_compile.proofs.templates.ids_of.Given as goal

abbrev pub invariant-loop-i : goal.invariant-loop-i
invariant-loop-i l = AreIds (take l.i l.messages) (get nat_cmp l.ids)
