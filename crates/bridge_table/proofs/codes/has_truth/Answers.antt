use Rattle.std.proofs.Common.{sym, ◌∙◌}
use Rattle.bridge_table.proofs.Truths.{none_same, some_same}
use Rattle.bridge_table.proofs.codes.has_truth.Goals as goal

pub returns-in-Some : goal.returns-in-Some
returns-in-Some c = c.has_byte.ensures ∙ some_same c.args.other.now c.in-Some.byte (sym c.truth_in.ensures ∙ c.in-Some.is) c.args.list.now

pub returns-in-None : goal.returns-in-None
returns-in-None c = sym (none_same c.args.other.now (sym c.truth_in.ensures ∙ c.in-None.is) c.args.list.now)
