use Rattle.std.proofs.Common.{sym, subst}
use Rattle.json_data.specs.Trees.{data_of}
use Rattle.line_values.specs.Refusals.{Gives}
use Rattle.line_values.proofs.Opening.{composite_opens}
use Rattle.line_values.proofs.kinds.+kind.Goals as goal

pub read_composite-returns : goal.read_composite-returns
read_composite-returns t c = subst (Gives c.read_object.result) (sym (composite_opens c.args.members.now (data_of c.args.found.now))) c.read_object.ensures
