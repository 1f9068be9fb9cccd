use Rattle.std.proofs.Common.{Err, sym, subst, ap}
use Rattle.json_data.specs.Trees.{data_of}
use Rattle.line_values.specs.Refusals.{Gives}
use Rattle.line_reading.specs.Lines.{found_in}
use Rattle.line_reading.proofs.Wholes.{value_found, no_value}
use Rattle.line_reading.proofs.message.read_line.Goals as goal

pub returns-in-Ok : goal.returns-in-Ok
returns-in-Ok c =
    let found = value_found c.args.line.now (data_of c.in-Ok.found) c.in-Ok.ensures.ok.0 c.in-Ok.ensures.ok.1 in
    subst (Gives c.read_tree.result) (sym (ap (found_in c.args.schema.now) found)) c.read_tree.ensures

pub returns-in-Err-NotJson : goal.returns-in-Err-NotJson
returns-in-Err-NotJson c = subst (Gives c.refuse.result) (sym (ap (found_in c.args.schema.now) (no_value c.args.line.now (c.in-Err-NotJson.ensures.err (ap Err c.in-Err-NotJson.field-0-is))))) c.refuse.ensures
