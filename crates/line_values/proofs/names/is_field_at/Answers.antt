use Rattle.std.proofs.Common.{sym, ◌∙◌, arith}
use Rattle.std.proofs.lemmas.Slice.Eq.{bytes_eq-Decides}
use Rattle.line_values.proofs.NameSteps.{field_there}
use Rattle.line_values.proofs.names.is_field_at.Goals as goal

pub returns-then-i-fields : goal.returns-then-i-fields
returns-then-i-fields c = λ same.
    field_there c.args.key.now c.args.fields.now c.args.i c.index-fields-i.result (omega arith) ((bytes_eq-Decides c.args.key.now c.as_slice.result.now).0 (sym c.eq.ensures ∙ same) ∙ c.as_slice.ensures)
