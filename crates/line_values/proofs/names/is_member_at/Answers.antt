use Rattle.std.proofs.Common.{sym, ◌∙◌, arith}
use Rattle.std.proofs.lemmas.Slice.Eq.{bytes_eq-Decides}
use Rattle.line_values.proofs.NameSteps.{member_there}
use Rattle.line_values.proofs.names.is_member_at.Goals as goal

pub returns-then-i-members : goal.returns-then-i-members
returns-then-i-members c = λ same.
    member_there c.args.key.now c.args.members.now c.args.i c.index-members-i.result (omega arith) ((bytes_eq-Decides c.args.key.now c.as_slice.result.now).0 (sym c.eq.ensures ∙ same) ∙ c.as_slice.ensures)
