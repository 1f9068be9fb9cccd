use Rattle.std.proofs.Common.{◌≡◌, ◌≤◌, ℕ, ◌∙◌, arith}
use Rattle.schema_facts.proofs.FieldEnds.{end_is}
use Rattle.schema_check.proofs.levels.fields_end.Goals as goal

pub returns : goal.returns
returns c = λ since. c.parts_end.ensures ∙ end_is (record { types = c.args.known.now; since = since }) c.args.parts.now (omega arith)
