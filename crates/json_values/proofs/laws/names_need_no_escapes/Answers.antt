use Rattle.json_values.proofs.Plainly.{names_stand}
use Rattle.json_values.proofs.laws.names_need_no_escapes.Goals as goal

pub returns : goal.returns
returns c = names_stand
