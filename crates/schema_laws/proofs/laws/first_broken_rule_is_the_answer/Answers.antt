use Rattle.schema_laws.proofs.Questions.{answer_is}
use Rattle.schema_laws.proofs.laws.first_broken_rule_is_the_answer.Goals as goal

pub returns : goal.returns
returns c = answer_is
