use Rattle.back_texts.proofs.Forms.{plan_exact}
use Rattle.back_texts.proofs.laws.plans_of_one_form_are_exact.Goals as goal

pub returns : goal.returns
returns c = plan_exact
