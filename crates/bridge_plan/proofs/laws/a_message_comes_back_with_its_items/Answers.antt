use Rattle.bridge_plan.proofs.Translating.{back_application, comes_back}
use Rattle.bridge_plan.proofs.laws.a_message_comes_back_with_its_items.Goals as goal

pub returns-clause-application : goal.returns-clause-application
returns-clause-application c = back_application

pub returns-clause-items : goal.returns-clause-items
returns-clause-items c = comes_back
