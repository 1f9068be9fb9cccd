use Rattle.bridge_plan.proofs.Translating.{again_written, again_application, again_items, again_back}
use Rattle.bridge_plan.proofs.laws.a_text_written_again_has_its_items.Goals as goal

pub returns-clause-written : goal.returns-clause-written
returns-clause-written c = again_written

pub returns-clause-application : goal.returns-clause-application
returns-clause-application c = again_application

pub returns-clause-items : goal.returns-clause-items
returns-clause-items c = again_items

pub returns-clause-back : goal.returns-clause-back
returns-clause-back c = again_back
