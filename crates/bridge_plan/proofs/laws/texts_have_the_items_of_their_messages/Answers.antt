use Rattle.bridge_plan.proofs.Translating.{text_application, text_items}
use Rattle.bridge_plan.proofs.laws.texts_have_the_items_of_their_messages.Goals as goal

pub returns-clause-application : goal.returns-clause-application
returns-clause-application c = text_application

pub returns-clause-items : goal.returns-clause-items
returns-clause-items c = text_items
