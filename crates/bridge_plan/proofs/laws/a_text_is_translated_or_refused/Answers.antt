use Rattle.bridge_plan.proofs.Translating.{some_message, message_unrefused}
use Rattle.bridge_plan.proofs.laws.a_text_is_translated_or_refused.Goals as goal

pub returns-clause-some : goal.returns-clause-some
returns-clause-some c = some_message

pub returns-clause-only : goal.returns-clause-only
returns-clause-only c = message_unrefused
