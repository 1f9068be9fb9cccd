use Rattle.bridge_plan.proofs.Translating.{back_application}
use Rattle.bridge_terms.specs.Blocks.{values_of}
use Rattle.bridge_plan.specs.Covers.{plan_of}
use Rattle.bridge_versions.proofs.Returning.{received_back}
use Rattle.bridge_versions.proofs.laws.received_messages_come_back.Goals as goal

pub returns-clause-premises : goal.returns-clause-premises
returns-clause-premises c schema m s level message body draft received covered headed written needed =
    received_back c.kinds_in_order_are_writable.ensures schema level message body received m s draft covered headed written needed

pub returns-clause-application : goal.returns-clause-application
returns-clause-application c schema m s level message body draft received covered headed written needed =
    back_application m s level (values_of (plan_of m s level) message.block) draft
    (received_back c.kinds_in_order_are_writable.ensures schema level message body received m s draft covered headed written needed)
