use Rattle.bridge_versions.proofs.Returning.{received_items, received_application}
use Rattle.bridge_versions.proofs.laws.texts_have_the_items_of_received_messages.Goals as goal

pub returns-clause-application : goal.returns-clause-application
returns-clause-application c schema m s level message body draft received covered headed written =
    received_application c.kinds_in_order_are_writable.ensures schema level message body received m s draft covered headed written

pub returns-clause-items : goal.returns-clause-items
returns-clause-items c schema m s level message body draft received covered headed written =
    received_items c.kinds_in_order_are_writable.ensures schema level message body received m s draft covered headed written
