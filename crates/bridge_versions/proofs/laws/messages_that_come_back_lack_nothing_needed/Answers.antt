use Rattle.bridge_versions.proofs.Returning.{received_only}
use Rattle.bridge_versions.proofs.laws.messages_that_come_back_lack_nothing_needed.Goals as goal

pub returns : goal.returns
returns c schema m s level message body draft received covered headed written unrefused =
    received_only c.kinds_in_order_are_writable.ensures schema level message body received m s draft covered headed written unrefused
