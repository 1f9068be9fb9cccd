use Rattle.bridge_versions.proofs.LaterMessages.{later_has}
use Rattle.bridge_versions.proofs.laws.later_messages_lack_nothing.Goals as goal

pub returns : goal.returns
returns c schema level message body received late = later_has schema level message body (c.checked_schemas_are_writable.ensures schema received.checked) received late
