use Rattle.version_project.proofs.NarrowLevels.{messages_narrow}
use Rattle.version_project.proofs.differ.messages.schemas_differ.Goals as goal

pub messages_differ-requires-clause-old : goal.messages_differ-requires-clause-old
messages_differ-requires-clause-old c = messages_narrow c.args.old.now c.requires.old

pub messages_differ-requires-clause-new : goal.messages_differ-requires-clause-new
messages_differ-requires-clause-new c = messages_narrow c.args.new.now c.requires.new
