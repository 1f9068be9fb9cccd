use Rattle.schema_facts.proofs.WholeChecked.{schema_checked}
use Rattle.schema_check.proofs.checking.check.Goals as goal

pub new-requires : goal.new-requires
new-requires c = schema_checked c.args.schema c.in_ok-resolved.resolved c.requires.form c.in_ok-resolved.ensures
