use Rattle.schema_facts.proofs.FieldEnds.{end_is}
use Rattle.schema_facts.proofs.laws.fields_end_as_facts_say.Goals as goal

pub returns : goal.returns
returns c = end_is
