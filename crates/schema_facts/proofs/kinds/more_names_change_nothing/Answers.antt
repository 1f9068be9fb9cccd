use Rattle.schema_facts.proofs.KindNames.{refs_more, members_more, fields_more}
use Rattle.schema_facts.proofs.kinds.more_names_change_nothing.Goals as goal

pub returns-clause-refs : goal.returns-clause-refs
returns-clause-refs c = refs_more

pub returns-clause-members : goal.returns-clause-members
returns-clause-members c = members_more

pub returns-clause-fields : goal.returns-clause-fields
returns-clause-fields c = fields_more
