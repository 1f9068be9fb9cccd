use Rattle.schema_facts.proofs.FieldEnds.{field_tells}
use Rattle.schema_facts.proofs.kinds.facts_are_those_of_kinds.Goals as goal

pub returns-clause-fixed : goal.returns-clause-fixed
returns-clause-fixed c = λ types f. (field_tells types f).fixed

pub returns-clause-width : goal.returns-clause-width
returns-clause-width c = λ types f. (field_tells types f).wide

pub returns-clause-leaves : goal.returns-clause-leaves
returns-clause-leaves c = λ types f. (field_tells types f).leaves

pub returns-clause-height : goal.returns-clause-height
returns-clause-height c = λ types f. (field_tells types f).high
