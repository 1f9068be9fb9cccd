use Rattle.schema_facts.proofs.FactKinds.{through_tells}
use Rattle.schema_facts.proofs.kinds.facts_of_names_are_those_of_kinds.Goals as goal

pub returns-clause-fixed : goal.returns-clause-fixed
returns-clause-fixed c = λ n types name. (through_tells n types name).fixed

pub returns-clause-width : goal.returns-clause-width
returns-clause-width c = λ n types name. (through_tells n types name).wide

pub returns-clause-leaves : goal.returns-clause-leaves
returns-clause-leaves c = λ n types name. (through_tells n types name).leaves

pub returns-clause-height : goal.returns-clause-height
returns-clause-height c = λ n types name. (through_tells n types name).high
