use Rattle.line_facts.proofs.Templates.{line_of_schema}
use Rattle.line_facts.proofs.laws.a_line_has_a_template.Goals as goal

pub returns : goal.returns
returns c = line_of_schema
