use Rattle.schema_rules.specs.Rows.Trees as tree
use Rattle.schema_rules.specs.Rows.Schemas.{checked}
use Rattle.schema_facts.proofs.WholeChecked.{schema_checked}
use Rattle.schema_facts.proofs.worked.a_worked_schema_is_checked.Goals as goal

pub returns : goal.returns
returns c = schema_checked tree.in_order checked c.a_worked_tree_is_in_form.ensures.form c.a_schema_in_order_is_accepted.ensures
