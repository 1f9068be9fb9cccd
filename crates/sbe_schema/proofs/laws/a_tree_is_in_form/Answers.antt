use Rattle.sbe_schema.proofs.SchemaInForm.{file_yields}
use Rattle.sbe_schema.proofs.laws.a_tree_is_in_form.Goals as goal

pub returns : goal.returns
returns c = λ bytes tree read. file_yields bytes tree read
