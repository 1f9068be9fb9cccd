use Rattle.bridge_plan.proofs.SchemaGives.{checked_covered}
use Rattle.bridge_plan.proofs.laws.covered_templates_of_checked_schemas.Goals as goal

pub returns : goal.returns
returns c = checked_covered
