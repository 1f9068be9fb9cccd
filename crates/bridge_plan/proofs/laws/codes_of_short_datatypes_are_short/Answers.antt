use Rattle.bridge_plan.proofs.SchemaGives.{table_short}
use Rattle.bridge_plan.proofs.laws.codes_of_short_datatypes_are_short.Goals as goal

pub returns : goal.returns
returns c = table_short
