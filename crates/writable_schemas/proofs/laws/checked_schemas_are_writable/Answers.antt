use Rattle.writable_schemas.proofs.CheckedSchemas.{schema_writable}
use Rattle.writable_schemas.proofs.laws.checked_schemas_are_writable.Goals as goal

pub returns : goal.returns
returns c = schema_writable
