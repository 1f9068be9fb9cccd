use Rattle.schema_rules.specs.Kinds.{field_kind}
use Rattle.schema_facts.proofs.KindFits.{field_fits}
use Rattle.schema_facts.proofs.KindOrder.{within_of, field_sized}
use Rattle.schema_facts.proofs.kinds.kinds_of_fields_keep_limits.Goals as goal

pub returns : goal.returns
returns c = λ types f accepted. within_of types (field_kind types f) (field_fits types accepted f) (field_sized types accepted f)
