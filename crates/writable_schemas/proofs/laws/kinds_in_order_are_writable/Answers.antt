use Rattle.writable_schemas.proofs.OrderedKinds.{kind_writable}
use Rattle.writable_schemas.proofs.laws.kinds_in_order_are_writable.Goals as goal

pub returns : goal.returns
returns c = kind_writable
