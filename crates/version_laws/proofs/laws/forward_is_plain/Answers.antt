use Rattle.version_laws.proofs.ForwardPlain.{forward_plain}
use Rattle.version_laws.proofs.laws.forward_is_plain.Goals as goal

pub returns : goal.returns
returns c = forward_plain
