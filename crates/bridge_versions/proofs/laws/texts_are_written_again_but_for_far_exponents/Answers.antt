use Rattle.bridge_versions.proofs.FarExponents.{again_or_far}
use Rattle.bridge_versions.proofs.laws.texts_are_written_again_but_for_far_exponents.Goals as goal

pub returns : goal.returns
returns c = again_or_far
