use Rattle.version_copies.proofs.Copying.{copied}
use Rattle.version_copies.proofs.laws.same_templates_are_copied.Goals as goal

pub returns : goal.returns
returns c =
    λ from to checked good template place same header written m body here own bytes lies clean.
    copied from to checked good template place same m here own body bytes lies header written clean
