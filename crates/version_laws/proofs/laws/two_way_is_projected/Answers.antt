use Rattle.version_laws.specs.Differ.{differ}
use Rattle.version_laws.specs.Forward.{first_added}
use Rattle.version_laws.proofs.ForwardPlain.{forward_plain, both_none}
use Rattle.version_laws.proofs.BodyMoves.{projects}
use Rattle.version_laws.proofs.Tests.{schema_stands}
use Rattle.version_laws.proofs.laws.two_way_is_projected.Goals as goal

pub returns : goal.returns
returns c = λ old new placed h m n body lies is late.
    let none = both_none (differ old new) (first_added old new) h in
    projects old new (schema_stands old new none.0) placed m n body late (forward_plain old new none.1 m n is) lies is
