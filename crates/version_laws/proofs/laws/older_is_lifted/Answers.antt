use Rattle.version_laws.proofs.BodyMoves.{lifts}
use Rattle.version_laws.proofs.Tests.{schema_stands}
use Rattle.version_laws.proofs.laws.older_is_lifted.Goals as goal

pub returns : goal.returns
returns c = λ old new h m body lies early. lifts old new (schema_stands old new h) m body early lies
