use Rattle.version_laws.proofs.BodyMoves.{projects}
use Rattle.version_laws.proofs.Tests.{schema_stands}
use Rattle.version_laws.proofs.laws.plain_is_projected.Goals as goal

pub returns : goal.returns
returns c = λ old new placed h m n body lies is plain late. projects old new (schema_stands old new h) placed m n body late plain lies is
