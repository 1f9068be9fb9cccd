use Rattle.version_laws.proofs.BodyMoves.{projects}
use Rattle.version_laws.proofs.Tests.{schema_stands}
use Rattle.sbe_wire.proofs.Messages.{message_judges}
use Rattle.version_laws.proofs.laws.plain_is_read.Goals as goal

pub returns : goal.returns
returns c = λ old new first placed h m n body lies is plain late. (message_judges old first).complete body n (projects old new (schema_stands old new h) placed m n body late plain lies is)
