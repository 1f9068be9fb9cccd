use Rattle.std.proofs.Common.{sym}
use Rattle.version_laws.proofs.BodyMoves.{projects}
use Rattle.version_laws.proofs.Tests.{schema_stands}
use Rattle.version_lines.proofs.OneAnswer.{shows, encoding_is}
use Rattle.version_lines.proofs.laws.plain_is_shown.Goals as goal

pub returns : goal.returns
returns c = λ old new placed later h m n item sent known plain late number.
    let stands = schema_stands old new h in
    shows old item n number placed (encoding_is new old m item sent (sym stands.order)) (projects old new stands later m n item.body late plain sent.lies known)
