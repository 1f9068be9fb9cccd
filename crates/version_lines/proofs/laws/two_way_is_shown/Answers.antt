use Rattle.std.proofs.Common.{sym}
use Rattle.version_laws.specs.Differ.{differ}
use Rattle.version_laws.specs.Forward.{first_added}
use Rattle.version_laws.proofs.BodyMoves.{projects}
use Rattle.version_laws.proofs.ForwardPlain.{forward_plain, both_none}
use Rattle.version_laws.proofs.Tests.{schema_stands}
use Rattle.version_lines.proofs.OneAnswer.{shows, encoding_is}
use Rattle.version_lines.proofs.laws.two_way_is_shown.Goals as goal

pub returns : goal.returns
returns c = λ old new placed later h m n item sent known late number.
    let none = both_none (differ old new) (first_added old new) h in
    let stands = schema_stands old new none.0 in
    shows old item n number placed (encoding_is new old m item sent (sym stands.order))
    (projects old new stands later m n item.body late (forward_plain old new none.1 m n known) sent.lies known)
