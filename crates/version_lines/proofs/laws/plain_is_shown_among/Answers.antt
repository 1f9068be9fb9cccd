use Rattle.std.proofs.Common.{sym, ◌∙◌, ap}
use Rattle.dump_lines.specs.Dumped.{encoding_of}
use Rattle.version_laws.proofs.BodyMoves.{projects}
use Rattle.version_laws.proofs.Tests.{schema_stands}
use Rattle.version_lines.proofs.OneAnswer.{shows_among, encoding_is}
use Rattle.version_lines.proofs.laws.plain_is_shown_among.Goals as goal

pub returns : goal.returns
returns c = λ schemas old new placed later h order m n item chosen sent known plain late number.
    let stands = schema_stands old new h in
    shows_among schemas old item n number placed chosen (encoding_is new old m item sent (sym stands.order) ∙ ap encoding_of (sym order))
    (projects old new stands later m n item.body late plain sent.lies known)
