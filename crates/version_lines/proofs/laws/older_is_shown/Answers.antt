use Rattle.version_laws.proofs.BodyMoves.{lifts}
use Rattle.version_laws.proofs.Tests.{schema_stands}
use Rattle.version_lines.proofs.OneAnswer.{shows, encoding_is}
use Rattle.version_lines.proofs.laws.older_is_shown.Goals as goal

pub returns : goal.returns
returns c = λ old new placed h m item sent early.
    let stands = schema_stands old new h in
    let there = lifts old new stands m item.body early sent.lies in
    (there.0, there.1, λ number. shows new item there.0 number placed (encoding_is old new m item sent stands.order) there.2)
