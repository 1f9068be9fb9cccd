use Rattle.std.proofs.Common.{◌<◌, length, take, length-take-le, arith}
use Rattle.raw_walk.proofs.walk.field_at.Goals as goal
use Rattle.tagvalue_codec.proofs.Placing.{field_found}

pub returns-clause-field : goal.returns-clause-field
returns-clause-field c =
    let front = take c.args.front.stop c.args.front.held.now in
    let within : c.end_in-to.result < length front = omega (arith, c.if-to-front.false, length-take-le c.args.front.stop c.args.front.held.now c.requires.stop) in
    field_found front c.args.at c.in_ok-tag.tag c.in_ok-tag.from c.end_in-to.result c.in_ok-tag.ensures c.end_in-to.ensures.end within c.if-to-from.false
