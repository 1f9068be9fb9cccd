use Rattle.std.proofs.Common.{arith}
use Rattle.raw_walk.proofs.Judged.{body_in, kind_in, within_front}
use Rattle.raw_walk.proofs.recall.may_be_fields.Goals as goal

pub may_be_body-requires-clause-within : goal.may_be_body-requires-clause-within
may_be_body-requires-clause-within c = within_front c.args.front.held.now c.args.front.stop c.in-Some.body c.in-Some-tagged_at.kind (omega (arith, c.requires.stop)) c.in-Some-tagged_at.ensures.field

pub returns-in-Some-tagged_at-clause-refuses : goal.returns-in-Some-tagged_at-clause-refuses
returns-in-Some-tagged_at-clause-refuses c = λ no.
    body_in c.args.tags.now c.args.front.held.now c.in-Some.body c.args.front.stop c.in-Some-tagged_at.kind c.requires.stop c.in-Some.ensures.opens c.in-Some-tagged_at.ensures.field (c.may_be_body.ensures.stops no)

pub returns-in-None-clause-refuses : goal.returns-in-None-clause-refuses
returns-in-None-clause-refuses c = λ no.
    kind_in c.args.tags.now c.args.front.held.now c.in-Some.body c.args.front.stop c.requires.stop c.in-Some.ensures.opens c.in-None.ensures.field
