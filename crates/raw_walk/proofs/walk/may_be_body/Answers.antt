use Rattle.std.proofs.Common.{◌+◌, arith, take, ltb-false}
use Rattle.raw_walk.specs.Walks.{step}
use Rattle.raw_walk.proofs.Passing.{passed_none, passed_more, passed_full, stops_after}
use Rattle.raw_walk.proofs.walk.may_be_body.Goals as goal

pub loop-at-init : goal.loop-at-init
loop-at-init c = (c.requires.within, passed_none c.args.tags.now (take c.args.front.stop c.args.front.held.now) (step 3 c.args.begin) (omega arith), c.requires.ends)

pub loop-at-preserved : goal.loop-at-preserved
loop-at-preserved c =
    let front = take c.args.front.stop c.args.front.held.now in (
      c.in-Some.ensures.within.1,
      passed_more c.args.tags.now front (step 3 c.args.begin) (step c.loop-at.many c.loop-at.at) (step (c.loop-at.many + c.in-Some.more) c.in-Some.next) c.loop-at.invariant.1 c.if-many-lt-FIELD_LIMIT.true (c.in-Some.ensures.passes c.loop-at.many c.if-many-lt-FIELD_LIMIT.true),
      c.in-Some.ensures.ends,
    )

pub returns-in-None-clause-stops : goal.returns-in-None-clause-stops
returns-in-None-clause-stops c = λ no.
    stops_after c.args.tags.now (take c.args.front.stop c.args.front.held.now) (step 3 c.args.begin) (step c.loop-at.many c.loop-at.at) c.loop-at.invariant.1 c.if-many-lt-FIELD_LIMIT.true (c.in-None.ensures.passes c.loop-at.many c.if-many-lt-FIELD_LIMIT.true)

pub returns-clause-stops : goal.returns-clause-stops
returns-clause-stops c = λ no.
    passed_full c.args.tags.now (take c.args.front.stop c.args.front.held.now) (step 3 c.args.begin) (step c.loop-at.many c.loop-at.at) c.loop-at.invariant.1 (ltb-false c.loop-at.many 4096 no)
