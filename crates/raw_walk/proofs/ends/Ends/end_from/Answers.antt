use Rattle.std.proofs.Common.{◌≡◌, ◌<◌, ◌+◌, drop, take, arith, ◌∙◌}
use Rattle.tagvalue_codec.specs.Reading.{plain_len}
use Rattle.raw_walk.specs.Recalled.{held_at}
use Rattle.raw_walk.proofs.Plain.{end_near}
use Rattle.raw_walk.proofs.Remembered.{end_known}
use Rattle.raw_walk.proofs.ends.Ends.end_from.Goals as goal

pub returns-then-to-near-clause-end : goal.returns-then-to-near-clause-end
returns-then-to-near-clause-end c =
    let near = c.near_end-near.result in
    let found : c.end_of_value-to.result ≡ c.args.from + plain_len (drop c.args.from (take near c.args.held.now)) = c.end_of_value-to.ensures in
    let short : c.args.from + plain_len (drop c.args.from (take near c.args.held.now)) < near = omega (arith, found, c.if-to-near.true) in
    found ∙ end_near c.args.held.now c.args.from near c.near_end-near.ensures.low short

pub returns-in-Some-clause-end : goal.returns-in-Some-clause-end
returns-in-Some-clause-end c =
    let known = c.in-Some.ensures in
    (end_known c.args.place c.args.held.now c.args.from c.in-Some.end known.0 known.1 (known.2 (held_at c.args.place c.args.held.now) c.requires.ends)).1
