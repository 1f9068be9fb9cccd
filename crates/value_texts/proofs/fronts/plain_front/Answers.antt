use Rattle.std.proofs.Common.{◌≡◌, length, arith, rules}
use Rattle.value_texts.proofs.PlainFronts.{front_made}
use Rattle.value_texts.proofs.fronts.plain_front.Goals as goal

pub returns-then-run-ge-LANES : goal.returns-then-run-ge-LANES
returns-then-run-ge-LANES c = λ some.
    let eight : length c.args.bytes.now ≡ 8 = search rules in
    front_made c.plain_run-run.result c.args.bytes.now eight c.plain_run-run.ensures (λ less. absurd (omega (arith, less, eight, c.if-run-ge-LANES.true)))

pub returns : goal.returns
returns c = λ some.
    let eight : length c.args.bytes.now ≡ 8 = search rules in
    front_made c.plain_run-run.result c.args.bytes.now eight c.plain_run-run.ensures (λ less. search rules)
