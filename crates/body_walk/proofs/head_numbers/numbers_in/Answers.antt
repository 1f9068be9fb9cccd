use Rattle.std.proofs.Common.{subst, arith}
use Rattle.body_walk.specs.inner.HeadNumbers.{AreTwoBytes}
use Rattle.body_walk.proofs.HeadSpots.{usual_wide, usual_are}
use Rattle.body_walk.proofs.head_numbers.numbers_in.Goals as goal

pub usual_numbers-requires : goal.usual_numbers-requires
usual_numbers-requires c =
    let row = c.header_row-row.result.now in
    let wide = usual_wide c.args.layout.now.header.members row c.header_row-row.ensures (c.header_row-row.ensures.usual c.if-not-row.false) in
    omega (arith, wide, c.requires)

pub usual_numbers-requires-in-Big : goal.usual_numbers-requires-in-Big
usual_numbers-requires-in-Big c =
    let row = c.header_row-row.result.now in
    let wide = usual_wide c.args.layout.now.header.members row c.header_row-row.ensures (c.header_row-row.ensures.usual c.if-not-row.false) in
    omega (arith, wide, c.requires)

pub returns-in-Little : goal.returns-in-Little
returns-in-Little c =
    let row = c.header_row-row.result.now in
    let head = c.args.head.now in
    usual_are c.args.layout.now row head _ c.header_row-row.ensures (c.header_row-row.ensures.usual c.if-not-row.false)
    (subst (λ o. AreTwoBytes o head c.usual_numbers.result) c.in-Little.ensures c.usual_numbers.ensures)

pub returns-in-Big : goal.returns-in-Big
returns-in-Big c =
    let row = c.header_row-row.result.now in
    let head = c.args.head.now in
    usual_are c.args.layout.now row head _ c.header_row-row.ensures (c.header_row-row.ensures.usual c.if-not-row.false)
    (subst (λ o. AreTwoBytes o head c.usual_numbers-in-Big.result) c.in-Big.ensures c.usual_numbers-in-Big.ensures)
