use Rattle.std.proofs.Common.{◌≡◌, ◌+◌, refl, arith}
use Rattle.sbe_types.specs.Numbers.{prim_width}
use Rattle.clean_walk.proofs.Saying.{number_said}
use Rattle.clean_walk.proofs.heads.past_number.Goals as goal

pub returns-clause-says : goal.returns-clause-says
returns-clause-says c =
    let next : c.in_ok-next.next ≡ c.begin_of-begin.result + prim_width c.in-Leaf.leaf.prim = omega (arith, c.in_ok-next.ensures, c.width.ensures.value) in
    number_said c.args.order c.args.number c.args.end c.args.member.now c.args.bytes.now c.in-Leaf.leaf
    c.begin_of-begin.result c.in_ok-next.next c.in_ok-read.read c.in-Leaf.is c.if-leaf-ne1.false c.begin_of-begin.ensures
    c.if-begin-end.false (c.if-not-is_zero.ensures refl) next c.in_ok-read.ensures c.if-read-number.false
