use Rattle.std.proofs.Common.{◌≡◌, ◌<◌, ◌^◌, length, arith, rules}
use Rattle.std.proofs.lemmas.Int.{ints, to_z-of_z}
use Rattle.sbe_types.specs.Numbers.{sum_in}
use Rattle.sbe_types.proofs.NumberLemmas.{sum_fits}
use Rattle.layout_tables.proofs.heads.small_number.Goals as goal

pub overflow_cast-result : goal.overflow_cast-result
overflow_cast-result c =
    let fits : sum_in c.args.order c.args.bytes.now < 256 ^ length c.args.bytes.now = sum_fits c.args.order c.args.bytes.now (λ i. omega (arith, c.type_inv.bytes i)) in
    let wide : length c.args.bytes.now ≡ 2 = search rules in
    let small : sum_in c.args.order c.args.bytes.now < 65536 = rw wide at fits in
    grind (arith, ints, to_z-of_z, c.get_num.ensures, small)

pub overflow_cast-result-then-eq-2 : goal.overflow_cast-result-then-eq-2
overflow_cast-result-then-eq-2 c =
    let fits : sum_in c.args.order c.args.bytes.now < 256 ^ length c.args.bytes.now = sum_fits c.args.order c.args.bytes.now (λ i. omega (arith, c.type_inv.bytes i)) in
    let wide : length c.args.bytes.now ≡ 1 = search rules in
    let small : sum_in c.args.order c.args.bytes.now < 256 = rw wide at fits in
    grind (arith, ints, to_z-of_z, c.get_num-then-eq-2.ensures, small)

pub overflow_cast-result-2 : goal.overflow_cast-result-2
overflow_cast-result-2 c =
    let fits : sum_in c.args.order c.args.bytes.now < 256 ^ length c.args.bytes.now = sum_fits c.args.order c.args.bytes.now (λ i. omega (arith, c.type_inv.bytes i)) in
    let wide : length c.args.bytes.now ≡ 4 = search rules in
    let small : sum_in c.args.order c.args.bytes.now < 4294967296 = rw wide at fits in
    grind (arith, ints, to_z-of_z, c.get_num-2.ensures, small)
