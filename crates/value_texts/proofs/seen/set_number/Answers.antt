use Rattle.std.proofs.Common.{arith}
use Rattle.std.proofs.lemmas.Int.{ints, to_z-of_z}
use Rattle.schema_facts.proofs.SetNumber.{set_fits}
use Rattle.value_texts.proofs.seen.set_number.Goals as goal

pub overflow_cast-result : goal.overflow_cast-result
overflow_cast-result c =
    let fits = set_fits c.args.order c.args.prim c.args.bytes.now c.requires.encoding c.requires.wide (λ i. omega (arith, c.type_inv.bytes i)) in
    grind (arith, ints, to_z-of_z, c.get_num.ensures, fits.0, fits.1)
