use Rattle.std.proofs.Common.{arith}
use Rattle.std.proofs.lemmas.Int.{to_z-of_z}
use Rattle.sbe_types.proofs.NumberLemmas.{read_big, read_little}
use Rattle.sbe_types.proofs.number.get_num.Goals as goal

pub returns-in-Little : goal.returns-in-Little
returns-in-Little c = grind (arith, to_z-of_z, c.get.ensures, read_little c.args.prim c.args.bytes.now c.requires (λ i. omega (arith, c.type_inv.bytes i)))

pub returns-in-Big : goal.returns-in-Big
returns-in-Big c = grind (arith, to_z-of_z, c.get-in-Big.ensures, read_big c.args.prim c.args.bytes.now c.requires (λ i. omega (arith, c.type_inv.bytes i)))
