use Rattle.std.proofs.Common.{arith}
use Rattle.std.proofs.lemmas.Int.{to_z-of_z}
use Rattle.sbe_types.proofs.NumberLemmas.{read_little}
use Rattle.flat_rows.proofs.judge.number_in.Goals as goal

pub returns : goal.returns
returns c = grind (arith, to_z-of_z, c.read_word.ensures, read_little c.args.prim c.args.bytes.now c.requires.wide (λ i. omega (arith, c.type_inv.bytes i)))
