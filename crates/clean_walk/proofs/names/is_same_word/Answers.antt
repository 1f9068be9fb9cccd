use Rattle.std.proofs.Common.{arith}
use Rattle.clean_walk.proofs.Words.{same_words}
use Rattle.clean_walk.proofs.names.is_same_word.Goals as goal

pub read_u64-requires : goal.read_u64-requires
read_u64-requires c = c.requires.first

pub read_u64-requires-2 : goal.read_u64-requires-2
read_u64-requires-2 c = c.requires.second

pub returns : goal.returns
returns c =
    same_words c.args.bytes.now c.args.others.now c.read_u64.result c.read_u64-2.result c.requires.first c.requires.second
    (λ i. omega (arith, c.type_inv.bytes i)) (λ i. omega (arith, c.type_inv.others i)) c.read_u64.ensures c.read_u64-2.ensures
