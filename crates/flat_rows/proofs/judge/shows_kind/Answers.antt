use Rattle.flat_rows.proofs.Looks.{leaf_kind}
use Rattle.flat_rows.proofs.judge.shows_kind.Goals as goal

pub returns-in-Leaf : goal.returns-in-Leaf
returns-in-Leaf c = λ yes known. leaf_kind c.args.kind.now c.in-Leaf.leaf known c.args.bytes.now c.in-Leaf.is c.requires.wide (c.shows_leaf.ensures yes)
