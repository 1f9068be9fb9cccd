use Rattle.std.proofs.Common.{◌≡◌, false, sym, ap, ◌∙◌, rules}
use Rattle.sbe_types.specs.LeafBad.{fault_unless}
use Rattle.body_walk.proofs.LeafTold.{leaf_fault_in}
use Rattle.body_walk.proofs.kinds.judge_each.Goals as goal

pub tell_leaf-requires : goal.tell_leaf-requires
tell_leaf-requires c =
    let bad : c.leaf_judge.result ≡ false = search rules in
    leaf_fault_in c.args.order c.args.leaf.now c.args.at c.args.bytes.now c.leaf_judge.new.out c.requires.order c.requires.wide c.requires.near
    (sym c.leaf_judge.ensures ∙ ap (λ t. fault_unless t c.leaf_judge.new.out) bad)
