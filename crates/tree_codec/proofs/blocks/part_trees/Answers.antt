use Rattle.std.proofs.Common.{◌++◌, length, ap, ◌∙◌, arith}
use Rattle.std.specs.Prelude.{map}
use Rattle.sbe_types.specs.declared.message.Block.{out-Block}
use Rattle.tree_codec.specs.Trees.{part_of}
use Rattle.tree_codec.proofs.Steps.{seen_next, seen_over}
use Rattle.tree_codec.proofs.TreesBack.{parts_back}
use Rattle.tree_codec.proofs.blocks.part_trees.Goals as goal

pub loop-i-init : goal.loop-i-init
loop-i-init c = record { count = omega (arith, c.parts-parts.ensures.count); gathered = ap (λ vs. vs ++ map part_of c.parts-parts.result) c.new-trees.ensures }

pub loop-i-preserved : goal.loop-i-preserved
loop-i-preserved c =
    let so_far = c.loop-i.invariant in
    let next = seen_next part_of c.loop-i.trees (map part_of c.parts-parts.result) _ c.next_part.new.self c.loop-i.parts c.in_ok-part_tree.field-0 c.next_part.ensures c.in_ok-part_tree.ensures so_far.gathered in
    record {
      count = omega (arith, so_far.count, ap length c.next_part.ensures);
      gathered = ap (λ vs. vs ++ map part_of c.next_part.new.self) c.in_ok-push.ensures.ok ∙ next;
    }

pub returns : goal.returns
returns c =
    let so_far = c.loop-i.invariant in
    let over = seen_over part_of c.loop-i.trees (map part_of c.parts-parts.result) c.loop-i.parts (omega (arith, so_far.count, ap (λ r. r.2) c.counts-count.ensures)) so_far.gathered in
    over ∙ ap (map part_of) c.parts-parts.ensures.seen ∙ parts_back (out-Block c.args.block.now.block).parts
