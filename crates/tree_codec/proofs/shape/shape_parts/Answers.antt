use Rattle.std.proofs.Common.{◌≡◌, ◌+◌, suc, ◌∙◌, arith}
use Rattle.sbe_types.specs.declared.message.Block.{out-Block}
use Rattle.tree_codec.proofs.LevelShapes.{part_refused, part_passed}
use Rattle.tree_codec.proofs.shape.shape_parts.Goals as goal

pub returns-then-is_absent-clause-told : goal.returns-then-is_absent-clause-told
returns-then-is_absent-clause-told c =
    let k = c.len.result + c.len-2.result + c.loop-i.i in
    part_refused k c.loop-i.i (out-Block c.args.block.now).parts c.at.result.now c.at.ensures c.tell.new.self c.under.new.self c.if-is_absent.ensures c.tell.ensures c.under.ensures ∙ c.loop-i.invariant

pub loop-i-preserved : goal.loop-i-preserved
loop-i-preserved c =
    let k = c.len.result + c.len-2.result + c.loop-i.i in
    let on : c.len.result + c.len-2.result + (c.loop-i.i + 1) ≡ suc k = omega arith in
    part_passed k c.loop-i.i (out-Block c.args.block.now).parts c.at.result.now c.at.ensures (c.len.result + c.len-2.result + (c.loop-i.i + 1)) on c.if-is_absent.ensures ∙ c.loop-i.invariant
