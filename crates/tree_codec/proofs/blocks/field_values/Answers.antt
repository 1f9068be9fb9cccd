use Rattle.std.proofs.Common.{◌++◌, ◌∷◌, [], ap, ◌∙◌, arith}
use Rattle.std.proofs.lemmas.List.{take_all}
use Rattle.sbe_types.specs.declared.message.Block.{out-Block}
use Rattle.tree_codec.proofs.Steps.{take_next}
use Rattle.tree_codec.proofs.blocks.field_values.Goals as goal

pub loop-i-preserved : goal.loop-i-preserved
loop-i-preserved c =
    let values = (out-Block c.args.block.now.block).fields in
    c.in_ok-push.ensures.ok ∙ ap (λ vs. vs ++ c.in_ok-field_value.field-0 ∷ []) c.loop-i.invariant ∙ take_next values c.loop-i.i c.in_ok-field_value.field-0 c.in_ok-field_value.ensures

pub returns : goal.returns
returns c =
    let values = (out-Block c.args.block.now.block).fields in
    c.loop-i.invariant ∙ take_all c.loop-i.i values (omega (arith, c.requires, ap (λ r. r.0) c.counts-count.ensures))
