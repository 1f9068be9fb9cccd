use Rattle.std.proofs.Common.{ap, arith}
use Rattle.sbe_types.specs.declared.message.Block.{out-Block}
use Rattle.flyweight_view.specs.TypedBlocks.{TypedBlock}
use Rattle.tree_json.specs.Views.{data_front}
use Rattle.tree_json.proofs.HeadText.{no_data, some_data}
use Rattle.printers.proofs.Printing.{reprinted, prints_nothing}
use Rattle.tree_json.proofs.block.put_own_data.Goals as goal

pub returns-then-parts-eq0 : goal.returns-then-parts-eq0
returns-then-parts-eq0 g c =
    reprinted (no_data c.args.block.now.parts (out-Block c.args.block.now.block).parts (omega (arith, c.if-parts-eq0.true, ap (λ r. r.2) c.counts-parts.ensures))) prints_nothing

pub returns : goal.returns
returns g c =
    reprinted (some_data c.args.block.now.parts (out-Block c.args.block.now.block).parts (omega (arith, c.if-parts-eq0.false, ap (λ r. r.2) c.counts-parts.ensures)))
    (reprinted (ap (λ (s : TypedBlock). data_front s.parts (out-Block s.block).parts) c.again.ensures) c.put_data.ensures)
