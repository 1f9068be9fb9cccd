use Rattle.std.proofs.Common.{◌≡◌, drop}
use Rattle.std.specs.Prelude.{map}
use Rattle.sbe_types.specs.declared.message.Block.{out-Block}
use Rattle.flyweight_view.specs.inner.Planned.{block_of, planned_block}
use Rattle.flyweight_view.specs.TypedBlocks.{bytes_in}
use Rattle.flyweight_view.proofs.parts.data_of.Given as goal

abbrev pub invariant-loop : goal.invariant-loop
invariant-loop l =
    record {
      left : l.parts ≡ drop l.counter (map bytes_in (out-Block (block_of (planned_block l.span l.plan))).parts);
    }
