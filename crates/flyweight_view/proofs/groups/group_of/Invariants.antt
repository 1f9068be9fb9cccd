use Rattle.std.proofs.Common.{◌≡◌, drop}
use Rattle.sbe_types.specs.declared.message.Block.{out-Block}
use Rattle.flyweight_view.specs.TypedBlocks.{typed_groups}
use Rattle.flyweight_view.specs.inner.Planned.{block_of, planned_block, groups_of}
use Rattle.flyweight_view.proofs.groups.group_of.Given as goal

abbrev pub invariant-loop : goal.invariant-loop
invariant-loop l =
    record {
      left : l.groups ≡ drop l.counter (typed_groups (groups_of l.plan) (out-Block (block_of (planned_block l.span l.plan))).groups);
    }
