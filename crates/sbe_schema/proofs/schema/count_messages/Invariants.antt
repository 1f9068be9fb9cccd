use Rattle.std.proofs.Common.{◌≡◌, ◌+◌, ◌≤◌, drop}
use Rattle.json_data.specs.Trees.{items_of}
use Rattle.sbe_schema.specs.Schemas.{message_count}
use Rattle.sbe_schema.proofs.schema.count_messages.Given as goal

abbrev pub invariant-loop-item : goal.invariant-loop-item
invariant-loop-item l = (l.count ≤ l.item-index) × (l.count + message_count (items_of (drop l.item-index l.items)) ≡ message_count (items_of l.items))
