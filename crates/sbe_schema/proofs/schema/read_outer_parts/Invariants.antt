use Rattle.std.proofs.Common.{◌≡◌, drop}
use Rattle.json_data.specs.Trees.{items_of}
use Rattle.json_elements.proofs.Children.{with_front}
use Rattle.sbe_types.specs.declared.limits.TheConstants.{TYPE_LIMIT}
use Rattle.sbe_schema.specs.Schemas.{outer_parts}
use Rattle.sbe_schema.proofs.schema.read_outer_parts.Given as goal

abbrev pub invariant-loop-i : goal.invariant-loop-i
invariant-loop-i l = with_front l.parts (outer_parts l.room l.i (items_of (drop l.i l.items))) ≡ outer_parts TYPE_LIMIT 0 (items_of l.items)
