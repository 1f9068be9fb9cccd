use Rattle.std.proofs.Common.{◌≡◌, drop}
use Rattle.json_data.specs.Trees.{items_of}
use Rattle.json_elements.specs.Elements.{each}
use Rattle.json_elements.proofs.Children.{with_front}
use Rattle.sbe_schema.specs.Types.{valid_value}
use Rattle.sbe_schema.proofs.types.read_valid_values.Given as goal

abbrev pub invariant-loop-i : goal.invariant-loop-i
invariant-loop-i l = with_front l.values (each valid_value l.i (items_of (drop l.i l.items))) ≡ each valid_value 0 (items_of l.items)
