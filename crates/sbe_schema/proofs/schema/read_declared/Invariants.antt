use Rattle.std.proofs.Common.{◌≡◌, drop}
use Rattle.json_data.specs.Trees.{items_of}
use Rattle.json_elements.specs.Elements.{each}
use Rattle.json_elements.proofs.Children.{with_front}
use Rattle.sbe_schema.specs.Schemas.{declared}
use Rattle.sbe_schema.proofs.schema.read_declared.Given as goal

abbrev pub invariant-loop-i : goal.invariant-loop-i
invariant-loop-i l = with_front l.types (each declared l.i (items_of (drop l.i l.items))) ≡ each declared 0 (items_of l.items)
