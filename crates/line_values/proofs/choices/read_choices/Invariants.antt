use Rattle.std.proofs.Common.{◌≡◌, drop}
use Rattle.json_data.specs.Trees.{items_of}
use Rattle.line_values.specs.Values.{choices_in}
use Rattle.line_values.proofs.choices.read_choices.Given as goal

abbrev pub invariant-loop-item : goal.invariant-loop-item
invariant-loop-item l = choices_in l.names l.bits (items_of (drop l.item-index l.items)) ≡ choices_in l.names 0 (items_of l.items)
