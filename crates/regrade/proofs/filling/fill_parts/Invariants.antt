use Rattle.std.proofs.Common.{◌≡◌, ◌≤◌, ◌+◌, drop, length}
use Rattle.std.specs.Vec.Iter.{into_iter_items, into_iter_len}
use Rattle.regrade_laws.specs.Fill.{part_or_fill}
use Rattle.regrade_laws.specs.Filled.{filled_list}
use Rattle.regrade_laws.specs.Counts.{count_pairs, fills_part}
use Rattle.regrade.proofs.FillWalk.{with_all}
use Rattle.regrade.proofs.filling.fill_parts.Given as goal

abbrev pub invariant-loop-value : goal.invariant-loop-value
invariant-loop-value l = record {
  told : with_all l.written (filled_list part_or_fill (l.first + l.i) (drop l.i l.fn.parts) (into_iter_items l.value-iterator)) ≡ filled_list part_or_fill l.fn.first l.fn.parts l.fn.values;
  count : l.filler.filled + count_pairs fills_part (drop l.i l.fn.parts) (into_iter_items l.value-iterator) ≡ l.fn.filler.filled + count_pairs fills_part l.fn.parts l.fn.values;
  left : into_iter_len l.value-iterator ≡ length (into_iter_items l.value-iterator);
  within : l.i ≤ length l.fn.parts;
}
