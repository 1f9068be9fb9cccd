use Rattle.std.proofs.Common.{◌≡◌, ◌≤◌, ◌+◌, ◌*◌, drop, length}
use Rattle.std.specs.Vec.Iter.{into_iter_items, into_iter_len}
use Rattle.sbe_types.specs.declared.schema.Group.{out-Group}
use Rattle.sbe_types.specs.declared.schema.Level.{out-Level}
use Rattle.schema_facts.specs.CheckedLevels.{groups_deep}
use Rattle.schema_facts.specs.Counted.{total}
use Rattle.regrade_laws.specs.Filled.{filled_block, filled_group, filled_list, filled_entries}
use Rattle.regrade_laws.specs.Counts.{sum_pairs, filled_count, filled_group_count}
use Rattle.regrade.proofs.FillWalk.{with_all}
use Rattle.regrade.proofs.filling.+fill_parts.Given as goal

abbrev pub invariant-fill_groups-loop-value : goal.invariant-fill_groups-loop-value
invariant-fill_groups-loop-value l = record {
  told : with_all l.written (filled_list filled_group (l.first + l.i) (drop l.i (out-Level l.fn.level).groups) (into_iter_items l.value-iterator))
      ≡ filled_list filled_group (length (out-Level l.fn.level).fields) (out-Level l.fn.level).groups l.fn.values;
  count : l.filler.filled + sum_pairs filled_group_count (drop l.i (out-Level l.fn.level).groups) (into_iter_items l.value-iterator) ≡ l.fn.filler.filled + sum_pairs filled_group_count (out-Level l.fn.level).groups l.fn.values;
  left : into_iter_len l.value-iterator ≡ length (into_iter_items l.value-iterator);
  within : l.i ≤ length (out-Level l.fn.level).groups;
}

abbrev pub invariant-fill_entries-loop-entry : goal.invariant-fill_entries-loop-entry
invariant-fill_entries-loop-entry l = record {
  told : with_all l.written (filled_entries (λ entry. filled_block l.fn.level entry) l.i (into_iter_items l.entry-iterator)) ≡ filled_entries (λ entry. filled_block l.fn.level entry) 0 l.fn.entries;
  count : l.filler.filled + total (filled_count l.fn.level) (into_iter_items l.entry-iterator) ≡ l.fn.filler.filled + total (filled_count l.fn.level) l.fn.entries;
  left : into_iter_len l.entry-iterator ≡ length (into_iter_items l.entry-iterator);
  within : l.i + length (into_iter_items l.entry-iterator) ≡ length l.fn.entries;
}

abbrev pub decreases-fill_block : goal.decreases-fill_block
decreases-fill_block l = 4 * groups_deep l.level.now + 3

abbrev pub decreases-fill_groups : goal.decreases-fill_groups
decreases-fill_groups l = 4 * groups_deep l.level.now + 2

abbrev pub decreases-fill_group : goal.decreases-fill_group
decreases-fill_group l = 4 * groups_deep (out-Group l.group.now).level + 5

abbrev pub decreases-fill_entries : goal.decreases-fill_entries
decreases-fill_entries l = 4 * groups_deep l.level.now + 4
