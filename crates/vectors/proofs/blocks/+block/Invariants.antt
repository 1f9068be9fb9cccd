use Rattle.std.proofs.Common.{◌≡◌, ◌-◌, drop}
use Rattle.vectors.specs.Drawing.{each, times}
use Rattle.vectors.specs.Messages.{block_drawn, group_drawn}
use Rattle.vectors.proofs.Gathering.{gathered}
use Rattle.vectors.proofs.blocks.+block.Given as goal

abbrev pub invariant-draw_groups-loop-group : goal.invariant-draw_groups-loop-group
invariant-draw_groups-loop-group l = gathered l.values (each group_drawn (drop l.group-index l.groups) l.words) ≡ each group_drawn l.groups l.fn.words

abbrev pub invariant-draw_entries-loop : goal.invariant-draw_entries-loop
invariant-draw_entries-loop l = gathered l.entries (times (l.count - l.counter) (block_drawn l.level) l.words) ≡ times l.count (block_drawn l.level) l.fn.words
