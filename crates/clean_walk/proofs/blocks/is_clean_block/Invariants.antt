use Rattle.clean_walk.proofs.Rows.{LeadsRows}
use Rattle.clean_walk.proofs.blocks.is_clean_block.Given as goal

abbrev pub invariant-loop-row : goal.invariant-loop-row
invariant-loop-row l = LeadsRows l.table.rows.items l.block l.row-index l.end
