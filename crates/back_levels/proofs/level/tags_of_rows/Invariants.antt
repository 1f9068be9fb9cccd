use Rattle.std.proofs.Common.{◌≡◌, map, take}
use Rattle.back_levels.proofs.level.tags_of_rows.Given as goal

abbrev pub invariant-loop-row : goal.invariant-loop-row
invariant-loop-row l = l.tags ≡ map (λ row. row.tag) (take l.row-index l.rows)
