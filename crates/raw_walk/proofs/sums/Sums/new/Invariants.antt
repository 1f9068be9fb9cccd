use Rattle.std.proofs.Common.{◌<◌, [], vec_len}
use Rattle.std.specs.List.{AllByRecursion}
use Rattle.raw_walk.specs.Recalled.{IsCell, held_at}
use Rattle.raw_walk.proofs.sums.Sums.new.Given as goal

abbrev pub invariant-loop : goal.invariant-loop
invariant-loop l = (0 < vec_len l.cells) × AllByRecursion (IsCell (held_at 0 []) 0 l.none) l.cells.items
