use Rattle.std.proofs.Common.{◌<◌, [], vec_len}
use Rattle.std.specs.List.{AllByRecursion}
use Rattle.raw_walk.specs.Recalled.{IsEnd, held_at}
use Rattle.raw_walk.proofs.ends.Ends.new.Given as goal

abbrev pub invariant-loop : goal.invariant-loop
invariant-loop l = (0 < vec_len l.cells) × AllByRecursion (IsEnd (held_at 0 [])) l.cells.items
