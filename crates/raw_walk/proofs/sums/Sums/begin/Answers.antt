use Rattle.std.proofs.Common.{◌<◌, length, ap, refl, arith}
use Rattle.std.proofs.lemmas.List.{length-set}
use Rattle.raw_walk.specs.declared.sums.SumAt.{SumAt}
use Rattle.raw_walk.proofs.Remembered.{sums_begin}
use Rattle.raw_walk.proofs.sums.Sums.begin.Goals as goal

pub returns-then-self-place-clause-sums : goal.returns-then-self-place-clause-sums
returns-then-self-place-clause-sums c = λ bytes are.
    let old = c.args.self.now in
    let new = c.put.new.self in
    let first : SumAt = record { at = c.args.place; sum = 0 } in
    let some : 0 < length new.cells.items = omega (arith, c.requires, ap length c.put.ensures.cells.1, length-set old.cells.items c.put.ensures.cells.0 first) in
    sums_begin c.args.place bytes old new c.put.ensures.cells.0 first c.put.ensures.cells.1 c.put.ensures.last refl refl c.if-self-place.true some are
