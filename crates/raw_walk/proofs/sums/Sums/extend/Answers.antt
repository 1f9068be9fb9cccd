use Rattle.std.proofs.Common.{◌≡◌, ◌<◌, ◌+◌, ◌-◌, ◌%◌, length, take, drop, set, sum, ap, sym, refl, ◌∙◌, arith}
use Rattle.std.proofs.lemmas.List.{length-set}
use Rattle.raw_walk.specs.declared.sums.SumAt.{SumAt}
use Rattle.raw_walk.proofs.Remembered.{sums_extend}
use Rattle.raw_walk.proofs.sums.Sums.extend.Goals as goal

pub loop-i-preserved : goal.loop-i-preserved
loop-i-preserved c =
    let old = c.loop-i.self in
    let new = c.put.new.self in
    let bytes = c.args.held.now in
    let cell = c.put.ensures.cells.0 in
    let here : old.last.at ≡ c.args.place + c.loop-i.i = c.loop-i.invariant.0 in
    let at : new.last.at ≡ c.args.place + (c.loop-i.i + 64) = ap (λ (s : SumAt). s.at) c.put.ensures.last in
    let amount : new.last.sum ≡ (old.last.sum + c.sum_of.result) % 256 = ap (λ (s : SumAt). s.sum) c.put.ensures.last in
    let start : c.loop-i.i ≡ old.last.at - c.args.place = omega (arith, here) in
    let wide : c.loop-i.i + 64 - c.loop-i.i ≡ 64 = omega arith in
    let part : c.sum_of.result ≡ sum (take 64 (drop (old.last.at - c.args.place) bytes)) % 256 =
    c.sum_of.ensures ∙ ap (λ n. sum (take n (drop c.loop-i.i bytes)) % 256) wide ∙ ap (λ n. sum (take 64 (drop n bytes)) % 256) start in
    let put = c.put.ensures.cells.1 ∙ ap (λ s. set old.cells.items cell s) (sym c.put.ensures.last) in
    let some : 0 < length new.cells.items = omega (arith, c.loop-i.invariant.1.some, ap length put, length-set old.cells.items cell new.last) in (
      at,
      sums_extend c.args.place 64 bytes old new cell new.last put refl some (omega (arith, here)) c.loop-i.invariant.1 (omega (arith, at, here))
          (omega (arith, at, c.loop-i-test.true, c.if-to-i-ge-WIDTH.true, c.requires.within)) (amount ∙ ap (λ n. (old.last.sum + n) % 256) part),
    )
