use Rattle.std.proofs.Common.{◌≡◌, ◌++◌, ap, ◌∙◌, arith, length}
use Rattle.layout_tables.specs.Parts.{places_in}
use Rattle.layout_compile.proofs.DataParts.{places_more}
use Rattle.layout_compile.proofs.numbers.places_of.Goals as goal

pub loop-level-preserved : goal.loop-level-preserved
loop-level-preserved c =
    let many : c.in-Some-narrowed.many ≡ length c.index-levels-level.result.parts.items = omega (arith, c.in-Some-narrowed.ensures.same, c.len.ensures) in
    let level : c.in-Some.number ≡ c.loop-level.level = omega (arith, c.in-Some.ensures.same) in
    places_more c.args.levels.now c.loop-level.level c.loop-level.places.items c.push_places.new.places.items c.index-levels-level.result
    (omega arith) c.index-levels-level.is c.loop-level.invariant
    (c.in_ok-push_places.ensures ∙ ap (λ n. c.loop-level.places.items ++ places_in n 0 c.in-Some-narrowed.many) level ∙ ap (λ n. c.loop-level.places.items ++ places_in c.loop-level.level 0 n) many)
