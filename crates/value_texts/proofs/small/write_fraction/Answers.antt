use Rattle.std.proofs.Common.{◌∙◌, arith, ◌%◌, ◌^◌}
use Rattle.std.proofs.lemmas.List.{drop_all}
use Rattle.value_texts.proofs.SmallDecimals.{none_pointed, point_written}
use Rattle.value_texts.proofs.small.write_fraction.Goals as goal

pub returns-then-places-eq0-clause-text : goal.returns-then-places-eq0-clause-text
returns-then-places-eq0-clause-text c =
    drop_all 40 c.args.room.now (omega (arith, c.requires.long)) ∙ none_pointed c.args.places c.args.size c.if-places-eq0.true

pub returns-clause-text : goal.returns-clause-text
returns-clause-text c =
    let written = c.write_places-whole in
    point_written written.new.room written.result.1 c.args.places (c.args.size % 10 ^ c.args.places) (omega (arith, c.if-places-eq0.false))
    (omega (arith, written.ensures.begin, c.requires.few)) (omega (arith, written.ensures.begin, written.ensures.long)) written.ensures.text
