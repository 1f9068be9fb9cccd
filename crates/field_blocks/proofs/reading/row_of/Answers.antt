use Rattle.std.proofs.Common.{get_or, sym, ap, ◌∙◌}
use Rattle.bridge_rules.proofs.OptionLemmas.{some_is, none_some}
use Rattle.field_blocks.proofs.Rows.{own_place, own_row}
use Rattle.field_blocks.proofs.reading.row_of.Goals as goal

pub returns-in-None-clause-row : goal.returns-in-None-clause-row
returns-in-None-clause-row c = λ levels p k h rows at same.
    none_some (sym c.in-None.is ∙ own_place levels p c.args.back.now k c.args.id h c.place_in.result rows at same c.place_in.ensures.place)

pub returns-in-Some-clause-row : goal.returns-in-Some-clause-row
returns-in-Some-clause-row c = λ levels p k h rows at same.
    let is = some_is (sym c.in-Some.is ∙ own_place levels p c.args.back.now k c.args.id h c.place_in.result rows at same c.place_in.ensures.place) in
    (own_row levels p c.args.back.now c.in-Some.k k h c.at.result.now rows at is c.at.ensures, c.place_at.ensures ∙ ap (λ n. get_or c.args.places.now n 0) is)

pub returns-in-Some-clause-place : goal.returns-in-Some-clause-place
returns-in-Some-clause-place c = (c.in-Some.k, c.place_at.ensures)
