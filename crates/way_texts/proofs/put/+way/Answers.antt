use Rattle.std.proofs.Common.{◌≡◌, ◌≤◌, ◌++◌, length, take, drop, map, refl, sym, ap, subst, ◌∙◌}
use Rattle.std.specs.Prelude.{slice_get, codes}
use Rattle.std.proofs.lemmas.Option.{slice_get_read, slice_get_past}
use Rattle.message_walk.specs.Rows.{size_of, AreRows}
use Rattle.message_walk.specs.Ways.{way_of}
use Rattle.printers.proofs.Printing.{prints_nothing, reprinted, then_prints}
use Rattle.way_texts.specs.WayTexts.{group_text, inside_text, part_text}
use Rattle.way_texts.proofs.Rows.{at_group, left_rows}
use Rattle.way_texts.proofs.Steps.{in_part}
use Rattle.way_texts.proofs.put.+way.Goals as goal

pub put_inside-returns-in-Some-clause-text : goal.put_inside-returns-in-Some-clause-text
put_inside-returns-in-Some-clause-text g t c = λ lists p rows.
    let level = c.args.level.now in
    let tag = c.in-Some.tag in
    let from = c.rows_from.ensures lists p level rows in
    let after = map way_of c.after_first.result.now in
    reprinted
    (sym (in_part (λ t w. part_text p level t w) (map way_of c.args.way.now) tag (sym c.first_part.ensures ∙ c.in-Some.is)
    ∙ ap (λ w. codes "." ++ part_text p level tag w) (sym c.after_first.ensures.steps) ∙ ap (λ text. codes "." ++ text) (from.text after)))
    (then_prints c.put.ensures (c.put_part.ensures.text lists from.plan from.rows_are))

pub put_part-returns-in-Some-clause-text : goal.put_part-returns-in-Some-clause-text
put_part-returns-in-Some-clause-text g t c = λ lists p rows.
    let level = c.args.level.now in
    let row = c.first-row.result.now in
    let left = c.args.rows.now in
    let size = c.in-Group.size in
    let found = c.in-Some.group.now in
    let at = at_group g.R.PutValue.spells lists p row (drop 1 left) size (left_rows g.R.PutValue.spells lists p left row rows c.first-row.ensures) (ap size_of c.in-Group.is) in
    let rest : c.rest_from-rest.result.now ≡ drop 1 left = c.rest_from-rest.ensures in
    let own : c.own_rows.result.now ≡ take size (drop 1 left) = c.own_rows.ensures (subst (λ xs. size ≤ length xs) (sym rest) at.within) ∙ ap (take size) rest in
    let there = ap (λ gs. slice_get gs row.number) (sym c.as_slice.ensures) ∙ slice_get_read c.as_slice.result.now (length c.as_slice.result.now) row.number found refl c.in-Some.ensures.lookup.3.0 c.in-Some.ensures.lookup.1 in
    reprinted (sym (at.text level (map way_of c.args.way.now) ∙ ap (λ o. group_text o (λ below more. inside_text (λ t w. part_text at.inner below t w) more) (map way_of c.args.way.now)) there))
    (c.put_group.ensures.text lists at.inner (subst (AreRows g.R.PutValue.spells lists at.inner) (sym own) at.own_rows))

pub put_part-returns-in-None-clause-text : goal.put_part-returns-in-None-clause-text
put_part-returns-in-None-clause-text g t c = λ lists p rows.
    let level = c.args.level.now in
    let row = c.first-row.result.now in
    let left = c.args.rows.now in
    let size = c.in-Group.size in
    let at = at_group g.R.PutValue.spells lists p row (drop 1 left) size (left_rows g.R.PutValue.spells lists p left row rows c.first-row.ensures) (ap size_of c.in-Group.is) in
    let none = ap (λ gs. slice_get gs row.number) (sym c.as_slice.ensures) ∙ slice_get_past c.as_slice.result.now row.number c.in-None.ensures.lookup.3 in
    reprinted (sym (at.text level (map way_of c.args.way.now) ∙ ap (λ o. group_text o (λ below more. inside_text (λ t w. part_text at.inner below t w) more) (map way_of c.args.way.now)) none))
    prints_nothing
