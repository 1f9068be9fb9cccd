use Rattle.std.proofs.Common.{sym, ap, map, ◌∙◌}
use Rattle.message_walk.specs.Ways.{way_of}
use Rattle.printers.proofs.Printing.{reprinted}
use Rattle.way_texts.specs.WayTexts.{part_text}
use Rattle.way_texts.proofs.Steps.{to_root}
use Rattle.way_texts.proofs.put.put_way.Goals as goal

pub returns-in-Some-clause-text : goal.returns-in-Some-clause-text
returns-in-Some-clause-text g c = λ lists p rows.
    let level = c.args.root.now in
    let tag = c.in-Some.tag in
    let from = c.rows_from.ensures lists p level rows in
    let after = map way_of c.after_first.result.now in
    reprinted
    (sym (to_root p level (map way_of c.args.way.now) tag (sym c.first_part.ensures ∙ c.in-Some.is) ∙ ap (part_text p level tag) (sym c.after_first.ensures.steps) ∙ from.text after))
    (c.put_part.ensures.text lists from.plan from.rows_are)
