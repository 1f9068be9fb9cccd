use Rattle.std.proofs.Common.{◌≡◌, ◌≤◌, length, drop, sym, ap, subst, arith, ◌∙◌}
use Rattle.way_texts.proofs.Rows.{part_here, no_part, passed_row}
use Rattle.way_texts.proofs.find.rows_from.Goals as goal

pub rows-preserved : goal.rows-preserved
rows-preserved g c = λ lists p rows.
    let q = c.rows.invariant lists p rows in
    let rest : c.rest_from.result.now ≡ drop 1 c.rows.left.now = c.rest_from.ensures in
    let past = passed_row g.R.PutValue.spells lists q.0 c.args.tag c.rows.left.now c.after_own-left.result.now c.first-row.result.now q.1 c.first-row.ensures
    (λ is. c.if-tag.false (c.tag.ensures ∙ is))
    (λ size is few. c.after_own-left.ensures.group size is (subst (λ xs. size ≤ length xs) (sym rest) few) ∙ ap (drop size) rest)
    (λ none. c.after_own-left.ensures.slot none ∙ rest) in
    (past.plan, past.rows_are, λ level way. q.2 level way ∙ past.text level way)

pub returns-then-tag : goal.returns-then-tag
returns-then-tag g c = λ lists p level rows.
    let q = c.rows.invariant lists p rows in
    let here = part_here g.R.PutValue.spells lists q.0 c.args.tag level c.rows.left.now c.first-row.result.now q.1 c.first-row.ensures (sym c.tag.ensures ∙ c.if-tag.true) in
    record { plan = here.plan; rows_are = here.rows_are; text = λ way. q.2 level way ∙ here.text way }

pub returns : goal.returns
returns g c = λ lists p level rows.
    let q = c.rows.invariant lists p rows in
    let end = no_part g.R.PutValue.spells lists q.0 c.args.tag level c.rows.left.now (omega (arith, c.rows-test.false)) q.1 in
    record { plan = end.plan; rows_are = end.rows_are; text = λ way. q.2 level way ∙ end.text way }
