use Rattle.fix_values.specs.Values.{Leaves}
use Rattle.date_answers.specs.Answers.{day_shown}
use Rattle.bridge_rules.specs.Texts.{field_text}
use Rattle.value_texts.specs.Made.{kept_of}
use Rattle.value_texts.proofs.Leaving.{whole}
use Rattle.value_texts.proofs.MadeRows.{kept_is, kept_ok}
use Rattle.value_texts.proofs.Plain.{day_plain}
use Rattle.value_texts.proofs.making.day_text.Goals as goal

pub returns : goal.returns
returns c =
    let shown = c.show_day_number-shown.result in
    let text = c.show_day_number-shown.new.out in
    kept_ok c.kept.result (kept_of shown text) (field_text (day_shown c.args.n)) c.kept.ensures
    (kept_is shown text (day_shown c.args.n) (whole (λ n. Leaves shown text (day_shown n)) c.args.n c.ranges.n c.show_day_number-shown.ensures) (day_plain c.args.n))
