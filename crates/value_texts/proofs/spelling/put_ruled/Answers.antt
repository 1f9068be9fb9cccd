use Rattle.fix_values.specs.Values.{text_of, Leaves}
use Rattle.value_texts.proofs.Leaving.{leaves_value, whole}
use Rattle.value_texts.proofs.Plain.{number_plain, value_of_plain}
use Rattle.value_texts.proofs.spelling.put_ruled.Goals as goal

pub put_shown-requires-clause-value : goal.put_shown-requires-clause-value
put_shown-requires-clause-value c =
    let shown = c.show_num-shown in
    let rule = c.args.rule.now in
    leaves_value shown.result shown.new.out (text_of rule c.args.n) (whole (λ n. Leaves shown.result shown.new.out (text_of rule n)) c.args.n c.ranges.n shown.ensures)
    (λ t h. value_of_plain t (number_plain rule c.args.n c.ranges.n c.requires.rule t h))

pub returns-clause-put : goal.returns-clause-put
returns-clause-put c = λ lists unpaired.
    let shown = c.show_num-shown in
    let left = whole (λ n. Leaves shown.result shown.new.out (text_of c.args.rule.now n)) c.args.n c.ranges.n shown.ensures in
    c.put_shown.ensures.put lists (text_of c.args.rule.now c.args.n) unpaired left
