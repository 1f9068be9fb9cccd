use Rattle.fix_values.specs.Values.{text_of, Leaves}
use Rattle.value_texts.proofs.Leaving.{leaves_value, whole}
use Rattle.value_texts.proofs.Plain.{number_plain, value_of_plain}
use Rattle.value_texts.proofs.spelling.Spelling.show.Goals as goal

pub returns-clause-value : goal.returns-clause-value
returns-clause-value c =
    let shown = c.show_num in
    let rule = c.self.inside.rule in
    leaves_value shown.result shown.new.out (text_of rule c.args.n) (whole (λ n. Leaves shown.result shown.new.out (text_of rule n)) c.args.n c.ranges.n shown.ensures)
    (λ t h. value_of_plain t (number_plain rule c.args.n c.ranges.n c.self.invariant.0 t h))
