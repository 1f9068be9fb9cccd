use Rattle.std.proofs.Common.{sym, ap, ◌∙◌, rules, FitsSigned}
use Rattle.std.specs.Int.{w128}
use Rattle.std.proofs.lemmas.Int.{to_z-of_z}
use Rattle.fix_values.specs.Numerals.{integer_of}
use Rattle.fix_values.specs.Values.{integer_value}
use Rattle.field_judge.specs.Refusals.{size_of}
use Rattle.field_judge.proofs.Counting.{count_err, count_ok}
use Rattle.field_judge.proofs.counts.read_count.Goals as goal

pub returns-in-Ok : goal.returns-in-Ok
returns-in-Ok c =
    let fits : FitsSigned w128 c.in-Ok.n = search rules in
    c.size_of.ensures ∙ ap size_of (to_z-of_z w128 c.in-Ok.n fits)
    ∙ count_ok c.args.leaf.now (integer_of c.args.text.now) c.in-Ok.n (ap (λ l. integer_value l c.args.text.now) (sym c.required.ensures) ∙ sym c.read_num.ensures ∙ c.in-Ok.is)

pub returns-in-Err : goal.returns-in-Err
returns-in-Err c = count_err c.args.leaf.now (integer_of c.args.text.now) c.in-Err.why (ap (λ l. integer_value l c.args.text.now) (sym c.required.ensures) ∙ sym c.read_num.ensures ∙ c.in-Err.is)
