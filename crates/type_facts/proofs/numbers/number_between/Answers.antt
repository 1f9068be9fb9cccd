use Rattle.std.proofs.Common.{◌≡◌, ap, sym, ◌∙◌, to_z-of_z, rules, FitsSigned, ℤ, Option, Some, None}
use Rattle.std.specs.Prelude.{◌&&◌, int_le, if◌then◌else◌}
use mir.Val.{to_z, of_z}
use mir.Syntax.{w128}
use Rattle.schema_rules.specs.Ranges.{number_between}
use Rattle.type_facts.proofs.WholeLemmas.{between_read, between_unread, kept_alike}
use Rattle.type_facts.proofs.numbers.number_between.Goals as goal

pub returns-in-Some : goal.returns-in-Some
returns-in-Some c =
    let same : c.in-Ok.text.now ≡ c.args.text.now = c.in-Ok.ensures.cases.0 in
    let fits : FitsSigned w128 c.in-Some.n = search rules in
    c.kept_between.ensures
    ∙ kept_alike _ _ _ _ _ _ (to_z-of_z c.ranges.least) (to_z-of_z c.ranges.most) (to_z-of_z fits)
    ∙ sym (between_read c.args.least c.args.most c.in-Ok.text.now c.in-Some.n (sym c.whole_in.ensures ∙ c.in-Some.is))
    ∙ ap (number_between c.args.least c.args.most) same

pub returns-in-Err : goal.returns-in-Err
returns-in-Err c = between_unread c.args.least c.args.most c.args.text.now c.in-Err.ensures.cases.0
