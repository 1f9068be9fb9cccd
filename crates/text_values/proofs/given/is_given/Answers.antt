use Rattle.std.proofs.Common.{sym, ap, ◌∙◌}
use Rattle.text_values.specs.Rows.{given}
use Rattle.text_values.proofs.GivenTexts.{shown_given, unshown_given}
use Rattle.text_values.proofs.given.is_given.Goals as goal

pub returns-in-Ok : goal.returns-in-Ok
returns-in-Ok c = sym (ap (λ a. given a c.args.text.now) c.if-any.false ∙ shown_given c.args.text.now tt (sym c.show_text.ensures ∙ c.in-Ok.is))

pub returns-in-Err : goal.returns-in-Err
returns-in-Err c = sym (ap (λ a. given a c.args.text.now) c.if-any.false ∙ unshown_given c.args.text.now _ (sym c.show_text.ensures ∙ c.in-Err.is))
