use Rattle.std.proofs.Common.{ap, sym, ◌∙◌}
use Rattle.command_words.specs.Words.{fits_values, are_options}
use Rattle.command_words.proofs.WordLists.{texts, after_some, values_so}
use Rattle.command_words.specs.contracts.forms.Row.{the_view}
use Rattle.command_words.proofs.forms.Row.fits_values.Goals as goal

pub returns : goal.returns
returns c = c.takes_all.ensures ∙
    sym (ap (λ row. are_options row.options (texts (after_some c.self.inside.numbers c.args.values.now))) c.self.view_is) ∙
    values_so (the_view c.self.inside) c.args.values.now c.if-values-self.false
    ∙ ap (λ row. fits_values row (texts c.args.values.now)) c.self.view_is
