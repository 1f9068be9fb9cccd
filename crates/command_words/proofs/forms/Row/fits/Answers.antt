use Rattle.std.proofs.Common.{ap, sym, ◌∙◌}
use Rattle.command_words.specs.Words.{fits, fits_values}
use Rattle.command_words.proofs.WordLists.{texts, behind_files, fits_so}
use Rattle.command_words.specs.contracts.forms.Row.{the_view}
use Rattle.command_words.proofs.forms.Row.fits.Goals as goal

pub returns-then-not-are_file_names : goal.returns-then-not-are_file_names
returns-then-not-are_file_names c =
    fits_so (the_view c.self.inside) c.args.words.now c.word-item.result c.as_str.result.now _ c.in-len1-up.len_at_least c.word-item.is c.as_str.ensures.value (sym c.ne.ensures ∙ c.if-ne.false)
    c.if-rest-self.false (sym c.if-not-are_file_names.true ∙ c.are_file_names.ensures)
    ∙ ap (λ row. fits row (texts c.args.words.now)) c.self.view_is

pub returns : goal.returns
returns c = c.fits_values.ensures ∙
    sym (ap (λ row. fits_values row (texts (behind_files c.self.inside.files c.args.words.now))) c.self.view_is) ∙
    fits_so (the_view c.self.inside) c.args.words.now c.word-item.result c.as_str.result.now _ c.in-len1-up.len_at_least c.word-item.is c.as_str.ensures.value (sym c.ne.ensures ∙ c.if-ne.false)
    c.if-rest-self.false (sym c.if-not-are_file_names.false ∙ c.are_file_names.ensures)
    ∙ ap (λ row. fits row (texts c.args.words.now)) c.self.view_is
