use Rattle.std.proofs.Common.{sym, ◌∙◌}
use Rattle.command_words.proofs.WordLists.{one_word}
use Rattle.command_words.proofs.options.draws_of.Goals as goal

pub returns-in_default : goal.returns-in_default
returns-in_default c = one_word c.args.words.now c.in_default.len_below (sym c.is_empty.ensures ∙ c.if-is_empty.false)
