use Rattle.std.proofs.Common.{subst}
use Rattle.command_words.specs.Words.{FormRow, Says, said_after}
use Rattle.command_words.specs.contracts.forms.Row.{the_view}
use Rattle.command_words.proofs.WordLists.{texts, said_values}
use Rattle.command_words.proofs.words.read_values.Goals as goal

pub returns-clause-says : goal.returns-clause-says
returns-clause-says c =
    subst (λ (row : FormRow). Says c.read_command.result (said_after row (texts c.args.files.now) (texts c.args.values.now))) c.row.view_is
    (rw (said_values (the_view c.row.inside) (texts c.args.files.now) c.args.values.now c.if-values-row.false) c.read_command.ensures.says)
