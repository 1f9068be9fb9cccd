use Rattle.std.proofs.Common.{subst, sym, take}
use Rattle.command_words.specs.Words.{FormRow, Says, said_by, said_after}
use Rattle.command_words.specs.contracts.forms.Row.{the_view}
use Rattle.command_words.proofs.WordLists.{texts, behind_one, behind_files, said_so}
use Rattle.command_words.proofs.words.read_row.Goals as goal

pub returns-clause-says : goal.returns-clause-says
returns-clause-says c =
    let words = c.args.words.now in
    let said = subst (λ (row : FormRow). Says c.read_values.result (said_after row (texts (take c.row.inside.files (behind_one words))) (texts (behind_files c.row.inside.files words))))
    (sym c.row.view_is) c.read_values.ensures.says in
    subst (λ (row : FormRow). Says c.read_values.result (said_by row (texts words))) c.row.view_is
    (rw (said_so (the_view c.row.inside) words c.in-len1-up.len_at_least c.if-rest-row.false) said)
