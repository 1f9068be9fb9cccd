use Rattle.tofix_command.specs.Bridges.{words_in}
use Rattle.sbe_cli.proofs.Loading.{coverage_loaded, regrade_loaded, tofix_loaded, tofix_stopped, tosbe_loaded}
use Rattle.sbe_cli.proofs.pump.Work.open.Goals as goal

pub returns-in-Ok-load_coverage-clause-loads : goal.returns-in-Ok-load_coverage-clause-loads
returns-in-Ok-load_coverage-clause-loads g c =
    let told = (g.F.Files.state c.args.files.now).told in
    let loaded = rw (c.file-in-Coverage.ensures, c.file-in-Coverage-2.ensures) at c.in-Ok-load_coverage.ensures.loads in
    rw c.open-in-Ok-load_coverage.ensures (coverage_loaded c.args.command.now told c.in-Ok-load_coverage.checker c.in-Coverage.is loaded)

pub returns-in-Ok-open-4-clause-loads : goal.returns-in-Ok-open-4-clause-loads
returns-in-Ok-open-4-clause-loads g c =
    let told = (g.F.Files.state c.args.files.now).told in
    rw (c.in-Ok-open-4.ensures.command, c.in-Ok-open-4.ensures.limits)
    (tofix_loaded c.args.command.now told (words_in c.tofix_words.result) c.in-ToFix.is c.tofix_words.ensures.words c.in-Ok-load_tofix.translator c.in-Ok-load_tofix.ensures.loads)

pub returns-in-Err-load_tofix-clause-loads : goal.returns-in-Err-load_tofix-clause-loads
returns-in-Err-load_tofix-clause-loads g c =
    let told = (g.F.Files.state c.args.files.now).told in
    tofix_stopped c.args.command.now told (words_in c.tofix_words.result) c.in-ToFix.is c.tofix_words.ensures.words c.in-Err-load_tofix.stop c.in-Err-load_tofix.ensures.loads

pub returns-in-Ok-open-6-clause-loads : goal.returns-in-Ok-open-6-clause-loads
returns-in-Ok-open-6-clause-loads g c =
    let told = (g.F.Files.state c.args.files.now).told in
    let loaded = rw (c.file-from.ensures, c.file-to.ensures) at c.in-Ok-load_regrade.ensures.loads in
    rw (c.in-Ok-open-6.ensures.command, c.in-Ok-open-6.ensures.limits) (regrade_loaded c.args.command.now told c.in-Ok-load_regrade.regrader c.in-Regrade.is loaded)

pub returns-in-Ok-open-7-clause-loads : goal.returns-in-Ok-open-7-clause-loads
returns-in-Ok-open-7-clause-loads g c =
    let told = (g.F.Files.state c.args.files.now).told in
    let loaded = rw (c.file-in-ToSbe.ensures, c.file-in-ToSbe-2.ensures) at c.in-Ok-load_tosbe.ensures.loads in
    rw (c.in-Ok-open-7.ensures.command, c.in-Ok-open-7.ensures.limits) (tosbe_loaded c.args.command.now told c.in-Ok-load_tosbe.translator c.in-ToSbe.is loaded)
