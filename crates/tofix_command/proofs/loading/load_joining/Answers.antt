use Rattle.std.proofs.Common.{◌≡◌, ◌∙◌, Some, Ok, sym, ap, subst}
use Rattle.schema_files.specs.FileChecks.{is_taken, Joins}
use Rattle.schema_files.specs.Files.{further_schema}
use Rattle.schema_files.proofs.Loading.{judged_joined, not_joined}
use Rattle.tofix_command.specs.Planned.{schemas_of}
use Rattle.tofix_command.proofs.Loaded.{joined_laid_out}
use Rattle.tofix_command.proofs.loading.load_joining.Goals as goal

pub returns-in-Err-clause-loads : goal.returns-in-Err-clause-loads
returns-in-Err-clause-loads g c =
    not_joined (g.F.Files.state c.args.files.now).told (schemas_of c.args.all.now) c.args.name.now c.in-Err.stop c.in-Err.ensures.loads

pub returns-in-Some-clause-loads : goal.returns-in-Some-clause-loads
returns-in-Some-clause-loads g c =
    let all = schemas_of c.args.all.now in
    let checked = c.in-Ok.checked in
    let taken = c.has_id.ensures ∙ ap (is_taken all) c.id.ensures in
    let joins = c.why_not_joined.ensures all (sym c.requires.first) taken in
    judged_joined (g.F.Files.state c.args.files.now).told all c.args.name.now checked _ c.in-Ok.ensures.loads (subst (λ why. Joins all checked (further_schema checked why)) c.in-Some.is joins)

pub returns-in-Ok-planned-clause-loads : goal.returns-in-Ok-planned-clause-loads
returns-in-Ok-planned-clause-loads g c =
    let all = schemas_of c.args.all.now in
    let checked = c.in-Ok.checked in
    let taken = c.has_id.ensures ∙ ap (is_taken all) c.id.ensures in
    let joins = c.why_not_joined.ensures all (sym c.requires.first) taken in
    let told = (g.F.Files.state c.args.files.now).told in
    joined_laid_out told all c.args.name.now checked c.in-Ok-planned.further.layout c.in-Ok.ensures.loads (subst (λ why. Joins all checked (further_schema checked why)) c.in_default.is joins)
    c.in-Ok-planned.ensures.layout
