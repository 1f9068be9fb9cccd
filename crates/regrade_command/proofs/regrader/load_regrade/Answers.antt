use Rattle.std.proofs.Common.{ap, ◌∙◌}
use Rattle.sbe_base.specs.Causes.{one_more}
use Rattle.schema_files.specs.declared.files.FileRole.TheVariants as role
use Rattle.schema_files.proofs.Loading.{named_last}
use Rattle.regrade_command.specs.Regrade.{FromTo, Regrading}
use Rattle.regrade_command.proofs.Loaded.{from_stopped, pair_loaded, pair_caused, pair_named}
use Rattle.regrade_command.proofs.regrader.load_regrade.Goals as goal

pub returns-in-Err-clause-loads : goal.returns-in-Err-clause-loads
returns-in-Err-clause-loads g c = rw c.of.ensures (from_stopped _ _ _ _ c.in-Err.stop c.in-Err.ensures.loads)

pub returns-in-Err-clause-names : goal.returns-in-Err-clause-names
returns-in-Err-clause-names g c = rw c.of.ensures (named_last Regrading role.From (g.F.Files.load_count c.args.files.now) _ c.in-Err.stop c.in-Err.ensures.count)

pub returns-in-Ok-load_checked-clause-loads : goal.returns-in-Ok-load_checked-clause-loads
returns-in-Ok-load_checked-clause-loads g c =
    pair_loaded _ _ _ _ c.in-Ok.schema c.in-Ok-load_checked.to c.in-Ok.ensures.loads (rw c.load_checked.ensures.kept at c.in-Ok-load_checked.ensures.loads) c.judge_pair.result
    c.judge_pair.ensures

pub returns-in-Ok-load_checked-clause-cause : goal.returns-in-Ok-load_checked-clause-cause
returns-in-Ok-load_checked-clause-cause g c =
    let pair : FromTo = record { from = c.in-Ok.schema; to = c.in-Ok-load_checked.to } in
    pair_caused pair c.args.limits.frame _ _ c.judge_pair.result c.judge_pair.ensures (c.in-Ok-load_checked.ensures.cause ∙ c.in-Ok.ensures.cause)

pub returns-in-Ok-load_checked-clause-names : goal.returns-in-Ok-load_checked-clause-names
returns-in-Ok-load_checked-clause-names g c =
    let pair : FromTo = record { from = c.in-Ok.schema; to = c.in-Ok-load_checked.to } in
    pair_named pair c.args.limits.frame (g.F.Files.load_count c.args.files.now) _ c.judge_pair.result c.judge_pair.ensures
    (c.in-Ok-load_checked.ensures.count ∙ ap one_more c.in-Ok.ensures.count)
