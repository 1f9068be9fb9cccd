use Rattle.std.proofs.Common.{Ok, sym, subst}
use Rattle.command_files.specs.Files.{LoadsFiles}
use Rattle.schema_files.specs.Files.{loads_with_map}
use Rattle.tosbe_command.specs.Bridges.{tosbe_files, BackBridge}
use Rattle.tosbe_command.specs.declared.files.BridgeFiles.{BridgeFiles}
use Rattle.tosbe_command.proofs.Loaded.{bridge_wanting, cause_kept, loaded_short, named_kept}
use Rattle.tosbe_command.proofs.tosbe.load_tosbe.Goals as goal

pub returns-in-Err-clause-loads : goal.returns-in-Err-clause-loads
returns-in-Err-clause-loads g c = c.in-Err.ensures.loads c.args.limits.frame

pub returns-in-Err-clause-cause : goal.returns-in-Err-clause-cause
returns-in-Err-clause-cause g c = cause_kept BridgeFiles BackBridge _ _ c.in-Err.stop c.in-Err.ensures.cause

pub returns-in-Err-clause-names : goal.returns-in-Err-clause-names
returns-in-Err-clause-names g c = named_kept BridgeFiles BackBridge loads_with_map _ _ c.in-Err.stop c.in-Err.ensures.names

pub new-requires-clause-kept : goal.new-requires-clause-kept
new-requires-clause-kept g c = c.in-Ok.ensures.good.kept

pub new-requires-clause-short : goal.new-requires-clause-short
new-requires-clause-short g c = loaded_short c.in-Ok.files.repository c.in-Ok.ensures.good.read

pub returns-in-Ok-new-clause-loads : goal.returns-in-Ok-new-clause-loads
returns-in-Ok-new-clause-loads g c =
    let told = (g.F.Files.state c.args.files.now).told in
    subst (λ (b : BackBridge). LoadsFiles (tosbe_files c.args.schema.now c.args.map.now c.args.limits.frame) told (Ok b)) (sym c.in-Ok-new.ensures.is)
    (c.in-Ok.ensures.loads c.args.limits.frame)

pub returns-in-Err-new-clause-loads : goal.returns-in-Err-new-clause-loads
returns-in-Err-new-clause-loads g c = bridge_wanting (g.F.Files.state c.args.files.now).told c.args.schema.now c.args.map.now c.args.limits.frame
