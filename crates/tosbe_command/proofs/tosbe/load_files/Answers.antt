use Rattle.std.proofs.Common.{◌∙◌, ap}
use Rattle.sbe_base.specs.Causes.{one_more}
use Rattle.schema_files.specs.Files.{loads_with_map}
use Rattle.schema_files.specs.declared.files.FileRole.TheVariants as role
use Rattle.schema_files.proofs.Loading.{named_last_by}
use Rattle.tosbe_command.specs.Bridges.{IsReadPair}
use Rattle.tosbe_command.specs.declared.files.BridgeFiles.{BridgeFiles}
use Rattle.tosbe_command.proofs.Loaded.{both_loaded, map_stopped, pair_good, schema_stopped}
use Rattle.tosbe_command.proofs.tosbe.load_files.Goals as goal

-- ---- the schema isn't accepted

pub returns-in-Err-clause-loads : goal.returns-in-Err-clause-loads
returns-in-Err-clause-loads g c = λ frame.
    rw c.of.ensures (schema_stopped (g.F.Files.state c.args.files.now).told c.args.schema.now c.args.map.now frame c.in-Err.stop c.in-Err.ensures.loads)

pub returns-in-Err-clause-names : goal.returns-in-Err-clause-names
returns-in-Err-clause-names g c = rw c.of.ensures (named_last_by BridgeFiles loads_with_map role.Schema (g.F.Files.load_count c.args.files.now) _ c.in-Err.stop c.in-Err.ensures.count)

-- ---- both are accepted

pub returns-in-Ok-load_map-clause-loads : goal.returns-in-Ok-load_map-clause-loads
returns-in-Ok-load_map-clause-loads g c = λ frame.
    let both : BridgeFiles = record { checked = c.in-Ok.checked; repository = c.in-Ok-load_map.repository } in
    let is : IsReadPair both = record { checked = c.schema-schema.ensures.order; kept = c.in-Ok-load_map.ensures.rules; read = c.in-Ok-load_map.ensures.read } in
    both_loaded (g.F.Files.state c.args.files.now).told c.args.schema.now c.args.map.now frame both.checked both.repository (pair_good both frame is) c.in-Ok.ensures.loads
    (rw c.load_checked.ensures.kept at c.in-Ok-load_map.ensures.loads)

pub returns-in-Ok-load_map-clause-good : goal.returns-in-Ok-load_map-clause-good
returns-in-Ok-load_map-clause-good g c =
    record { checked = c.schema-schema.ensures.order; kept = c.in-Ok-load_map.ensures.rules; read = c.in-Ok-load_map.ensures.read }

-- ---- the mapping isn't accepted

pub returns-in-Err-load_map-clause-loads : goal.returns-in-Err-load_map-clause-loads
returns-in-Err-load_map-clause-loads g c = λ frame.
    rw c.of-in-Err-load_map.ensures
    (map_stopped (g.F.Files.state c.args.files.now).told c.args.schema.now c.args.map.now frame c.in-Ok.checked c.in-Err-load_map.stop c.in-Ok.ensures.loads
    (rw c.load_checked.ensures.kept at c.in-Err-load_map.ensures.loads))

pub returns-in-Err-load_map-clause-names : goal.returns-in-Err-load_map-clause-names
returns-in-Err-load_map-clause-names g c =
    rw c.of-in-Err-load_map.ensures
    (named_last_by BridgeFiles loads_with_map role.Map (g.F.Files.load_count c.args.files.now) _ c.in-Err-load_map.stop (c.in-Err-load_map.ensures.count ∙ ap one_more c.in-Ok.ensures.count))
