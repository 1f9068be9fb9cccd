use Rattle.std.proofs.Common.{subst}
use Rattle.map_files.specs.Maps.{ReadsMap}
use Rattle.map_files.proofs.Loading.{map_loaded}
use Rattle.map_files.proofs.map_file.load_map.Goals as goal

pub returns-in-Ok-clause-loads : goal.returns-in-Ok-clause-loads
returns-in-Ok-clause-loads g c =
    map_loaded (g.F.Files.state c.args.files.now).told c.args.name.now c.load.new.into.items c.read_repository.result c.in-Ok.ensures.loads
    (subst (λ b. ReadsMap b c.read_repository.result) c.as_slice.ensures.value c.read_repository.ensures.reads)
