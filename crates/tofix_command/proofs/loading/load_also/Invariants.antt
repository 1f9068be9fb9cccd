use Rattle.std.proofs.Common.{◌≡◌}
use Rattle.map_types.specs.Trees.{members_of}
use Rattle.bridge_mapping.specs.Mapped.{mapping_of}
use Rattle.dump_lines.specs.Dumped.{AreInOrder}
use Rattle.schema_files.specs.Files.{after_loads}
use Rattle.schema_files.proofs.Loading.{Onward}
use Rattle.tofix_command.specs.Planned.{schemas_of, ArePlannedBy}
use Rattle.tofix_command.proofs.loading.load_also.Given as goal

-- the schemas so far, and what the files told
abbrev pub invariant-loop-i : goal.invariant-loop-i
invariant-loop-i g l = record {
  kept : (g.F.Files.state l.files).told ≡ (g.F.Files.state l.fn.files).told;
  calm : (g.F.Files.state l.files).faults ≡ (g.F.Files.state l.fn.files).faults;
  counted : g.F.Files.load_count l.files ≡ after_loads l.i (g.F.Files.load_count l.fn.files);
  order : AreInOrder (schemas_of l.all);
  planned : ArePlannedBy (mapping_of (members_of l.repository)) l.all;
  first : l.first ≡ l.all.first.layout;
  onward : Onward (g.F.Files.state l.fn.files).told (schemas_of l.fn.schemas) (schemas_of l.all) l.i l.also;
}
