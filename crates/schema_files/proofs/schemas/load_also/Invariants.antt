use Rattle.std.proofs.Common.{◌≡◌}
use Rattle.dump_lines.specs.Dumped.{AreInOrder}
use Rattle.schema_files.specs.Files.{after_loads}
use Rattle.schema_files.proofs.Loading.{Onward}
use Rattle.schema_files.proofs.schemas.load_also.Given as goal

-- the schemas so far, and what the files told
abbrev pub invariant-loop-i : goal.invariant-loop-i
invariant-loop-i g l = record {
  kept : (g.F.Files.state l.files).told ≡ (g.F.Files.state l.fn.files).told;
  calm : (g.F.Files.state l.files).faults ≡ (g.F.Files.state l.fn.files).faults;
  counted : g.F.Files.load_count l.files ≡ after_loads l.i (g.F.Files.load_count l.fn.files);
  order : AreInOrder l.all;
  first : l.first ≡ l.all.first;
  onward : Onward (g.F.Files.state l.fn.files).told l.fn.schemas l.all l.i l.also;
}
