use Rattle.std.proofs.Common.{◌≡◌, drop}
use Rattle.schema_facts.specs.Measured.{AreNarrowFields}
use Rattle.version_laws.specs.Differ.{no_fields, fields_differ}
use Rattle.version_project.proofs.differ.fields.fields_differ.Given as goal

abbrev pub invariant-loop-j : goal.invariant-loop-j
invariant-loop-j l = record {
  so_far : fields_differ l.fn.version l.fn.more (record { old = l.end; new = l.other_end }) (drop l.i l.fn.olds) (drop l.j l.fn.news) ≡ fields_differ l.fn.version l.fn.more no_fields l.fn.olds l.fn.news;
  old : AreNarrowFields l.end (drop l.i l.fn.olds);
  new : AreNarrowFields l.other_end (drop l.j l.fn.news);
}
