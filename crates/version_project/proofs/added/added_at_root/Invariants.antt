use Rattle.std.proofs.Common.{◌≡◌, drop}
use Rattle.sbe_types.specs.declared.schema.Level.{out-Level}
use Rattle.version_laws.specs.Forward.{added_at_root}
use Rattle.version_project.specs.Additions.{text, early_each}
use Rattle.version_project.proofs.added.added_at_root.Given as goal

abbrev pub invariant-loop-i : goal.invariant-loop-i
invariant-loop-i l = text (early_each l.fn.version (out-Level l.fn.level).parts (drop l.i (out-Level l.fn.level).groups)) ≡ text (added_at_root l.fn.version l.fn.level)
