use Rattle.std.proofs.Common.{◌≡◌, drop}
use Rattle.version_laws.specs.Forward.{early_part}
use Rattle.version_project.specs.Additions.{text}
use Rattle.version_project.proofs.added.early_part.Given as goal

abbrev pub invariant-loop-i : goal.invariant-loop-i
invariant-loop-i l = text (early_part l.fn.version (drop l.i l.fn.parts)) ≡ text (early_part l.fn.version l.fn.parts)
