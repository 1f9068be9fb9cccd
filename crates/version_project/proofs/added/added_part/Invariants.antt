use Rattle.std.proofs.Common.{◌≡◌, drop}
use Rattle.version_laws.specs.Forward.{added_part}
use Rattle.version_project.specs.Additions.{text}
use Rattle.version_project.proofs.added.added_part.Given as goal

abbrev pub invariant-loop-i : goal.invariant-loop-i
invariant-loop-i l = text (added_part l.fn.version (drop l.i l.fn.parts)) ≡ text (added_part l.fn.version l.fn.parts)
