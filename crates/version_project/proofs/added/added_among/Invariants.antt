use Rattle.std.proofs.Common.{◌≡◌, drop}
use Rattle.version_laws.specs.Forward.{added_among}
use Rattle.version_project.specs.Additions.{text}
use Rattle.version_project.proofs.added.added_among.Given as goal

abbrev pub invariant-loop-i : goal.invariant-loop-i
invariant-loop-i l = text (added_among l.fn.version l.fn.olds (drop l.i l.fn.news)) ≡ text (added_among l.fn.version l.fn.olds l.fn.news)
