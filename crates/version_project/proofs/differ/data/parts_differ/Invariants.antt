use Rattle.std.proofs.Common.{◌≡◌, drop}
use Rattle.version_project.specs.Paired.{parts_compare}
use Rattle.version_project.proofs.differ.data.parts_differ.Given as goal

abbrev pub invariant-loop-new : goal.invariant-loop-new
invariant-loop-new l = parts_compare l.version (drop l.i l.olds) (drop l.new-index l.news) ≡ parts_compare l.version l.olds l.news
