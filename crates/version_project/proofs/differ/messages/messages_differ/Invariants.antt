use Rattle.std.proofs.Common.{◌≡◌, drop}
use Rattle.version_laws.specs.Differ.{messages_differ}
use Rattle.version_project.proofs.differ.messages.messages_differ.Given as goal

abbrev pub invariant-loop-i : goal.invariant-loop-i
invariant-loop-i l = messages_differ l.fn.version l.fn.more (drop l.i l.fn.olds) l.fn.news ≡ messages_differ l.fn.version l.fn.more l.fn.olds l.fn.news
