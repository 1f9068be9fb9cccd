use Rattle.std.proofs.Common.{◌≡◌, drop}
use Rattle.version_project.specs.IsPlain.{root_parts_pass}
use Rattle.version_project.proofs.plain_messages.root_parts.Given as goal

abbrev pub invariant-loop-i : goal.invariant-loop-i
invariant-loop-i l = root_parts_pass l.version (drop l.i l.parts) (drop l.i l.values) ≡ root_parts_pass l.version l.parts l.values
