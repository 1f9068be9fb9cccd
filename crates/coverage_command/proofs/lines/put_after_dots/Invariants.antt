use Rattle.std.proofs.Common.{◌≡◌, ◌++◌, take}
use Rattle.std.specs.Prelude.{flat_map}
use Rattle.coverage_command.specs.Coverage.{after_dot}
use Rattle.coverage_command.proofs.lines.put_after_dots.Given as goal

abbrev pub invariant-loop-name : goal.invariant-loop-name
invariant-loop-name l = l.out.items ≡ l.fn.out.items ++ flat_map after_dot (take l.name-index l.names)
