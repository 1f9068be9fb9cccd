use Rattle.std.proofs.Common.{◌≡◌, drop}
use Rattle.message_walk.proofs.reached.step_groups.Given as goal

abbrev pub invariant-loop : goal.invariant-loop
invariant-loop l = record { left : l.groups ≡ drop l.counter l.fn.groups }
