use Rattle.std.proofs.Common.{◌≡◌, drop}
use Rattle.sbe_wire.specs.Faults.{message_named}
use Rattle.regrade.proofs.templates.template_of.Given as goal

abbrev pub invariant-loop-i : goal.invariant-loop-i
invariant-loop-i l = message_named l.i l.fn.id (drop l.i l.fn.messages) ≡ message_named 0 l.fn.id l.fn.messages
