use Rattle.std.proofs.Common.{◌≡◌, ◌++◌, drop, map}
use Rattle.schema_rules.specs.Resolved.{resolved_message}
use Rattle.schema_check.specs.Reach.{AreShortMessages}
use Rattle.schema_check.proofs.checking.resolve_messages.Given as goal

abbrev pub invariant-loop-message : goal.invariant-loop-message
invariant-loop-message l = record {
  short : AreShortMessages l.resolver (drop l.message-index l.messages);
  made : l.levels ++ map (resolved_message l.resolver) (drop l.message-index l.messages) ≡ map (resolved_message l.resolver) l.messages;
}
