use Rattle.std.proofs.Common.{◌≡◌, drop}
use Rattle.schema_rules.specs.Kinds.{kind_named, members_of}
use Rattle.schema_rules.specs.Checked.{no_message, messages_check}
use Rattle.schema_check.proofs.messages.judge_messages.Given as goal

abbrev pub invariant-loop-message : goal.invariant-loop-message
invariant-loop-message l =
    messages_check (members_of l.known (kind_named l.known) l.header) (record { types = l.known; level = l.level }) (record { names = l.names; ids = l.ids }) (drop l.message-index l.messages)
    ≡ messages_check (members_of l.known (kind_named l.known) l.header) (record { types = l.known; level = l.level }) no_message l.messages
