use Rattle.std.proofs.Common.{◌≡◌, drop, codes}
use Rattle.map_members.specs.Lent.{lent_members}
use Rattle.map_rules.specs.Verdicts.{list_verdict}
use Rattle.map_rules.specs.Rules.{message_rules}
use Rattle.map_rules.proofs.references.judge_messages.Given as goal

abbrev pub invariant-loop-i : goal.invariant-loop-i
invariant-loop-i l =
    list_verdict (codes "messages") (message_rules l.fn.count l.ids l.structures) l.i (lent_members (drop l.i l.messages))
    ≡ list_verdict (codes "messages") (message_rules l.fn.count l.ids l.structures) 0 (lent_members l.messages)
