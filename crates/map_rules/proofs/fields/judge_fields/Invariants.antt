use Rattle.std.proofs.Common.{◌≡◌, drop, codes}
use Rattle.map_members.specs.Lent.{lent_members}
use Rattle.map_rules.specs.Verdicts.{list_verdict}
use Rattle.map_rules.specs.Rules.{field_rules}
use Rattle.map_rules.proofs.fields.judge_fields.Given as goal

abbrev pub invariant-loop-i : goal.invariant-loop-i
invariant-loop-i l =
    list_verdict (codes "fields") (field_rules l.ids l.tables (lent_members l.fields)) l.i (lent_members (drop l.i l.fields))
    ≡ list_verdict (codes "fields") (field_rules l.ids l.tables (lent_members l.fields)) 0 (lent_members l.fields)
