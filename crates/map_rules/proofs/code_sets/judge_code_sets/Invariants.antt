use Rattle.std.proofs.Common.{◌≡◌, drop, codes}
use Rattle.map_members.specs.Lent.{lent_members}
use Rattle.map_rules.specs.Verdicts.{list_verdict}
use Rattle.map_rules.specs.Rules.{code_set_rules}
use Rattle.map_rules.proofs.code_sets.judge_code_sets.Given as goal

abbrev pub invariant-loop-i : goal.invariant-loop-i
invariant-loop-i l =
    list_verdict (codes "codeSets") (code_set_rules l.tables) l.i (lent_members (drop l.i l.code_sets))
    ≡ list_verdict (codes "codeSets") (code_set_rules l.tables) 0 (lent_members l.code_sets)
