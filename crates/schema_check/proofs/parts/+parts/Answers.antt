use Rattle.std.proofs.Common.{◌≡◌, ap, sym, subst, ◌∙◌}
use Rattle.schema_rules.specs.Judging.{Gives}
use Rattle.schema_rules.specs.PartRules.{Scope, PartsBefore, part_check}
use Rattle.schema_check.proofs.GroupRows.{group_is}
use Rattle.schema_check.proofs.parts.+parts.Goals as goal

pub judge_part-returns-in-Group-clause-judged : goal.judge_part-returns-in-Group-clause-judged
judge_part-returns-in-Group-clause-judged t c =
    let scope : Scope = record { types = c.args.known.now; level = c.args.level } in
    let before : PartsBefore = record { names = c.args.names.now; all = c.args.all } in
    subst (Gives c.judge_group.result) (sym (ap (part_check scope before) c.in-Group.is ∙ group_is scope before c.in-Group.g)) c.judge_group.ensures.judged
