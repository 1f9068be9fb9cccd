use Rattle.std.proofs.Common.{◌≡◌, ap, sym, subst, ◌∙◌}
use Rattle.schema_rules.specs.Judging.{Gives}
use Rattle.schema_rules.specs.CompositeRules.{Inside, MembersBefore, entered, member_check}
use Rattle.type_check.proofs.CompositeRows.{inner_seen}
use Rattle.type_check.proofs.composites.+members.Goals as goal

pub judge_member-returns-in-Composite-clause-judged : goal.judge_member-returns-in-Composite-clause-judged
judge_member-returns-in-Composite-clause-judged t c =
    let inside : Inside = record { types = c.args.known.now; around = c.args.around } in
    let before : MembersBefore = record { names = c.args.names.now; all = c.args.all } in
    subst (Gives c.judge_inner.result)
    (sym (ap (member_check inside before) c.in-Composite.is
    ∙ inner_seen inside before c.in-Composite.c (ap (entered inside before) (sym c.in-Composite.is) ∙ c.in_ok-judge_entered.ensures.judged)))
    c.judge_inner.ensures
