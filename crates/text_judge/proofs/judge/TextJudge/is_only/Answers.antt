use Rattle.std.proofs.Common.{◌≡◌, List, ℕ, true, Some, ap, sym, ◌∙◌, subst, arith}
use Rattle.std.specs.Prelude.{slice_get}
use Rattle.std.proofs.lemmas.Slice.Eq.{bytes_eq-Decides}
use Rattle.message_plans.specs.Plans.{IsOnly}
use Rattle.text_judge.proofs.Judging.{item_at}
use Rattle.text_judge.proofs.judge.TextJudge.is_only.Goals as goal

pub returns : goal.returns
returns c = λ is m levels tags judge.
    let template = c.args.template in
    let there = item_at levels template (omega (arith, judge.plans.many, c.templates.ensures, c.if-template-templates.false)) in
    let named = c.msg_type.ensures m levels there.0 judge.plans there.1 in
    let same = (bytes_eq-Decides c.msg_type.result.now c.args.kind.now).0 (sym c.eq.ensures ∙ is) in
    let marked : slice_get c.args.self.now.only template ≡ Some true = c.at.ensures ∙ ap Some c.if-not-at.false in
    subst (λ (k : List ℕ). IsOnly k levels template) (sym named ∙ same) (judge.only template there.0 marked there.1)
