use Rattle.std.proofs.Common.{rules, sym, ap, ◌∙◌, subst, ◌+ℤ◌, FitsSigned, to_z}
use mir.Syntax.{w128}
use Rattle.std.proofs.lemmas.Int.{to_z-of_z}
use Rattle.library_examples.proofs.Adding.{one_more, if_none, passes}
use Rattle.library_examples.proofs.sums.sum_over.Goals as goal

pub loop-entry-preserved : goal.loop-entry-preserved
loop-entry-preserved c =
    let sum = c.in_ok-sum.ensures in
    let before = to_z w128 c.loop-entry.sum-bits in
    let fits : FitsSigned w128 c.number_or_zero.result = search rules in
    let back = to_z-of_z w128 c.number_or_zero.result fits in
    let same = to_z-of_z w128 c.in_ok-sum.sum (subst (FitsSigned w128) (sym sum.1) sum.0) in
    one_more c.args.field c.in-Some.entry c.next.new.self c.loop-entry.entry-iterator c.args.entries before c.number_or_zero.result _
    c.loop-entry.invariant c.in-Some.ensures.steps c.number_or_zero.ensures (same ∙ sum.1 ∙ ap (λ k. before +ℤ k) back)

pub returns-in_err-sum-clause-over : goal.returns-in_err-sum-clause-over
returns-in_err-sum-clause-over c =
    let before = to_z w128 c.loop-entry.sum-bits in
    let fits : FitsSigned w128 c.number_or_zero.result = search rules in
    let back = to_z-of_z w128 c.number_or_zero.result fits in
    if_none c.from_residual.result (passes c.args.field c.in-Some.entry c.next.new.self c.loop-entry.entry-iterator c.args.entries before c.number_or_zero.result
    c.loop-entry.invariant c.in-Some.ensures.steps c.number_or_zero.ensures (λ sum. c.in_err-sum.ensures (subst (FitsSigned w128) (ap (λ k. before +ℤ k) (sym back)) sum)))
