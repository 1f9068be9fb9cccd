use Rattle.std.proofs.Common.{ap, sym, ◌∙◌, Some}
use Rattle.command_words.proofs.WordOptions.{pair_begins, step_refused, step_taken, pairs_ended}
use Rattle.command_words.proofs.options.number_given.Goals as goal

pub returns : goal.returns
returns c = ap (λ n. Some n) c.unwrap_or.ensures ∙ pairs_ended _ _ _ _ _ c.in_default.len_below c.loop-left.invariant

pub returns-in_err-number_within : goal.returns-in_err-number_within
returns-in_err-number_within c =
    c.from_residual.ensures
    ∙ step_refused _ c.loop-left.given _ _ _ c.loop-left.left.now _
    (pair_begins _ c.word-item.result c.value-item.result c.as_str.result.now c.as_str-then-eq.result.now c.in-len2-up.len_at_least c.word-item.is c.value-item.is c.as_str.ensures.value c.as_str-then-eq.ensures.value)
    (sym c.eq.ensures ∙ c.if-eq.true) (sym c.is_some.ensures ∙ c.if-is_some.false) (sym c.number_within.ensures ∙ c.in_err-number_within.was) c.loop-left.invariant

pub loop-left-preserved-in_ok-number_within : goal.loop-left-preserved-in_ok-number_within
loop-left-preserved-in_ok-number_within c =
    step_taken _ c.loop-left.given _ _ _ c.loop-left.left.now _ c.in_ok-number_within.field-0
    (pair_begins _ c.word-item.result c.value-item.result c.as_str.result.now c.as_str-then-eq.result.now c.in-len2-up.len_at_least c.word-item.is c.value-item.is c.as_str.ensures.value c.as_str-then-eq.ensures.value)
    (sym c.eq.ensures ∙ c.if-eq.true) (sym c.is_some.ensures ∙ c.if-is_some.false) (sym c.number_within.ensures ∙ c.in_ok-number_within.was) c.loop-left.invariant
