use Rattle.std.proofs.Common.{ap, sym, ◌∙◌}
use Rattle.command_words.proofs.WordLists.{pair_taken, none_left}
use Rattle.command_words.proofs.forms.Row.takes_all.Goals as goal

pub returns : goal.returns
returns c = c.is_empty.ensures ∙ none_left _ _ _ c.in_default.len_below c.loop-left.invariant

pub returns-then-not-is_among : goal.returns-then-not-is_among
returns-then-not-is_among c =
    pair_taken c.self.inside.options.now _ c.loop-left.left.now c.word-item.result c.as_str.result.now _ _ (ap (λ row. row.options) c.self.view_is) c.in-len2-up.len_at_least c.word-item.is
    c.as_str.ensures.value (sym c.if-not-is_among.true ∙ c.is_among.ensures) c.loop-left.invariant

pub loop-left-preserved : goal.loop-left-preserved
loop-left-preserved c =
    pair_taken c.self.inside.options.now _ c.loop-left.left.now c.word-item.result c.as_str.result.now _ _ (ap (λ row. row.options) c.self.view_is) c.in-len2-up.len_at_least c.word-item.is
    c.as_str.ensures.value (sym c.if-not-is_among.false ∙ c.is_among.ensures) c.loop-left.invariant
