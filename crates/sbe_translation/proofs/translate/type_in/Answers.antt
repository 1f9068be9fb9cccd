use Rattle.std.proofs.Common.{[], slice_get, sym, ap, ◌∙◌}
use Rattle.app_fields.proofs.Values.{held}
use Rattle.sbe_translation.proofs.Translating.{kind_is}
use Rattle.sbe_translation.proofs.translate.type_in.Goals as goal

pub value_at-requires-clause-order : goal.value_at-requires-clause-order
value_at-requires-clause-order c =
    (held c.args.text.now [] c.requires.held.fields 2 c.field-third.result c.requires.held.text_is (ap (λ t. slice_get t 2) (sym c.requires.held.table_is) ∙ c.field-third.ensures)).order

pub value_at-requires-clause-within : goal.value_at-requires-clause-within
value_at-requires-clause-within c =
    (held c.args.text.now [] c.requires.held.fields 2 c.field-third.result c.requires.held.text_is (ap (λ t. slice_get t 2) (sym c.requires.held.table_is) ∙ c.field-third.ensures)).within

pub returns : goal.returns
returns c = λ fields kind text_is table_is is.
    c.value_at.ensures ∙ kind_is c.args.text.now c.args.table.now fields kind c.field-third.result text_is table_is is c.field-third.ensures
