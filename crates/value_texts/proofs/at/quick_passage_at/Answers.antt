use Rattle.std.proofs.Common.{subst, sym, ap}
use Rattle.fix_values.specs.Values.{text_shown}
use Rattle.bridge_rules.specs.Texts.{judged_text, text_if_any}
use Rattle.message_walk.specs.Rows.{field_of}
use Rattle.value_texts.specs.Quick.{IsQuick}
use Rattle.value_texts.proofs.at.quick_passage_at.Goals as goal

pub returns-in-Some-clause-told : goal.returns-in-Some-clause-told
returns-in-Some-clause-told c = λ room.
    subst (λ o. IsQuick c.quick_front.result room (text_if_any o (λ t. judged_text t (text_shown t)))) (sym (c.in-Some.ensures.text (field_of c.args.block.now c.args.number) c.field_at-field.ensures.seen))
    (c.quick_front.ensures.told room)

pub returns-in-None-clause-told : goal.returns-in-None-clause-told
returns-in-None-clause-told c = λ room.
    ap (λ o. text_if_any o (λ t. judged_text t (text_shown t))) (c.in-None.ensures.text (field_of c.args.block.now c.args.number) c.field_at-field.ensures.seen)
