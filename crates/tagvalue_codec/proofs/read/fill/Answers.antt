use Rattle.std.proofs.Common.{◌-◌, ◌+◌, Err, length, take, refl, sym, ap, ◌∙◌}
use Rattle.tagvalue_codec.specs.Texts.{Free}
use Rattle.tagvalue_codec.specs.Places.{filled, is_sum_field}
use Rattle.tagvalue_codec.specs.declared.read.TCode.TheVariants as code
use Rattle.std.proofs.lemmas.List.{take_rest}
use Rattle.tagvalue_codec.proofs.Judging.{no_begin, no_size, wrong_length, no_kind, opened, split, walked, body_fault, wrong_sum, right_sum, table_of_three}
use Rattle.tagvalue_codec.proofs.read.fill.Goals as goal

pub returns-in_default-clause-err : goal.returns-in_default-clause-err
returns-in_default-clause-err c = no_begin c.args.tags.now c.args.text.now c.in_default.ensures ∙ ap Err (sym c.fault.ensures)

pub returns-in_default-size_at-clause-err : goal.returns-in_default-size_at-clause-err
returns-in_default-size_at-clause-err c =
    no_size c.args.tags.now c.args.text.now c.in-Some.begin c.in-Some.ensures c.in_default-size_at.ensures ∙ ap Err (sym c.fault-in_default-size_at.ensures)

pub returns-then-number-left-clause-err : goal.returns-then-number-left-clause-err
returns-then-number-left-clause-err c =
    wrong_length c.args.tags.now c.args.text.now c.in-Some.begin c.in-Some-size_at.size c.in-Some-size_at.number (length c.args.text.now - (c.in-Some-size_at.size.to + 1))
    (opened c.args.text.now c.in-Some.begin c.in-Some-size_at.size c.in-Some-size_at.number c.in-Some.ensures c.in-Some-size_at.ensures) refl c.if-number-left.true
    ∙ ap (λ d. Err (record { code = code.LengthWrong; offset = c.in-Some.begin.to + 1; detail = d })) (sym c.saturating_sub.ensures)

pub returns-in_default-tagged_at-clause-err : goal.returns-in_default-tagged_at-clause-err
returns-in_default-tagged_at-clause-err c =
    no_kind c.args.tags.now c.args.text.now c.in-Some.begin c.in-Some-size_at.size (length c.args.text.now - 7) (take (length c.args.text.now - 7) c.args.text.now)
    (split c.args.text.now c.in-Some.begin c.in-Some-size_at.size c.in-Some-size_at.number (length c.args.text.now - 7) (opened c.args.text.now c.in-Some.begin c.in-Some-size_at.size c.in-Some-size_at.number c.in-Some.ensures c.in-Some-size_at.ensures) c.if-number-left.false refl) c.in_default-tagged_at.ensures
    ∙ ap Err (sym c.fault-in_default-tagged_at.ensures)

pub returns-in-Err-clause-err : goal.returns-in-Err-clause-err
returns-in-Err-clause-err c =
    body_fault c.args.tags.now c.args.text.now c.in-Some.begin c.in-Some-size_at.size c.in-Some-tagged_at.kind (length c.args.text.now - 7) (take (length c.args.text.now - 7) c.args.text.now) c.in-Err.fault
    (record { split = (split c.args.text.now c.in-Some.begin c.in-Some-size_at.size c.in-Some-size_at.number (length c.args.text.now - 7) (opened c.args.text.now c.in-Some.begin c.in-Some-size_at.size c.in-Some-size_at.number c.in-Some.ensures c.in-Some-size_at.ensures) c.if-number-left.false refl); third = c.in-Some-tagged_at.ensures })
    (ap (λ t. filled c.args.tags.now Free t (c.in-Some-tagged_at.kind.to + 1) (take (length c.args.text.now - 7) c.args.text.now)) (sym (table_of_three c.clear.new.self c.push.new.self c.push-2.new.self c.push-3.new.self c.in-Some.begin c.in-Some-size_at.size c.in-Some-tagged_at.kind c.clear.ensures c.push.ensures c.push-2.ensures c.push-3.ensures)) ∙ c.in-Err.ensures.err)

pub returns-then-not-is_sum_field-clause-err : goal.returns-then-not-is_sum_field-clause-err
returns-then-not-is_sum_field-clause-err c =
    wrong_sum c.args.tags.now c.args.text.now c.in-Some.begin c.in-Some-size_at.size c.in-Some-tagged_at.kind (length c.args.text.now - 7) (take (length c.args.text.now - 7) c.args.text.now) c.fill_body.new.table c.sum_of-sum.result
    (record { split = (split c.args.text.now c.in-Some.begin c.in-Some-size_at.size c.in-Some-size_at.number (length c.args.text.now - 7) (opened c.args.text.now c.in-Some.begin c.in-Some-size_at.size c.in-Some-size_at.number c.in-Some.ensures c.in-Some-size_at.ensures) c.if-number-left.false refl); third = c.in-Some-tagged_at.ensures })
    (walked c.args.tags.now c.in-Some.begin c.in-Some-size_at.size c.in-Some-tagged_at.kind (take (length c.args.text.now - 7) c.args.text.now) c.fill_body.new.table (ap (λ t. filled c.args.tags.now Free t (c.in-Some-tagged_at.kind.to + 1) (take (length c.args.text.now - 7) c.args.text.now)) (sym (table_of_three c.clear.new.self c.push.new.self c.push-2.new.self c.push-3.new.self c.in-Some.begin c.in-Some-size_at.size c.in-Some-tagged_at.kind c.clear.ensures c.push.ensures c.push-2.ensures c.push-3.ensures)) ∙ c.in-Ok.ensures.ok))
    c.sum_of-sum.ensures
    (ap (λ b. is_sum_field b c.sum_of-sum.result) (sym (take_rest c.args.text.now (length c.args.text.now - 7))) ∙ sym c.is_sum_field.ensures ∙ c.if-not-is_sum_field.true)

pub returns-clause-ok : goal.returns-clause-ok
returns-clause-ok c =
    right_sum c.args.tags.now c.args.text.now c.in-Some.begin c.in-Some-size_at.size c.in-Some-tagged_at.kind (length c.args.text.now - 7) (take (length c.args.text.now - 7) c.args.text.now) c.fill_body.new.table c.push-4.new.self c.sum_of-sum.result
    (record { split = (split c.args.text.now c.in-Some.begin c.in-Some-size_at.size c.in-Some-size_at.number (length c.args.text.now - 7) (opened c.args.text.now c.in-Some.begin c.in-Some-size_at.size c.in-Some-size_at.number c.in-Some.ensures c.in-Some-size_at.ensures) c.if-number-left.false refl); third = c.in-Some-tagged_at.ensures })
    (walked c.args.tags.now c.in-Some.begin c.in-Some-size_at.size c.in-Some-tagged_at.kind (take (length c.args.text.now - 7) c.args.text.now) c.fill_body.new.table (ap (λ t. filled c.args.tags.now Free t (c.in-Some-tagged_at.kind.to + 1) (take (length c.args.text.now - 7) c.args.text.now)) (sym (table_of_three c.clear.new.self c.push.new.self c.push-2.new.self c.push-3.new.self c.in-Some.begin c.in-Some-size_at.size c.in-Some-tagged_at.kind c.clear.ensures c.push.ensures c.push-2.ensures c.push-3.ensures)) ∙ c.in-Ok.ensures.ok))
    c.sum_of-sum.ensures
    (ap (λ b. is_sum_field b c.sum_of-sum.result) (sym (take_rest c.args.text.now (length c.args.text.now - 7))) ∙ sym c.is_sum_field.ensures ∙ c.if-not-is_sum_field.false)
    c.push-4.ensures
