use Rattle.std.proofs.Common.{Ok, Some, subst, sym, ◌∙◌}
use Rattle.std.specs.Fmt.{signed_decimal}
use Rattle.fix_values.specs.declared.rule.NumRule.{NumRule}
use Rattle.fix_values.specs.Codes.{code_text}
use Rattle.fix_values.specs.Values.{text_of}
use Rattle.bridge_rules.specs.Texts.{field_text}
use Rattle.value_texts.specs.Quick.{IsQuick}
use Rattle.value_texts.proofs.Leaving.{whole}
use Rattle.value_texts.proofs.spelling.Spelling.quick.Goals as goal

pub returns-in-Int-clause-told : goal.returns-in-Int-clause-told
returns-in-Int-clause-told c =
    let r = c.quick_digits.result in
    let room = c.quick_digits.new.room in
    subst (λ (rule : NumRule). IsQuick r room (field_text (text_of rule c.args.n))) (sym c.in-Int.is ∙ c.self.view_is)
    (whole (λ n. IsQuick r room (Ok (Some (signed_decimal n)))) c.args.n c.ranges.n c.quick_digits.ensures.told)

pub returns-in-Decimal-clause-told : goal.returns-in-Decimal-clause-told
returns-in-Decimal-clause-told c =
    let r = c.quick_digits-in-Decimal.result in
    let room = c.quick_digits-in-Decimal.new.room in
    subst (λ (rule : NumRule). IsQuick r room (field_text (text_of rule c.args.n))) (sym c.in-Decimal.is ∙ c.self.view_is)
    (whole (λ n. IsQuick r room (Ok (Some (signed_decimal n)))) c.args.n c.ranges.n c.quick_digits-in-Decimal.ensures.told)

pub returns-in-Code-clause-told : goal.returns-in-Code-clause-told
returns-in-Code-clause-told c =
    let r = c.quick_code.result in
    let room = c.args.room.now in
    subst (λ (rule : NumRule). IsQuick r room (field_text (text_of rule c.args.n))) (sym c.in-Code.is ∙ c.self.view_is)
    (whole (λ n. IsQuick r room (field_text (code_text c.in-Code.codes n))) c.args.n c.ranges.n (c.quick_code.ensures.told room))
