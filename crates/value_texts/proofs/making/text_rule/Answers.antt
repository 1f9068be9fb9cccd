use Rattle.std.proofs.Common.{subst, sym, rules, FitsSigned}
use Rattle.std.specs.Int.{w128}
use Rattle.std.specs.Prelude.{IfOk, IfSome}
use Rattle.std.proofs.lemmas.Int.{to_z-of_z}
use Rattle.fix_values.specs.declared.rule.NumRule.TheVariants as spelling
use Rattle.value_texts.specs.declared.row.TextRule.TheVariants as row
use Rattle.value_texts.specs.Made.{enum_spelling, IsMadeFor}
use Rattle.value_texts.proofs.MadeRows.{made_array, made_as, made_char, made_day, made_enum, made_fixed, made_floating, made_integer, made_moment, made_month, made_ok, made_set, made_unscaled}
use Rattle.value_texts.proofs.making.text_rule.Goals as goal

pub returns-in-Integer-clause-made : goal.returns-in-Integer-clause-made
returns-in-Integer-clause-made c =
    made_as c.number.result (row.Number spelling.Int) (IsMadeFor c.args.rule) c.number.ensures.same (subst (λ r. IsMadeFor r (row.Number spelling.Int)) (sym c.in-Integer.is) (made_integer c.in-Integer.field-0))

pub returns-in-IntegerDecimal-clause-made : goal.returns-in-IntegerDecimal-clause-made
returns-in-IntegerDecimal-clause-made c =
    made_as c.number-in-IntegerDecimal.result (row.Number spelling.Decimal) (IsMadeFor c.args.rule) c.number-in-IntegerDecimal.ensures.same
    (subst (λ r. IsMadeFor r (row.Number spelling.Decimal)) (sym c.in-IntegerDecimal.is) (made_unscaled c.in-IntegerDecimal.field-0))

pub returns-in-SingleChar-clause-made : goal.returns-in-SingleChar-clause-made
returns-in-SingleChar-clause-made c =
    made_as c.number-in-SingleChar.result (row.Number spelling.Char) (IsMadeFor c.args.rule) c.number-in-SingleChar.ensures.same
    (subst (λ r. IsMadeFor r (row.Number spelling.Char)) (sym c.in-SingleChar.is) (made_char c.in-SingleChar.field-0))

pub returns-in-FixedDecimal-clause-made : goal.returns-in-FixedDecimal-clause-made
returns-in-FixedDecimal-clause-made c =
    let e = c.in-FixedDecimal.exponent in
    let fits : FitsSigned w128 e = search rules in
    subst (λ z. IsMadeFor c.args.rule (row.Decimal z)) (sym (to_z-of_z w128 e fits)) (subst (λ r. IsMadeFor r (row.Decimal e)) (sym c.in-FixedDecimal.is) (made_fixed c.in-FixedDecimal.field-0 e))

pub returns-in-FloatingDecimal-clause-made : goal.returns-in-FloatingDecimal-clause-made
returns-in-FloatingDecimal-clause-made c =
    subst (λ r. IsMadeFor r (row.Floating c.in-FloatingDecimal.mantissa c.in-FloatingDecimal.exponent)) (sym c.in-FloatingDecimal.is) (made_floating c.in-FloatingDecimal.mantissa c.in-FloatingDecimal.exponent)

pub returns-in-CharArray-clause-made : goal.returns-in-CharArray-clause-made
returns-in-CharArray-clause-made c = subst (λ r. IsMadeFor r row.Passage) (sym c.in-CharArray.is) (made_array c.in-CharArray.field-0)

pub returns-in-Enum-clause-made : goal.returns-in-Enum-clause-made
returns-in-Enum-clause-made c =
    made_as c.number-in-Enum.result (row.Number c.enum_rule.result) (IsMadeFor c.args.rule) c.number-in-Enum.ensures.same
    (subst (λ s. IsMadeFor c.args.rule (row.Number s)) (sym c.enum_rule.ensures) (subst (λ r. IsMadeFor r (row.Number (enum_spelling c.in-Enum.rule))) (sym c.in-Enum.is) (made_enum c.in-Enum.rule)))

pub returns-in-ChoiceSet-clause-made : goal.returns-in-ChoiceSet-clause-made
returns-in-ChoiceSet-clause-made c =
    made_ok c.choices.result (row.Choices (spelling.Codes c.in-ChoiceSet.codes)) (IsMadeFor c.args.rule) c.choices.ensures.same
    (subst (λ r. IsMadeFor r (row.Choices (spelling.Codes c.in-ChoiceSet.codes))) (sym c.in-ChoiceSet.is) (made_set c.in-ChoiceSet.codes))

pub returns-in-DayCount-clause-made : goal.returns-in-DayCount-clause-made
returns-in-DayCount-clause-made c = subst (λ r. IsMadeFor r row.Day) (sym c.in-DayCount.is) (made_day c.in-DayCount.field-0)

pub returns-in-Moment-clause-made : goal.returns-in-Moment-clause-made
returns-in-Moment-clause-made c =
    subst (λ r. IsMadeFor r (row.Moment c.in-Moment.epoch c.in-Moment.unit)) (sym c.in-Moment.is) (made_moment c.in-Moment.epoch c.in-Moment.field-1 c.in-Moment.unit)

pub returns-in-MonthYear-clause-made : goal.returns-in-MonthYear-clause-made
returns-in-MonthYear-clause-made c = subst (λ r. IsMadeFor r row.Month) (sym c.in-MonthYear.is) (made_month _)

pub returns-in-Const-clause-made : goal.returns-in-Const-clause-made
returns-in-Const-clause-made c =
    subst (λ r. IfOk c.constant.result (λ made. IfSome made (IsMadeFor r))) (sym c.in-Const.is) c.constant.ensures.made
