use Rattle.std.proofs.Common.{◌≡◌, Option, option_map, subst, sym}
use Rattle.sbe_types.specs.declared.kind.Kind.TheVariants.{Const}
use Rattle.sbe_types.specs.declared.kind.ConstValue.{ConstValue}
use Rattle.bridge_rules.specs.Rules.{Rule}
use Rattle.bridge_rules.specs.Table.{const_rule}
use Rattle.bridge_table.specs.Codes.{datatype_of_row}
use Rattle.bridge_table.specs.Rows.{names_in, rule_with}
use Rattle.bridge_table.proofs.constants.const_rule.Goals as goal

pub returns-in-Num : goal.returns-in-Num
returns-in-Num c =
    subst (λ (v : ConstValue). ◌≡◌ {A = Option Rule} (option_map (rule_with (names_in (Const v))) c.number_constant.result) (const_rule v (datatype_of_row c.args.datatype.now)))
    (sym c.in-Num.is) c.number_constant.ensures
