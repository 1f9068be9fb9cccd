use Rattle.std.proofs.Common.{sym, ap, arith}
use Rattle.sbe_types.specs.declared.message.Value.TheVariants as value
use Rattle.sbe_types.specs.Places.{is_const}
use Rattle.regrade.proofs.FillValues.{const_is}
use Rattle.regrade.proofs.FillOne.{filled_told, const_counts}
use Rattle.regrade.proofs.filling.fill_field.Goals as goal

pub returns-in-Const-clause-filled : goal.returns-in-Const-clause-filled
returns-in-Const-clause-filled c =
    let field = c.args.field.now in
    let absent = sym c.if-not-is_absent.ensures in
    let none = const_counts field c.args.value absent (ap is_const c.in-Const.is) in
    (filled_told field c.args.value absent value.Const (sym (const_is field.kind c.in-Const.field-0 c.in-Const.is)), omega (arith, none))
