use Rattle.std.proofs.Common.{Some, refl}
use Rattle.bridge_table.specs.Rows.{rule_with}
use Rattle.field_blocks.proofs.Rows.{some_held}
use Rattle.back_levels.proofs.slots.ruled.Goals as goal

pub returns-in-Some : goal.returns-in-Some
returns-in-Some c = λ place names. (
  record { tag = c.args.tag; place = place; rule = rule_with names c.args.rule },
  refl,
  record { tag = refl; row = c.in-Some.value; is = refl; reads = some_held c.new.result _ c.in-Some.value c.in-Some.is c.new.ensures.reads names },
)
