use Rattle.std.proofs.Common.{[], Some, sym, subst}
use Rattle.bridge_table.specs.Rows.{rule_with}
use Rattle.plan_rows.specs.Found.{data_slot_with, IsFound}
use Rattle.plan_rows.proofs.slots.ruled_data.Goals as goal

pub returns-in-RawData : goal.returns-in-RawData
returns-in-RawData g c = λ lists h.
    subst (λ r. IsFound g.R.RuleRow.follows_rule lists (Some (data_slot_with c.args.tag c.args.number (rule_with [] r))) c.raw_row.result) (sym c.in-RawData.is)
    (c.raw_row.ensures lists c.in-RawData.field-0 h)

pub returns-in-TextData : goal.returns-in-TextData
returns-in-TextData g c = λ lists h.
    subst (λ r. IsFound g.R.RuleRow.follows_rule lists (Some (data_slot_with c.args.tag c.args.number (rule_with [] r))) c.passage_row.result) (sym c.in-TextData.is)
    (c.passage_row.ensures lists c.in-TextData.field-0 h)
