use Rattle.std.proofs.Common.{[], Some, sym, ap, ◌∙◌, subst}
use Rattle.bridge_rules.specs.Members.{and_then}
use Rattle.bridge_rules.specs.Table.{data_rule}
use Rattle.bridge_plan.specs.Mappings.{datatype_in, datatype_of}
use Rattle.bridge_table.specs.Codes.{datatype_of_row}
use Rattle.bridge_table.specs.Rows.{rule_with}
use Rattle.bridge_terms.specs.Plans.{in_data}
use Rattle.plan_rows.specs.Found.{data_slot_with}
use Rattle.plan_rows.proofs.Ruling.{ruled}
use Rattle.back_levels.specs.Found.{IsFound}
use Rattle.back_levels.proofs.slots.data_row.Goals as goal

pub returns-in-Some : goal.returns-in-Some
returns-in-Some c = λ m h.
    let tag = c.args.tag in
    let same =
    ruled (data_rule c.args.part.now) (rule_with []) (datatype_of_row c.datatype.result.now) (datatype_of m tag) c.data_rule.result c.in-Some.rule
    (c.datatype.ensures ∙ ap (datatype_in tag) h.datatypes) c.data_rule.ensures c.in-Some.is in
    subst (λ o. IsFound (and_then o (λ r. Some (data_slot_with tag c.args.number r))) c.ruled.result) (sym same) (c.ruled.ensures (in_data c.args.number) [])
