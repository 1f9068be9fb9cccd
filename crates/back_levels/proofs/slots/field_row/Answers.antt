use Rattle.std.proofs.Common.{Some, sym, ap, ◌∙◌, subst}
use Rattle.bridge_rules.specs.Members.{and_then}
use Rattle.bridge_rules.specs.Table.{rule_of}
use Rattle.bridge_plan.specs.Mappings.{datatype_in, datatype_of}
use Rattle.bridge_table.specs.Codes.{datatype_of_row}
use Rattle.bridge_table.specs.Rows.{names_in, rule_with}
use Rattle.bridge_terms.specs.Plans.{in_fields}
use Rattle.plan_rows.specs.Found.{field_slot_with}
use Rattle.plan_rows.proofs.Ruling.{ruled}
use Rattle.back_levels.specs.Found.{IsFound}
use Rattle.back_levels.proofs.slots.field_row.Goals as goal

pub returns-in-Some : goal.returns-in-Some
returns-in-Some c = λ m h.
    let tag = c.args.tag in
    let kind = c.args.kind.now in
    let same =
    ruled (rule_of kind) (rule_with (names_in kind)) (datatype_of_row c.datatype.result.now) (datatype_of m tag) c.in_ok-field_rule.field-0 c.in-Some.rule
    (c.datatype.ensures ∙ ap (datatype_in tag) h.datatypes) c.in_ok-field_rule.ensures c.in-Some.is in
    subst (λ o. IsFound (and_then o (λ r. Some (field_slot_with tag c.args.number r))) c.ruled.result) (sym same)
    (c.ruled.ensures (in_fields c.args.number) (names_in kind))
