use Rattle.std.proofs.Common.{[], ap, ◌∙◌}
use Rattle.bridge_rules.specs.Table.{data_rule}
use Rattle.bridge_plan.specs.Mappings.{datatype_in, datatype_of}
use Rattle.bridge_table.specs.Codes.{datatype_of_row}
use Rattle.bridge_table.specs.Rows.{rule_with}
use Rattle.plan_rows.proofs.Ruling.{found_data, ruled}
use Rattle.plan_rows.proofs.slots.data_row.Goals as goal

pub returns-in-Some : goal.returns-in-Some
returns-in-Some g c = λ m h.
    let tag = c.args.tag in
    let same =
    ruled (data_rule c.args.part.now) (rule_with []) (datatype_of_row c.datatype.result.now) (datatype_of m tag) c.data_rule.result c.in-Some.rule
    (c.datatype.ensures ∙ ap (datatype_in tag) h.datatypes) c.data_rule.ensures c.in-Some.is in
    found_data g.R.RuleRow.follows_rule m tag c.args.number (rule_with [] c.in-Some.rule) c.ruled_data.result c.args.part.now same (c.ruled_data.ensures m.lists h.tags)
