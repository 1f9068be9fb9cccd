use Rattle.std.proofs.Common.{List, Some, ap, ◌∙◌}
use Rattle.sbe_types.specs.declared.kind.Named.{Named}
use Rattle.bridge_rules.specs.Table.{rule_of}
use Rattle.bridge_terms.specs.Parts.{TagLists}
use Rattle.bridge_plan.specs.Mappings.{datatype_in, datatype_of, Mapping}
use Rattle.bridge_mapping.specs.Tables.{HaveSameTags}
use Rattle.bridge_table.specs.Codes.{datatype_of_row}
use Rattle.bridge_table.specs.Rows.{names_in, rule_with}
use Rattle.bridge_cover.specs.Tables.{AreTables}
use Rattle.plan_rows.specs.Found.{field_slot_by, field_slot_with, IsFound}
use Rattle.plan_rows.proofs.Ruling.{found_field, if_ok, ruled}
use Rattle.plan_rows.proofs.slots.field_row.Goals as goal

pub returns-in-Some : goal.returns-in-Some
returns-in-Some g c =
    let tag = c.args.tag in
    let kind = c.args.kind.now in
    let follows = g.R.RuleRow.follows_rule in
    if_ok c.ruled_field.result
    (λ found. (lists : TagLists) (names : List Named) → HaveSameTags c.args.tables.now.tags lists → IsFound follows lists (Some (field_slot_with tag c.args.number (rule_with names c.in-Some.rule))) found)
    (λ found. (m : Mapping) → AreTables m c.args.tables.now → IsFound follows m.lists (field_slot_by m tag c.args.number kind) found)
    (λ found own m h.
    let same =
    ruled (rule_of kind) (rule_with (names_in kind)) (datatype_of_row c.datatype.result.now) (datatype_of m tag) c.in_ok-field_rule.field-0 c.in-Some.rule
    (c.datatype.ensures ∙ ap (datatype_in tag) h.datatypes) c.in_ok-field_rule.ensures c.in-Some.is in
    found_field follows m tag c.args.number (rule_with (names_in kind) c.in-Some.rule) found kind same (own m.lists (names_in kind) h.tags))
    c.ruled_field.ensures
