use Rattle.std.proofs.Common.{[], is_some, sym, ap, ◌∙◌}
use Rattle.bridge_rules.specs.Table.{data_rule}
use Rattle.bridge_plan.specs.Mappings.{datatype_in, datatype_of, is_plain}
use Rattle.bridge_plan.specs.Covers.{is_free}
use Rattle.bridge_table.specs.Rows.{rule_with}
use Rattle.bridge_cover.proofs.Passed.{and_fails, and_rest, there_too}
use Rattle.bridge_cover.proofs.level.LevelMap.covers_data.Goals as goal

pub returns-then-not-has_place : goal.returns-then-not-has_place
returns-then-not-has_place c = λ m s before sees.
    let d = c.args.part.now in
    and_fails (is_plain d.id s) (is_free m before d.id) (is_some (data_rule d (datatype_of m d.id)))
    (sym (c.has_place.ensures m s before sees) ∙ c.if-not-has_place.true)

pub returns : goal.returns
returns c = λ m s before sees.
    let d = c.args.part.now in
    and_rest (is_plain d.id s) (is_free m before d.id) (is_some (data_rule d (datatype_of m d.id))) c.is_some.result
    (sym (c.has_place.ensures m s before sees) ∙ c.if-not-has_place.false)
    (c.is_some.ensures
    ∙ there_too (rule_with []) c.data_rule.result (data_rule d (datatype_of m d.id))
    (c.data_rule.ensures ∙ ap (data_rule d) (c.datatype-meant.ensures ∙ ap (datatype_in d.id) sees.tables.datatypes)))
