use Rattle.std.proofs.Common.{is_some, sym, ap, ◌∙◌}
use Rattle.bridge_rules.specs.Table.{rule_of}
use Rattle.bridge_plan.specs.Mappings.{datatype_in, datatype_of, is_plain}
use Rattle.bridge_plan.specs.Covers.{is_free}
use Rattle.bridge_table.specs.Rows.{names_in, rule_with}
use Rattle.bridge_cover.proofs.Passed.{and_fails, and_rest, there_too}
use Rattle.bridge_cover.proofs.level.LevelMap.covers_field.Goals as goal

pub returns-then-not-has_place : goal.returns-then-not-has_place
returns-then-not-has_place c = λ m s before sees.
    let f = c.args.field.now in
    and_fails (is_plain f.id s) (is_free m before f.id) (is_some (rule_of f.kind (datatype_of m f.id)))
    (sym (c.has_place.ensures m s before sees) ∙ c.if-not-has_place.true)

pub returns : goal.returns
returns c = λ m s before sees.
    let f = c.args.field.now in
    and_rest (is_plain f.id s) (is_free m before f.id) (is_some (rule_of f.kind (datatype_of m f.id))) c.is_some.result
    (sym (c.has_place.ensures m s before sees) ∙ c.if-not-has_place.false)
    (c.is_some.ensures
    ∙ there_too (rule_with (names_in f.kind)) c.in_ok-rule.rule (rule_of f.kind (datatype_of m f.id))
    (c.in_ok-rule.ensures ∙ ap (rule_of f.kind) (c.datatype-meant.ensures ∙ ap (datatype_in f.id) sees.tables.datatypes)))
