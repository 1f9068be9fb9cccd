use Rattle.std.proofs.Common.{sym, ap, ◌∙◌}
use Rattle.std.specs.Prelude.{◌&&◌}
use Rattle.bridge_plan.specs.Covers.{is_free}
use Rattle.bridge_cover.proofs.Passed.{was_passed}
use Rattle.bridge_cover.proofs.level.LevelMap.has_place.Goals as goal

pub returns-then-field : goal.returns-then-field
returns-then-field c = λ m s before sees.
    let field = sym (c.is_field-field.ensures s sees.places) ∙ c.if-field.true in
    let free = c.is_free-free.ensures m before sees.tables.tags
    (was_passed m s before c.args.self.now sees c.args.tag c.has.result c.has.ensures) in
    free ∙ sym (ap (λ b. b && is_free m before c.args.tag) field)

pub returns-else-field : goal.returns-else-field
returns-else-field c = λ m s before sees.
    let field = sym (c.is_field-field.ensures s sees.places) ∙ c.if-field.false in
    c.if-field.false ∙ sym (ap (λ b. b && is_free m before c.args.tag) field)
