use Rattle.std.proofs.Common.{sym, ap, ◌∙◌}
use Rattle.std.specs.Prelude.{◌&&◌}
use Rattle.bridge_terms.specs.Plans.{is_in}
use Rattle.bridge_plan.specs.Covers.{is_delimiter, data_tags}
use Rattle.bridge_cover.specs.Parts.{ids_of}
use Rattle.bridge_cover.proofs.Passed.{data_is, field_among}
use Rattle.bridge_cover.proofs.level.is_delimited.Goals as goal

pub returns-in-None : goal.returns-in-None
returns-in-None c = λ m s same is. ap (is_delimiter m c.args.fields.now) (sym c.in-None.is ∙ c.first_field.ensures s is)

pub returns-then-free : goal.returns-then-free
returns-then-free c = λ m s same is.
    let free = sym c.if-free.true ∙ c.is_free-free.ensures m (data_tags m.lists) same
    (c.is_data.ensures ∙ data_is m c.args.tags.now c.in-Some.tag same) in
    let own = c.has_field-own.ensures ∙ field_among c.in-Some.tag c.args.fields.now in
    (λ i. free i && own i) ∙ ap (is_delimiter m c.args.fields.now) (sym c.in-Some.is ∙ c.first_field.ensures s is)

pub returns-else-free : goal.returns-else-free
returns-else-free c = λ m s same is.
    let free = sym c.if-free.false ∙ c.is_free-free.ensures m (data_tags m.lists) same
    (c.is_data.ensures ∙ data_is m c.args.tags.now c.in-Some.tag same) in
    c.if-free.false ∙ ap (λ b. b && is_in c.in-Some.tag (ids_of c.args.fields.now)) free ∙ ap (is_delimiter m c.args.fields.now)
    (sym c.in-Some.is ∙ c.first_field.ensures s is)
