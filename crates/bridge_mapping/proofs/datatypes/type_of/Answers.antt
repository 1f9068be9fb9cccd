use Rattle.std.proofs.Common.{sym, ap, ◌∙◌}
use Rattle.id_tables.specs.Places.{name_place}
use Rattle.field_types.specs.FieldTypes.{standard_type}
use Rattle.bridge_mapping.proofs.Typing.{of_set, of_name}
use Rattle.bridge_mapping.proofs.datatypes.type_of.Goals as goal

pub returns-in-Some : goal.returns-in-Some
returns-in-Some c = λ sets types is.
    of_set sets c.args.names.now types is c.args.field.now c.in-Some.i
    (sym (c.place.ensures.is ∙ ap (λ n. name_place n c.args.names.now) c.as_slice.ensures) ∙ c.in-Some.is)

pub returns-in-None : goal.returns-in-None
returns-in-None c = λ sets types is.
    c.standard_type.ensures ∙ (λ j. standard_type (c.is_some.ensures j) (c.as_slice-in-None.ensures j))
    ∙ of_name sets c.args.names.now types is c.args.field.now (sym (c.place.ensures.is
    ∙ ap (λ n. name_place n c.args.names.now) c.as_slice.ensures) ∙ c.in-None.is)
