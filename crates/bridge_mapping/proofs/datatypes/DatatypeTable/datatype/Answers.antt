use Rattle.std.proofs.Common.{sym, ap, ◌∙◌}
use Rattle.id_tables.specs.Places.{place_of}
use Rattle.bridge_table.specs.Codes.{datatype_of_row}
use Rattle.bridge_plan.specs.Mappings.{datatype_in}
use Rattle.bridge_mapping.specs.declared.datatypes.TypedField.{TypedField}
use Rattle.bridge_mapping.specs.Tables.{type_in}
use Rattle.bridge_mapping.proofs.Typing.{datatype_none, datatype_at}
use Rattle.bridge_mapping.proofs.datatypes.DatatypeTable.datatype.Goals as goal

pub returns-in-None : goal.returns-in-None
returns-in-None c =
    ap datatype_of_row c.self.invariant.1
    ∙ sym (datatype_none (λ (f : TypedField). type_in c.self.inside.types f.datatype) c.args.tag c.self.inside.fields
    (sym (c.place.ensures.is ∙ ap (place_of c.args.tag) c.self.invariant.0) ∙ c.in-None.is))
    ∙ ap (datatype_in c.args.tag) c.self.view_is

pub returns-in-Some : goal.returns-in-Some
returns-in-Some c =
    c.meant.ensures ∙ ap (λ ts. type_in ts c.at.result.now.datatype) c.as_slice.ensures
    ∙ sym (datatype_at (λ (f : TypedField). type_in c.self.inside.types f.datatype) c.args.tag c.in-Some.i c.self.inside.fields
    (sym (c.place.ensures.is ∙ ap (place_of c.args.tag) c.self.invariant.0) ∙ c.in-Some.is) c.at.result.now c.at.ensures)
    ∙ ap (datatype_in c.args.tag) c.self.view_is
