use Rattle.std.proofs.Common.{ap, ◌∙◌}
use Rattle.std.specs.Prelude.{flat_map}
use Rattle.map_types.specs.Trees.{code_sets_of, fields_of}
use Rattle.map_members.specs.Lent.{lent_members}
use Rattle.field_types.specs.FieldTypes.{datatypes_of}
use Rattle.bridge_cover.proofs.tables.Tables.new.Goals as goal

pub returns : goal.returns
returns c =
    let sets = ap lent_members c.as_slice.ensures.value ∙ c.in_ok-code_sets.ensures ∙ ap (flat_map code_sets_of) c.as_slice-items.ensures in
    let fields = ap lent_members c.as_slice-2.ensures.value ∙ c.in_ok-fields.ensures ∙ ap (flat_map fields_of) c.as_slice-items.ensures in
    record { tags = c.in_ok-tags.ensures; datatypes = c.in_ok-datatypes.ensures ∙ (λ i. datatypes_of (sets i) (fields i)) }
