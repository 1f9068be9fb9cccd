-- What messages and whole schemas that are read are like.
use Rattle.std.proofs.Common.{◌≡◌, ℕ, suc, ◌+◌, ◌-◌, ◌≤◌, List, [], ◌∷◌, length, refl, ap, sym, subst, ◌∙◌}
use Rattle.std.specs.Prelude.{Ok, codes, decimal}
use Rattle.std.specs.List.{AllByRecursion}
use mathlib.Core.Former.{Count}
use Rattle.serde_json.specs.Data.{Data, Items, no_items, item}
use Rattle.json_elements.specs.declared.refusal.Cause.TheVariants.{Shape}
use Rattle.json_elements.specs.Reading.{Reading, refusal, inside, at_child}
use Rattle.json_elements.specs.Forms.{text, id_number}
use Rattle.json_elements.specs.Attributes.{needed, with_default, optional}
use Rattle.json_elements.specs.Elements.{items_count, at_most, each, content, no_children, branches}
use Rattle.json_elements.specs.Files.{value_of}
use Rattle.sbe_types.specs.declared.limits.TheConstants.{PART_LIMIT, TYPE_LIMIT, MESSAGE_LIMIT}
use Rattle.sbe_types.specs.declared.kind.Order.TheVariants.{Little}
use Rattle.sbe_types.specs.declared.tree.PartItem.{PartItem, Row_of-PartItem, end_of-PartItem, more_of-PartItem, items-the_row-PartItem, items_hidden-the_row-PartItem-0}
use Rattle.sbe_types.specs.declared.tree.PartItem as part
use Rattle.sbe_types.specs.declared.tree.DataEl.{DataEl}
use Rattle.sbe_types.specs.declared.tree.GroupEl.{GroupEl}
use Rattle.sbe_types.specs.declared.tree.TypesItem.TheVariants as declared_type
use Rattle.sbe_types.specs.declared.tree.TypesEl.{TypesEl}
use Rattle.sbe_types.specs.declared.tree.SchemaItem.TheVariants as child
use Rattle.sbe_types.specs.InForm.{IsName, IsWithin, IsTypeInForm, IsEnumInForm, IsSetInForm, IsDeclaredInForm, IsFieldInForm, count_parts, IsPartInForm, ArePartsInForm, IsMessageInForm, IsChildInForm, IsInForm}
use Rattle.sbe_schema.specs.declared.element_name.ElementName.{ElementName}
use Rattle.sbe_schema.specs.declared.element_name.ElementName.TheVariants as element
use Rattle.sbe_schema.specs.declared.types.Standing.TheVariants.{Declared}
use Rattle.sbe_schema.specs.Forms.{a_name, a_value_ref, a_presence, a_place, a_byte_order, element_of}
use Rattle.sbe_schema.specs.Types.{type_from, enum_from, set_from, composite_from, by_member}
use Rattle.sbe_schema.specs.Messages.{field_from, data_from, group_from, part_child, by_part, part_of, message_from}
use Rattle.sbe_schema.specs.Schemas.{types_child, declared, types_from, schema_child, outer_part, declares, outer_parts, message_count, schema_from, root, schema_of}
use Rattle.json_elements.proofs.Yields.{Yields, ok_yields, err_yields, then_yields, inside_yields, needed_yields, each_yields, each_count, at_most_yields, named_yields}
use Rattle.sbe_schema.proofs.InForm.{name_yields, within_yields}
use Rattle.sbe_schema.proofs.TypesInForm.{Keeps, branches_yields, branches_count, tree_yields, members_keep, made_yields, type_yields, enum_yields, set_yields, composite_yields, IsInnerInForm}

-- ---- parts

field_yields : (d : Data) → Yields IsFieldInForm (field_from d)
field_yields d =
    then_yields IsFieldInForm (content d) _ (λ children _.
    then_yields IsFieldInForm (needed a_name (codes "name") d) _ (λ name is_named.
    then_yields IsFieldInForm (needed id_number (codes "id") d) _ (λ id _.
    then_yields IsFieldInForm (needed a_name (codes "type") d) _ (λ type_name _.
    then_yields IsFieldInForm (with_default 0 id_number (codes "sinceVersion") d) _ (λ since _.
    then_yields IsFieldInForm (optional a_presence (codes "presence") d) _ (λ presence _.
    then_yields IsFieldInForm (optional a_place (codes "offset") d) _ (λ offset is_placed.
    then_yields IsFieldInForm (optional a_value_ref (codes "valueRef") d) _ (λ ref _.
    then_yields IsFieldInForm (no_children children) _ (λ _ _.
    ok_yields IsFieldInForm _ (record {
      name = needed_yields IsName a_name (codes "name") d name_yields name is_named;
      place = within_yields (codes "offset") d offset is_placed;
    }))))))))))

abbrev HasDataName : DataEl → Type 0
HasDataName d = IsName d.name

data_yields : (d : Data) → Yields HasDataName (data_from d)
data_yields d =
    then_yields HasDataName (content d) _ (λ children _.
    then_yields HasDataName (needed a_name (codes "name") d) _ (λ name is_named.
    then_yields HasDataName (needed id_number (codes "id") d) _ (λ id _.
    then_yields HasDataName (needed a_name (codes "type") d) _ (λ type_name _.
    then_yields HasDataName (with_default 0 id_number (codes "sinceVersion") d) _ (λ since _.
    then_yields HasDataName (no_children children) _ (λ _ _.
    ok_yields HasDataName _ (needed_yields IsName a_name (codes "name") d name_yields name is_named)))))))

-- what is asked of a group
record IsGroupInForm (g : GroupEl) : Type 0 where
  name : IsName g.name
  block : IsWithin g.block_length
  count : length g.children ≤ PART_LIMIT
  parts : AllByRecursion IsPartInForm g.children

group_yields : (d : Data) (read : Reading (List PartItem)) → Yields (AllByRecursion IsPartInForm) read
    → ((ds : Items) → content d ≡ Ok ds → Yields (λ xs. length xs ≡ items_count ds) read) → Yields IsGroupInForm (group_from d read)
group_yields d read are counted =
    then_yields IsGroupInForm (content d) _ (λ children there.
    then_yields IsGroupInForm (needed a_name (codes "name") d) _ (λ name is_named.
    then_yields IsGroupInForm (needed id_number (codes "id") d) _ (λ id _.
    then_yields IsGroupInForm (with_default (codes "groupSizeEncoding") a_name (codes "dimensionType") d) _ (λ dimension _.
    then_yields IsGroupInForm (with_default 0 id_number (codes "sinceVersion") d) _ (λ since _.
    then_yields IsGroupInForm (optional a_place (codes "blockLength") d) _ (λ block is_long.
    then_yields IsGroupInForm (at_most PART_LIMIT (items_count children)) _ (λ u fits.
    then_yields IsGroupInForm read _ (λ parts is_read.
    ok_yields IsGroupInForm _ (record {
      name = needed_yields IsName a_name (codes "name") d name_yields name is_named;
      block = within_yields (codes "blockLength") d block is_long;
      count = subst (λ n. n ≤ PART_LIMIT) (sym (counted children there parts is_read)) (at_most_yields PART_LIMIT (items_count children) u fits);
      parts = are parts is_read;
    })))))))))

abbrev row_in : PartItem → (n : Count) × Row_of-PartItem n
row_in (part.Group' _ _ _ _ _ _ row) = (_, row)
row_in _ = (_, end_of-PartItem)

row_count : (n : _) (row : Row_of-PartItem n) → count_parts row ≡ length (items-the_row-PartItem n row)
row_count n end_of-PartItem = refl
row_count n (more_of-PartItem p rest) = ap suc (row_count _ rest)

row_in_form : (n : _) (row : Row_of-PartItem n) → AllByRecursion IsPartInForm (items-the_row-PartItem n row) → ArePartsInForm row
row_in_form n end_of-PartItem h = tt
row_in_form n (more_of-PartItem p rest) h = (h.0, row_in_form _ rest h.1)

part_in_form : (g : GroupEl) → IsGroupInForm g → IsPartInForm (part.Group g)
part_in_form g h =
    let row = row_in (part.Group g) in (
      h.name,
      h.block,
      subst (λ n. n ≤ PART_LIMIT) (sym (row_count row.0 row.1 ∙ ap length (items_hidden-the_row-PartItem-0 g.children))) h.count,
      row_in_form row.0 row.1 (subst (AllByRecursion IsPartInForm) (sym (items_hidden-the_row-PartItem-0 g.children)) h.parts),
    )

child_yields : (name : ElementName) (d : Data) (read : Reading (List PartItem)) → Yields (AllByRecursion IsPartInForm) read
    → ((ds : Items) → content d ≡ Ok ds → Yields (λ xs. length xs ≡ items_count ds) read) → Yields IsPartInForm (part_child name d read)
child_yields element.Field d read are counted =
    made_yields IsFieldInForm IsPartInForm (inside (codes "field") (field_from d)) part.Field (inside_yields IsFieldInForm (codes "field") (field_from d) (field_yields d)) (λ f h. h)
child_yields element.Group d read are counted =
    made_yields IsGroupInForm IsPartInForm (inside (codes "group") (group_from d read)) part.Group (inside_yields IsGroupInForm (codes "group") (group_from d read) (group_yields d read are counted)) part_in_form
child_yields element.Data d read are counted =
    made_yields HasDataName IsPartInForm (inside (codes "data") (data_from d)) part.Data (inside_yields HasDataName (codes "data") (data_from d) (data_yields d)) (λ e h. h)
child_yields _ d read are counted = err_yields IsPartInForm (refusal Shape [])

parts_keep : Keeps IsPartInForm by_part
parts_keep name d read are counted = child_yields (element_of name) d read are counted

part_yields : (d : Data) → Yields IsPartInForm (part_of d)
part_yields d = tree_yields IsPartInForm by_part parts_keep d

message_yields : (d : Data) → Yields IsMessageInForm (message_from d)
message_yields d =
    then_yields IsMessageInForm (content d) _ (λ children _.
    then_yields IsMessageInForm (needed a_name (codes "name") d) _ (λ name is_named.
    then_yields IsMessageInForm (needed id_number (codes "id") d) _ (λ id _.
    then_yields IsMessageInForm (with_default [] text (codes "semanticType") d) _ (λ semantic _.
    then_yields IsMessageInForm (with_default 0 id_number (codes "sinceVersion") d) _ (λ since _.
    then_yields IsMessageInForm (optional a_place (codes "blockLength") d) _ (λ block is_long.
    then_yields IsMessageInForm (at_most PART_LIMIT (items_count children)) _ (λ u fits.
    then_yields IsMessageInForm (each part_of 0 children) _ (λ parts are_read.
    ok_yields IsMessageInForm _ (record {
      name = needed_yields IsName a_name (codes "name") d name_yields name is_named;
      block = within_yields (codes "blockLength") d block is_long;
      count = subst (λ n. n ≤ PART_LIMIT) (sym (each_count part_of 0 children parts are_read)) (at_most_yields PART_LIMIT (items_count children) u fits);
      parts = each_yields IsPartInForm part_of 0 children part_yields parts are_read;
    })))))))))

-- ---- declared types

types_child_yields : (name : ElementName) (d : Data) → Yields IsDeclaredInForm (types_child name d)
types_child_yields element.Type d =
    made_yields IsTypeInForm IsDeclaredInForm (inside (codes "type") (type_from Declared d)) declared_type.Type (inside_yields IsTypeInForm (codes "type") (type_from Declared d) (type_yields Declared d)) (λ t h. h)
types_child_yields element.Composite d =
    made_yields IsInnerInForm IsDeclaredInForm (inside (codes "composite") (composite_from Declared d (branches by_member d))) declared_type.Composite
    (inside_yields IsInnerInForm (codes "composite") (composite_from Declared d (branches by_member d)) (composite_yields Declared d (branches by_member d) (branches_yields _ by_member members_keep d) (branches_count by_member d)))
    (λ c h. h.0)
types_child_yields element.Enum d =
    made_yields IsEnumInForm IsDeclaredInForm (inside (codes "enum") (enum_from Declared d)) declared_type.Enum (inside_yields IsEnumInForm (codes "enum") (enum_from Declared d) (enum_yields Declared d)) (λ e h. h)
types_child_yields element.Set d =
    made_yields IsSetInForm IsDeclaredInForm (inside (codes "set") (set_from Declared d)) declared_type.Set (inside_yields IsSetInForm (codes "set") (set_from Declared d) (set_yields Declared d)) (λ s h. h)
types_child_yields _ d = err_yields IsDeclaredInForm (refusal Shape [])

declared_yields : (d : Data) → Yields IsDeclaredInForm (declared d)
declared_yields d = named_yields IsDeclaredInForm (λ name. types_child (element_of name)) d (λ name inner. types_child_yields (element_of name) inner)

abbrev AreDeclaredInForm : TypesEl → Type 0
AreDeclaredInForm el = AllByRecursion IsDeclaredInForm el.children

types_yields : (room : ℕ) (d : Data) → Yields AreDeclaredInForm (types_from room d)
types_yields room d =
    then_yields AreDeclaredInForm (content d) _ (λ children _.
    then_yields AreDeclaredInForm (at_most room (items_count children)) _ (λ _ _.
    then_yields AreDeclaredInForm (each declared 0 children) _ (λ types are_read.
    ok_yields AreDeclaredInForm _ (each_yields IsDeclaredInForm declared 0 children declared_yields types are_read))))

-- ---- the schema

schema_child_yields : (room : ℕ) (name : ElementName) (d : Data) → Yields IsChildInForm (schema_child room name d)
schema_child_yields room element.Types d =
    made_yields AreDeclaredInForm IsChildInForm (inside (codes "types") (types_from room d)) child.Types (inside_yields AreDeclaredInForm (codes "types") (types_from room d) (types_yields room d)) (λ el h. h)
schema_child_yields room element.Message d =
    made_yields IsMessageInForm IsChildInForm (inside (codes "message") (message_from d)) child.Message (inside_yields IsMessageInForm (codes "message") (message_from d) (message_yields d)) (λ m h. h)
schema_child_yields room _ d = err_yields IsChildInForm (refusal Shape [])

outer_part_yields : (room : ℕ) (d : Data) → Yields IsChildInForm (outer_part room d)
outer_part_yields room d = named_yields IsChildInForm (λ name. schema_child room (element_of name)) d (λ name inner. schema_child_yields room (element_of name) inner)

outer_parts_yield : (room i : ℕ) (ds : Items) → Yields (AllByRecursion IsChildInForm) (outer_parts room i ds)
outer_parts_yield room i no_items = ok_yields (AllByRecursion IsChildInForm) [] tt
outer_parts_yield room i (item d ds) =
    then_yields (AllByRecursion IsChildInForm) (at_child i (outer_part room d)) _ (λ x at.
    then_yields (AllByRecursion IsChildInForm) (outer_parts (room - declares x) (i + 1) ds) _ (λ xs rest.
    ok_yields (AllByRecursion IsChildInForm) (x ∷ xs) (
      inside_yields IsChildInForm (codes "content") (inside (decimal i) (outer_part room d)) (inside_yields IsChildInForm (decimal i) (outer_part room d) (outer_part_yields room d)) x at,
      outer_parts_yield (room - declares x) (i + 1) ds xs rest,
    )))

schema_yields : (d : Data) → Yields IsInForm (schema_from d)
schema_yields d =
    then_yields IsInForm (content d) _ (λ children _.
    then_yields IsInForm (needed id_number (codes "id") d) _ (λ id _.
    then_yields IsInForm (with_default 0 id_number (codes "version") d) _ (λ version _.
    then_yields IsInForm (with_default [] text (codes "package") d) _ (λ its_package _.
    then_yields IsInForm (with_default Little a_byte_order (codes "byteOrder") d) _ (λ order _.
    then_yields IsInForm (with_default (codes "messageHeader") a_name (codes "headerType") d) _ (λ header _.
    then_yields IsInForm (at_most MESSAGE_LIMIT (message_count children)) _ (λ _ _.
    then_yields IsInForm (outer_parts TYPE_LIMIT 0 children) _ (λ parts are_read.
    ok_yields IsInForm _ (outer_parts_yield TYPE_LIMIT 0 children parts are_read)))))))))

root_yields : (name : ElementName) (d : Data) → Yields IsInForm (root name d)
root_yields element.MessageSchema d = inside_yields IsInForm (codes "messageSchema") (schema_from d) (schema_yields d)
root_yields _ d = err_yields IsInForm (refusal Shape [])

-- what is read of a file is in form
pub file_yields : (bytes : List ℕ) → Yields IsInForm (schema_of bytes)
file_yields bytes =
    then_yields IsInForm (value_of bytes) _ (λ d _. named_yields IsInForm (λ name. root (element_of name)) d (λ name inner. root_yields (element_of name) inner))
