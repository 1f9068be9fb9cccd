-- The text of what a view shows.
use Rattle.std.proofs.Common.{◌≡◌, Bool, List, [], ◌∷◌, length, Some, refl, sym, ap, ap₂, ◌∙◌}
use Rattle.std.specs.Prelude.{codes, map, slice_get}
use Rattle.serde_json.specs.Data.{array, item}
use Rattle.sbe_types.specs.declared.schema.Group as groups
use denote.Hole.Carrier as carrier
use Rattle.sbe_types.specs.declared.schema.DataField.{DataField}
use Rattle.sbe_types.specs.declared.schema.Group.{Group, Group', out-Group}
use Rattle.sbe_types.specs.declared.schema.Level.{Level}
use Rattle.sbe_types.specs.declared.message.Block.{Block}
use Rattle.sbe_types.specs.declared.message.DataVal.{DataVal}
use Rattle.sbe_types.specs.declared.message.DataVal.TheVariants as dataval
use Rattle.sbe_types.specs.declared.message.GroupVal.{GroupVal, items-the_row-Block}
use Rattle.sbe_types.specs.declared.message.GroupVal as groupval
use Rattle.flyweight_view.specs.TypedBlocks.{TypedBlock, typed_level, bytes_in, entries_in, typed_groups}
use Rattle.json_values.specs.Values.{Entry, zipped}
use Rattle.tree_json.specs.Lines.{part_entry, group_entry, group_name, items_by, block_data, block_entries, message_at}
use Rattle.json_values.specs.Plain.{plain_text, plain_items}
use Rattle.tree_json.specs.Views.{block_object, bytes_entry, entries_entry}
use Rattle.sbe_types.specs.declared.message.Msg.{Msg}
use Rattle.sbe_types.specs.declared.schema.WireSchema.{WireSchema}
use Rattle.serde_json.specs.Written.{compact_text}
use Rattle.tree_json.specs.Names.{HasPlainNames}
use Rattle.tree_json.proofs.Blocks.{block_is}
use Rattle.tree_json.proofs.Keys.{printed_is_line}

part_is : (p : DataField) (v : DataVal) → bytes_entry p (bytes_in v) ≡ part_entry p v
part_is p dataval.Absent = refl
part_is p (dataval.Bytes bytes) = refl

pub parts_are : (ps : List DataField) (vs : List DataVal) → zipped bytes_entry ps (map bytes_in vs) ≡ zipped part_entry ps vs
parts_are [] vs = refl
parts_are (p ∷ ps) [] = refl
parts_are (p ∷ ps) (v ∷ vs) = ap₂ (λ (e : Entry) es. e ∷ es) (part_is p v) (parts_are ps vs)

-- the closing bracket alone, where no entries are left
pub none_left : (later : Bool) (es : List TypedBlock) → length es ≡ 0 → codes "]" ≡ plain_items later (items_by block_object es)
none_left later [] h = refl
none_left later (e ∷ es) h = cc

items_are : (level : Level) (bs : List Block) → items_by block_object (map (typed_level level) bs) ≡ items_by (block_data level) bs
items_are level [] = refl
items_are level (b ∷ bs) = ap₂ item (block_is level b) (items_are level bs)

group_is : (g : Group) (v : GroupVal) → entries_entry g (entries_in (out-Group g).level v) ≡ group_entry g v
unfolding block_entries groups.out-Group carrier.out
group_is (Group' dim level) groupval.Absent = refl
group_is (Group' dim level) (groupval.Entries' n row) = ap (λ items. (group_name (Group' dim level), Some (array items))) (items_are level (items-the_row-Block _ row))

pub groups_are : (gs : List Group) (vs : List GroupVal) → zipped entries_entry gs (typed_groups gs vs) ≡ zipped group_entry gs vs
groups_are [] vs = refl
groups_are (g ∷ gs) [] = refl
groups_are (g ∷ gs) (v ∷ vs) = ap₂ (λ (e : Entry) es. e ∷ es) (group_is g v) (groups_are gs vs)

-- the text of a message whose names stand for themselves is its line
pub line_text : (schema : WireSchema) (level : Level) (m : Msg) → HasPlainNames schema → slice_get schema.messages m.template ≡ Some level
    → plain_text (message_at (Some level) m) ≡ compact_text (message_at (Some level) m)
line_text schema level m plain is =
    sym (ap (λ o. plain_text (message_at o m)) is) ∙ printed_is_line schema m plain ∙ ap (λ o. compact_text (message_at o m)) is
