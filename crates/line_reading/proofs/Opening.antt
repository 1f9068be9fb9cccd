-- Levels by their lists.
use Rattle.std.proofs.Common.{◌≡◌, List, ◌∷◌, Ok, refl, sym, ap, ◌∙◌}
use Rattle.std.specs.Prelude.{ℕ, codes}
use denote.Hole.Carrier as carrier
use Rattle.sbe_types.specs.declared.schema.Group as groups
use Rattle.sbe_types.specs.declared.schema.Level as levels
use Rattle.serde_json.specs.Data.{Members}
use Rattle.serde_json.specs.Find.{get_member}
use Rattle.sbe_types.specs.declared.schema.Field.{Field}
use Rattle.sbe_types.specs.declared.schema.DataField.{DataField}
use Rattle.sbe_types.specs.declared.schema.Group.{Group, Group', out-Group}
use Rattle.sbe_types.specs.declared.schema.Level.{Level, Level', out-Level, Row_of-Group, end_of-Group, more_of-Group, items-the_row-Group, items_shown-the_row-Group-0}
use Rattle.sbe_types.specs.declared.message.GroupVal.{GroupVal}
use Rattle.sbe_types.specs.declared.message.Block.{Block}
use Rattle.line_values.specs.Refusals.{Reading, ◌>>=◌, inside}
use Rattle.line_values.specs.Objects.{part}
use Rattle.line_values.specs.Keys.{field_names, data_names, group_name}
use Rattle.line_values.specs.Code.{group_list_names}
use Rattle.line_reading.specs.Lines.{fields_read, parts_read, group_names, group_in, block_with, block_read, groups_read, group_read}
use Rattle.line_reading.specs.Code.{group_list_read, block_opened}

group_names_end : {n : _} (gs : Row_of-Group n) → group_names gs ≡ group_list_names (items-the_row-Group _ gs)
group_names_end end_of-Group = refl
group_names_end (more_of-Group g rest) = ap (λ ns. group_name g ∷ ns) (group_names_end rest)

groups_end : {n : _} (gs : Row_of-Group n) (ms : Members) → groups_read gs ms ≡ group_list_read (items-the_row-Group _ gs) ms
unfolding block_read group_list_read
groups_end end_of-Group ms = refl
groups_end (more_of-Group g rest) ms = ap (λ r. group_read g ms >>= (λ v. r >>= (λ vs. Ok (v ∷ vs)))) (groups_end rest ms)

abbrev block_by : List Field → List (List ℕ) → (Members → Reading (List GroupVal)) → List DataField → Members → Reading Block
block_by fields names read parts ms = do
  found_fields ← part (codes "fields") (field_names fields) ms
  vs ← fields_read fields found_fields
  found_groups ← part (codes "groups") names ms
  ws ← read found_groups
  found_parts ← part (codes "data") (data_names parts) ms
  ps ← parts_read parts found_parts
  Ok (block_with vs ws ps)

same_block : (fields : List Field) (a b : List (List ℕ)) (f g : Members → Reading (List GroupVal)) (parts : List DataField) (ms : Members) → a ≡ b → ((x : Members) → f x ≡ g x)
    → block_by fields a f parts ms ≡ block_by fields b g parts ms
same_block fields a b f g parts ms h k = λ i. block_by fields (h i) (λ x. k x i) parts ms

pub block_opens : (level : Level) (ms : Members) → block_read level ms ≡ block_opened level ms
unfolding block_read block_opened levels.out-Level carrier.out
block_opens (Level' name id semantic since block_length fields n groups parts) ms =
    let back = sym (items_shown-the_row-Group-0 n groups) in
    same_block fields _ _ _ _ parts ms (group_names_end groups ∙ ap group_list_names back) (λ gs. groups_end groups gs ∙ ap (λ l. group_list_read l gs) back)

pub group_opens : (g : Group) (ms : Members) → group_read g ms ≡ inside (group_name g) (group_in (block_read (out-Group g).level) (get_member (group_name g) ms))
unfolding block_read groups.out-Group carrier.out
group_opens (Group' dim level) ms = refl
