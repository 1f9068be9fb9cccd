-- Blocks by the lists of their parts.
use Rattle.std.proofs.Common.{◌≡◌, ℕ, List, [], ◌∷◌, ◌++◌, false, Some, refl, sym, ap, ◌∙◌, append_assoc}
use Rattle.std.specs.Prelude.{codes, decimal}
use denote.Hole.Carrier as carrier
use Rattle.sbe_types.specs.declared.schema.Level as levels
use Rattle.sbe_types.specs.declared.schema.Level.{Level, Level', out-Level, Row_of-Group, end_of-Group, more_of-Group, items-the_row-Group, items_shown-the_row-Group-0}
use Rattle.sbe_types.specs.declared.message.Block.{Block, out-Block}
use Rattle.sbe_types.specs.declared.message.GroupVal.{GroupVal}
use Rattle.sbe_types.specs.declared.message.Msg.{Msg}
use Rattle.json.specs.Print.{quoted}
use Rattle.flyweight_view.specs.TypedBlocks.{TypedBlock, typed_level}
use Rattle.serde_json.specs.Data.{object}
use Rattle.json_values.specs.Values.{listed, zipped}
use Rattle.tree_json.specs.Lines.{field_entry, part_entry, group_entry, three_entries, block_data, block_entries, groups_entries, message_at}
use Rattle.json_values.specs.Plain.{plain_text, entries_text}
use Rattle.tree_json.specs.Views.{block_object, block_front}

groups_are : {n : _} (row : Row_of-Group n) (vs : List GroupVal) → groups_entries row vs ≡ zipped group_entry (items-the_row-Group _ row) vs
unfolding block_entries
groups_are end_of-Group vs = refl
groups_are (more_of-Group g rest) [] = refl
groups_are (more_of-Group g rest) (v ∷ vs) = ap (λ es. group_entry g v ∷ es) (groups_are rest vs)

abbrev front_text : List ℕ → List ℕ → List ℕ → List ℕ
front_text p f g = codes "{\"data\":{" ++ (p ++ (codes ",\"fields\":{" ++ (f ++ (codes ",\"groups\":{" ++ g))))

closed : (p f g r : List ℕ) → front_text p f g ++ r ≡ front_text p f (g ++ r)
closed p f g r =
    ap (λ s. codes "{\"data\":{" ++ s) (append_assoc p (codes ",\"fields\":{" ++ (f ++ (codes ",\"groups\":{" ++ g))) r
    ∙ ap (λ s. p ++ (codes ",\"fields\":{" ++ s)) (append_assoc f (codes ",\"groups\":{" ++ g) r))

-- the object of a block that is seen, and its closing bracket
pub front_closed : (s : TypedBlock) → block_front s ++ codes "}" ≡ plain_text (block_object s)
front_closed s =
    closed (entries_text false (zipped part_entry s.parts (out-Block s.block).parts)) (entries_text false (zipped field_entry s.fields (out-Block s.block).fields)) _ (codes "}")

-- what is seen of a block of a level is its object
pub block_is : (level : Level) (b : Block) → block_object (typed_level level b) ≡ block_data level b
unfolding block_entries levels.out-Level carrier.out
block_is (Level' name id semantic since block_length fields n groups parts) b =
    ap (λ gs. object (listed (three_entries (zipped part_entry parts (out-Block b).parts) (zipped field_entry fields (out-Block b).fields) gs)))
    (sym (groups_are groups (out-Block b).groups ∙ ap (λ gs. zipped group_entry gs (out-Block b).groups) (sym (items_shown-the_row-Group-0 n groups))))

-- the object of a message: what is in its root's, its template and its version
pub message_is : (level : Level) (m : Msg)
    → block_front (typed_level level m.block) ++ (codes ",\"template\":" ++ (quoted (out-Level level).name ++ (codes ",\"version\":" ++ (decimal m.version ++ codes "}"))))
    ≡ plain_text (message_at (Some level) m)
unfolding block_entries levels.out-Level carrier.out
message_is (Level' name id semantic since block_length fields n groups parts) m =
    let p = entries_text false (zipped part_entry parts (out-Block m.block).parts) in
    let f = entries_text false (zipped field_entry fields (out-Block m.block).fields) in
    let r = codes ",\"template\":" ++ (quoted name ++ (codes ",\"version\":" ++ (decimal m.version ++ codes "}"))) in
    closed p f _ r
    ∙ sym (ap (λ es. front_text p f (entries_text false es ++ r)) (groups_are groups (out-Block m.block).groups ∙ ap (λ gs. zipped group_entry gs (out-Block m.block).groups) (sym (items_shown-the_row-Group-0 n groups))))

-- the template's name between what stands around it in each line
pub name_between : (name r : List ℕ) → (codes ",\"template\":\"" ++ (name ++ codes "\",\"version\":")) ++ r ≡ codes ",\"template\":" ++ ((codes "\"" ++ (name ++ codes "\"")) ++ (codes ",\"version\":" ++ r))
name_between name r = ap (λ l. codes ",\"template\":\"" ++ l) (append_assoc name (codes "\",\"version\":") r ∙ sym (append_assoc name (codes "\"") (codes ",\"version\":" ++ r)))
