-- Where the names of a schema are plain, the text that is printed is the line.
use Rattle.std.proofs.Common.{◌≡◌, ℕ, zero, suc, ℤ, Bool, true, false, List, [], ◌∷◌, ◌++◌, Option, Some, None, refl, sym, ap, ap₂, ◌∙◌, append_assoc}
use denote.Hole.Carrier as carrier
use Rattle.sbe_types.specs.declared.schema.Group as groups
use Rattle.std.specs.Prelude.{⊤, slice_get, if◌then◌else◌, ◌&&◌, int_le, pos, codes}
use Rattle.std.specs.List.{AllByRecursion, list_all}
use Rattle.std.specs.Option.{option_map, option_map_or}
use Rattle.json.specs.Print.{escape, escape_byte, quoted}
use Rattle.serde_json.specs.Data.{Data, null, boolean, number, string, array, object, Items, no_items, item, Members, no_members, member, unsigned}
use Rattle.serde_json.specs.Written.{compact_text, items_text, members_text, comma_if}
use Rattle.sbe_types.specs.declared.kind.ConstValue.{ConstValue}
use Rattle.sbe_types.specs.declared.kind.ConstValue.TheVariants as constant
use Rattle.sbe_types.specs.declared.kind.Named.{Named}
use Rattle.sbe_types.specs.declared.kind.Kind.{Kind, Leaf, Enum, Set, Const, Comp', Row_of-Member, end_of-Member, more_of-Member}
use Rattle.sbe_types.specs.declared.schema.Field.{Field}
use Rattle.sbe_types.specs.declared.schema.DataField.{DataField}
use Rattle.sbe_types.specs.declared.schema.Group.{Group'}
use Rattle.sbe_types.specs.declared.schema.Level.{Level, Level', out-Level, Row_of-Group, end_of-Group, more_of-Group}
use Rattle.sbe_types.specs.declared.message.Elem.{Elem}
use Rattle.sbe_types.specs.declared.message.Elem.TheVariants as elem
use Rattle.sbe_types.specs.declared.message.Value.{Value, items-the_row-Value}
use Rattle.sbe_types.specs.declared.message.Value as value
use Rattle.sbe_types.specs.declared.message.DataVal.{DataVal}
use Rattle.sbe_types.specs.declared.message.DataVal.TheVariants as dataval
use Rattle.sbe_types.specs.declared.message.Block.{Block, out-Block}
use Rattle.sbe_types.specs.declared.message.GroupVal.{GroupVal}
use Rattle.sbe_types.specs.declared.message.Msg.{Msg}
use Rattle.sbe_types.specs.Shown.{has_listed_bits}
use Rattle.json_values.specs.Values.{Entry, listed, zipped, is_printable, hex, text_data, char_data, number_data, single_data, is_char, element_data, elements_data, name_of, has_bit, chosen, set_data, constant_data, constant_of, named_in, shown_data, no_entries, value_data, row_entries}
use Rattle.tree_json.specs.Lines.{field_entry, part_data, part_entry, entries_in, items_by, three_entries, block_entries, groups_entries, message_entries, message_at, message_data}
use Rattle.json_values.specs.Plain.{key_text, plain_text, plain_items, plain_members, IsPlainName, HasPlainKeys, ItemsHavePlainKeys, MembersHavePlainKeys}
use Rattle.tree_json.specs.Names.{HasPlainMembers, ArePlainMembers, IsPlainField, IsPlainPart, IsPlainLevel, ArePlainGroups, PrintedIsLine}

-- ---- the text

key_is : (name : List ℕ) (rest : List ℕ) → IsPlainName name → key_text name ++ rest ≡ quoted name ++ 58 ∷ rest
key_is name rest plain =
    ap (λ s. (34 ∷ (s ++ 34 ∷ 58 ∷ [])) ++ rest) (sym plain)
    ∙ ap (λ s. 34 ∷ s) (append_assoc (escape name) (34 ∷ 58 ∷ []) rest ∙ sym (append_assoc (escape name) (34 ∷ []) (58 ∷ rest)))

mutual
  pub same_text : (d : Data) → HasPlainKeys d → plain_text d ≡ compact_text d
  same_text null h = refl
  same_text (boolean b) h = refl
  same_text (number n) h = refl
  same_text (string s) h = refl
  same_text (array items) h = ap (λ s. 91 ∷ s) (same_items false items h)
  same_text (object members) h = ap (λ s. 123 ∷ s) (same_members false members h)

  same_items : (later : Bool) (items : Items) → ItemsHavePlainKeys items → plain_items later items ≡ items_text later items
  same_items later no_items h = refl
  same_items later (item d items) h = ap₂ (λ s t. comma_if later ++ (s ++ t)) (same_text d h.0) (same_items true items h.1)

  same_members : (later : Bool) (members : Members) → MembersHavePlainKeys members → plain_members later members ≡ members_text later members
  same_members later no_members h = refl
  same_members later (member name d members) h =
      ap (λ s. comma_if later ++ s) (key_is name (plain_text d ++ plain_members true members) h.0
      ∙ ap₂ (λ s t. quoted name ++ 58 ∷ (s ++ t)) (same_text d h.1) (same_members true members h.2))

-- ---- keys of values

abbrev ShownHasPlainKeys : Option Data → Type 0
ShownHasPlainKeys None = ⊤
ShownHasPlainKeys (Some d) = HasPlainKeys d

abbrev EntriesArePlain : List Entry → Type 0
EntriesArePlain [] = ⊤
EntriesArePlain ((name, o) ∷ entries) = IsPlainName name × ShownHasPlainKeys o × EntriesArePlain entries

listed_keys : (entries : List Entry) → EntriesArePlain entries → MembersHavePlainKeys (listed entries)
listed_keys [] h = tt
listed_keys ((name, None) ∷ entries) h = listed_keys entries h.2
listed_keys ((name, Some d) ∷ entries) h = (h.0, h.1, listed_keys entries h.2)

hex_keys : (bytes : List ℕ) → HasPlainKeys (hex bytes)
unfolding escape_byte
hex_keys bytes = (refl, tt, tt)

one_of : (b : Bool) (d e : Data) → HasPlainKeys d → HasPlainKeys e → HasPlainKeys (if b then d else e)
one_of true d e h k = h
one_of false d e h k = k

text_keys : (bytes : List ℕ) → HasPlainKeys (text_data bytes)
text_keys bytes = one_of (list_all is_printable bytes) (string bytes) (hex bytes) tt (hex_keys bytes)

single_keys : (char : Bool) (n : ℤ) → HasPlainKeys (single_data char n)
single_keys char n = one_of char (char_data n) (number_data n) (one_of (int_le (pos 32) n && int_le n (pos 126)) _ (number_data n) tt tt) tt

element_keys : (e : Elem) → HasPlainKeys (element_data e)
element_keys (elem.Num n) = tt
element_keys elem.Null = tt

elements_keys : (es : List Elem) → ItemsHavePlainKeys (elements_data es)
elements_keys [] = tt
elements_keys (e ∷ es) = (element_keys e, elements_keys es)

name_keys : (o : Option (List ℕ)) (n : ℤ) → HasPlainKeys (option_map_or string o (number_data n))
name_keys None n = tt
name_keys (Some name) n = tt

items_of : (b : Bool) (name : List ℕ) (items : Items) → ItemsHavePlainKeys items → ItemsHavePlainKeys (if b then item (string name) items else items)
items_of true name items h = (tt, h)
items_of false name items h = h

chosen_keys : (bits : ℕ) (cs : List Named) → ItemsHavePlainKeys (chosen bits cs)
chosen_keys bits [] = tt
chosen_keys bits (c ∷ cs) = items_of (has_bit bits c.number) c.name (chosen bits cs) (chosen_keys bits cs)

set_keys : (names : List Named) (bits : ℕ) → HasPlainKeys (set_data names bits)
set_keys names bits = one_of (has_listed_bits names 64 bits) (array (chosen bits names)) _ (chosen_keys bits names) tt

constant_keys : (o : Option ConstValue) → ShownHasPlainKeys (option_map constant_data o)
constant_keys None = tt
constant_keys (Some (constant.Num n)) = tt
constant_keys (Some (constant.Text bytes)) = text_keys bytes
constant_keys (Some (constant.Code p named)) = tt

shown_keys : (kind : Kind) (members : List Value → List Entry) (v : Value) → ((vs : List Value) → EntriesArePlain (members vs)) → ShownHasPlainKeys (shown_data kind members v)
shown_keys kind members (value.Num n) h = single_keys (is_char kind) n
shown_keys kind members value.Null h = tt
shown_keys kind members (value.Text bytes) h = text_keys bytes
shown_keys kind members (value.Nums es) h = elements_keys es
shown_keys kind members (value.Enum n) h = name_keys (name_of (named_in kind) n) n
shown_keys kind members (value.Set bits) h = set_keys (named_in kind) bits
shown_keys kind members (value.Comp' n values) h = listed_keys (members (items-the_row-Value _ values)) (h (items-the_row-Value _ values))
shown_keys kind members value.Const h = constant_keys (constant_of kind)
shown_keys kind members value.Absent h = tt

mutual
  unfolding value_data

  value_keys : (kind : Kind) (v : Value) → HasPlainMembers kind → ShownHasPlainKeys (value_data kind v)
  value_keys (Leaf l) v h = shown_keys (Leaf l) no_entries v (λ vs. tt)
  value_keys (Enum l names) v h = shown_keys (Enum l names) no_entries v (λ vs. tt)
  value_keys (Set p names) v h = shown_keys (Set p names) no_entries v (λ vs. tt)
  value_keys (Const c) v h = shown_keys (Const c) no_entries v (λ vs. tt)
  value_keys (Comp' n members) v h = shown_keys (Comp' n members) (row_entries members) v (λ vs. row_keys members vs h)

  row_keys : {n : _} (members : Row_of-Member n) (vs : List Value) → ArePlainMembers members → EntriesArePlain (row_entries members vs)
  row_keys end_of-Member vs h = tt
  row_keys (more_of-Member name offset kind rest) [] h = tt
  row_keys (more_of-Member name offset kind rest) (v ∷ vs) h = (h.0, value_keys kind v h.1, row_keys rest vs h.2)

-- ---- keys of levels

fields_keys : (fs : List Field) (vs : List Value) → AllByRecursion IsPlainField fs → EntriesArePlain (zipped field_entry fs vs)
fields_keys [] vs h = tt
fields_keys (f ∷ fs) [] h = tt
fields_keys (f ∷ fs) (v ∷ vs) h = (h.0.0, value_keys f.kind v h.0.1, fields_keys fs vs h.1)

part_keys : (v : DataVal) → ShownHasPlainKeys (part_data v)
part_keys dataval.Absent = tt
part_keys (dataval.Bytes bytes) = text_keys bytes

parts_keys : (ps : List DataField) (vs : List DataVal) → AllByRecursion IsPlainPart ps → EntriesArePlain (zipped part_entry ps vs)
parts_keys [] vs h = tt
parts_keys (p ∷ ps) [] h = tt
parts_keys (p ∷ ps) (v ∷ vs) h = (h.0, part_keys v, parts_keys ps vs h.1)

items_keys : {A : Type 0} (f : A → Data) (xs : List A) → ((x : A) → HasPlainKeys (f x)) → ItemsHavePlainKeys (items_by f xs)
items_keys f [] h = tt
items_keys f (x ∷ xs) h = (h x, items_keys f xs h)

group_keys : (f : Block → Data) (o : Option (List Block)) → ((b : Block) → HasPlainKeys (f b)) → ShownHasPlainKeys (option_map (λ es. array (items_by f es)) o)
group_keys f None h = tt
group_keys f (Some es) h = items_keys f es h

three_keys : (parts fields groups : List Entry) → EntriesArePlain parts → EntriesArePlain fields → EntriesArePlain groups → EntriesArePlain (three_entries parts fields groups)
unfolding escape_byte
three_keys parts fields groups h k l = (refl, listed_keys parts h, (refl, listed_keys fields k, (refl, listed_keys groups l, tt)))

mutual
  unfolding block_entries groups.out-Group carrier.out

  block_keys : (level : Level) (b : Block) → IsPlainLevel level → EntriesArePlain (block_entries level b)
  block_keys (Level' name id semantic since block_length fields n groups parts) b h =
      three_keys _ _ _ (parts_keys parts (out-Block b).parts h.2) (fields_keys fields (out-Block b).fields h.0) (groups_keys groups (out-Block b).groups h.1)

  groups_keys : {n : _} (gs : Row_of-Group n) (vs : List GroupVal) → ArePlainGroups gs → EntriesArePlain (groups_entries gs vs)
  groups_keys end_of-Group vs h = tt
  groups_keys (more_of-Group g rest) [] h = tt
  groups_keys (more_of-Group (Group' dim level) rest) (v ∷ vs) h =
      (h.0.0, group_keys _ (entries_in v) (λ b. listed_keys (block_entries level b) (block_keys level b h.0.1)), groups_keys rest vs h.1)

-- ---- the message

append_keys : (es fs : List Entry) → EntriesArePlain es → EntriesArePlain fs → EntriesArePlain (es ++ fs)
append_keys [] fs h k = k
append_keys ((name, o) ∷ es) fs h k = (h.0, h.1, append_keys es fs h.2 k)

last_keys : (name : List ℕ) (version : Data) → HasPlainKeys version → EntriesArePlain ((codes "template", Some (string name)) ∷ (codes "version", Some version) ∷ [])
unfolding escape_byte
last_keys name version h = (refl, tt, (refl, h, tt))

message_keys : (level : Level) (version : ℕ) (b : Block) → IsPlainLevel level → EntriesArePlain (message_entries level version b)
message_keys level version b h = append_keys (block_entries level b) _ (block_keys level b h) (last_keys (out-Level level).name (number (unsigned version)) tt)

found : (levels : List Level) (i : ℕ) (m : Msg) → AllByRecursion IsPlainLevel levels → HasPlainKeys (message_at (slice_get levels i) m)
found [] i m h = tt
found (level ∷ levels) zero m h = listed_keys (message_entries level m.version m.block) (message_keys level m.version m.block h.0)
found (level ∷ levels) (suc i) m h = found levels i m h.1

pub printed_is_line : PrintedIsLine
printed_is_line schema m h = same_text (message_data schema m) (found schema.messages m.template m h)
