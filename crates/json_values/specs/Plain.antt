-- The text of data as it is printed: keys are not escaped, and members may be left out one by one. Own profile.
use Rattle.std.specs.Prelude.{◌≡◌, ℕ, if◌then◌else◌, not, ◌&&◌, ◌||◌, ◌==◌, Bool, true, false, List, [], ◌∷◌, ◌++◌, codes, Option, Some, None, ⊤}
use Rattle.json.specs.Print.{escape, quoted}
use Rattle.serde_json.specs.Data.{Data, null, boolean, number, string, array, object, Items, no_items, item, Members, no_members, member}
use Rattle.serde_json.specs.Written.{compact_text, comma_if}
use Rattle.sbe_types.specs.declared.kind.Named.{Named}
use Rattle.json_values.specs.Values.{Entry, listed, is_printable, has_bit}

-- a quoted name and a colon
abbrev pub key_text : List ℕ → List ℕ
key_text name = codes "\"" ++ (name ++ codes "\":")

abbrev mutual
  -- the text without spaces, in which the bytes of a key are not escaped
  pub plain_text : Data → List ℕ
  plain_text null = compact_text null
  plain_text (boolean b) = compact_text (boolean b)
  plain_text (number n) = compact_text (number n)
  plain_text (string s) = quoted s
  plain_text (array items) = 91 ∷ plain_items false items
  plain_text (object members) = 123 ∷ plain_members false members

  -- the items of an array after others, with the closing bracket
  pub plain_items : Bool → Items → List ℕ
  plain_items later no_items = codes "]"
  plain_items later (item d items) = comma_if later ++ (plain_text d ++ plain_items true items)

  -- the members of an object after others, with the closing bracket
  pub plain_members : Bool → Members → List ℕ
  plain_members later no_members = codes "}"
  plain_members later (member name d members) = comma_if later ++ (key_text name ++ (plain_text d ++ plain_members true members))

-- what a member adds after others: nothing if it is left out
abbrev pub entry_text : Bool → Entry → List ℕ
entry_text later (name, None) = []
entry_text later (name, Some d) = comma_if later ++ (key_text name ++ plain_text d)

-- what a choice of a set adds after others: its name if its bit is set
abbrev pub choice_text : Bool → ℕ → Named → List ℕ
choice_text later bits choice = if has_bit bits choice.number then comma_if later ++ plain_text (string choice.name) else []

-- whether there is a member, after this one
abbrev pub later_behind : Bool → Option Data → Bool
later_behind later None = later
later_behind later (Some d) = true

-- the text of data that is there, else nothing
abbrev pub shown_text : Option Data → List ℕ
shown_text None = []
shown_text (Some d) = plain_text d

-- the text of an object's members after others, with the closing bracket
abbrev pub entries_text : Bool → List Entry → List ℕ
entries_text later entries = plain_members later (listed entries)

-- ---- names

-- no byte of the name is escaped
abbrev pub IsPlainName : List ℕ → Type 0
IsPlainName name = escape name ≡ name

abbrev mutual
  -- all keys are names without escapes
  pub HasPlainKeys : Data → Type 0
  HasPlainKeys null = ⊤
  HasPlainKeys (boolean b) = ⊤
  HasPlainKeys (number n) = ⊤
  HasPlainKeys (string s) = ⊤
  HasPlainKeys (array items) = ItemsHavePlainKeys items
  HasPlainKeys (object members) = MembersHavePlainKeys members

  -- the same for the keys in each item
  pub ItemsHavePlainKeys : Items → Type 0
  ItemsHavePlainKeys no_items = ⊤
  ItemsHavePlainKeys (item d items) = HasPlainKeys d × ItemsHavePlainKeys items

  -- the same for each key, and the keys in its value
  pub MembersHavePlainKeys : Members → Type 0
  MembersHavePlainKeys no_members = ⊤
  MembersHavePlainKeys (member name d members) = IsPlainName name × HasPlainKeys d × MembersHavePlainKeys members

-- a printable byte that isn't escaped in a string
abbrev pub is_plain_byte : ℕ → Bool
is_plain_byte b = is_printable b && not ((b == 34) || (b == 92))
