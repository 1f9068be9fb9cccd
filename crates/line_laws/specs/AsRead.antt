-- Data whose members may be in any order, and the data that its text is read as. From RFC 8259, Objects; `serde_json`
-- keeps the members of an object in the order of their keys.
use Rattle.std.specs.Prelude.{◌≡◌, ◌≤◌, ◌^◌, ◌<◌, pos, negsuc, Some, ⊤}
use Rattle.serde_json.specs.Data.{Num, unsigned, negative, float, Data, null, boolean, number, string, array, object, Items, no_items, item, Members, no_members, member, put, depth}
use Rattle.std.specs.Str.{IsUtf8}
use Rattle.serde_json.specs.Read.{read, max_depth}
use Rattle.serde_json.specs.Written.{compact_text}

abbrev mutual
  -- data as its text is read: the members of each object are inserted one by one
  pub as_read : Data → Data
  as_read null = null
  as_read (boolean b) = boolean b
  as_read (number n) = number n
  as_read (string s) = string s
  as_read (array ds) = array (items_as_read ds)
  as_read (object ms) = object (put_all ms no_members)

  -- the items of an array, each as it is read
  pub items_as_read : Items → Items
  items_as_read no_items = no_items
  items_as_read (item d ds) = item (as_read d) (items_as_read ds)

  -- the members that are there with these inserted, each as it is read; a later one replaces one with the same key
  pub put_all : Members → Members → Members
  put_all no_members found = found
  put_all (member k d ms) found = put_all ms (put k (as_read d) found)

-- an integer that a reader reads as the same
abbrev pub IsInteger : Num → Type 0
IsInteger (unsigned n) = n < 2 ^ 64
IsInteger (negative (pos n)) = ⊥
IsInteger (negative (negsuc n)) = n < 2 ^ 63
IsInteger (float x) = ⊥

abbrev mutual
  -- each number is an integer that a reader reads as the same
  pub HasIntegers : Data → Type 0
  HasIntegers null = ⊤
  HasIntegers (boolean b) = ⊤
  HasIntegers (number n) = IsInteger n
  HasIntegers (string s) = ⊤
  HasIntegers (array ds) = ItemsHaveIntegers ds
  HasIntegers (object ms) = MembersHaveIntegers ms

  -- the same for the items of an array
  pub ItemsHaveIntegers : Items → Type 0
  ItemsHaveIntegers no_items = ⊤
  ItemsHaveIntegers (item d ds) = HasIntegers d × ItemsHaveIntegers ds

  -- the same for the members of an object
  pub MembersHaveIntegers : Members → Type 0
  MembersHaveIntegers no_members = ⊤
  MembersHaveIntegers (member k d ms) = HasIntegers d × MembersHaveIntegers ms

-- The law: a printed text is read as its data, with the members of each object inserted one by one.
abbrev pub TextIsRead : Type 0
TextIsRead = (d : Data) → HasIntegers d → depth d ≤ max_depth → read (compact_text d) ≡ Some (as_read d)

abbrev mutual
  -- all keys and strings are UTF-8
  pub HasTexts : Data → Type 0
  HasTexts null = ⊤
  HasTexts (boolean b) = ⊤
  HasTexts (number n) = ⊤
  HasTexts (string s) = IsUtf8 s
  HasTexts (array ds) = ItemsHaveTexts ds
  HasTexts (object ms) = MembersHaveTexts ms

  -- the same for the items of an array
  pub ItemsHaveTexts : Items → Type 0
  ItemsHaveTexts no_items = ⊤
  ItemsHaveTexts (item d ds) = HasTexts d × ItemsHaveTexts ds

  -- the same for the members of an object
  pub MembersHaveTexts : Members → Type 0
  MembersHaveTexts no_members = ⊤
  MembersHaveTexts (member k d ms) = IsUtf8 k × HasTexts d × MembersHaveTexts ms

-- The law: the text of such data is UTF-8.
abbrev pub TextIsUtf8 : Type 0
TextIsUtf8 = (d : Data) → HasIntegers d → HasTexts d → IsUtf8 (compact_text d)
