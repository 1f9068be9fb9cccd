-- Fields at offsets of a text, as the code finds them. Own profile.
use Rattle.std.specs.Prelude.{◌≡◌, ℕ, ◌+◌, ◌-◌, ◌<◌, ◌≤◌, nat_lt, ◌&&◌, ◌==◌, slice_index, Bool, true, false, Option, Some, None, Result, Ok, Err, List, ◌++◌, length, take, drop, MatchOption, IfOk, IfErr}
use Rattle.std.specs.Str.{bytes_eq}
use Rattle.std.specs.Str.Parse.{digits_value}
use Rattle.tagvalue_codec.specs.declared.data_tags.Pair.{Pair}
use Rattle.tagvalue_codec.specs.declared.table.FixField.{FixField}
use Rattle.tagvalue_codec.specs.declared.read.FixFault.{FixFault}
use Rattle.tagvalue_codec.specs.Fields.{soh, Field, field_bytes, is_number}
use Rattle.tagvalue_codec.specs.Texts.{Owed, Free, FixText, three_digits}
use Rattle.tagvalue_codec.specs.Reading.{Finder, tag_read, size_read, walk, placed_at, placed, text_read}

-- a tag begins at an offset, and its value at `from`
pub record TagAt (text : List ℕ) (at tag from : ℕ) : Type 0 where
  pub found : tag_read (drop at text) ≡ Some (tag, drop from text)
  pub later : at < from
  pub within : from ≤ length text

-- the tag that begins at an offset, if there is one
abbrev pub FindsTag : List ℕ → ℕ → Option (ℕ × ℕ) → Type 0
FindsTag text at result = MatchOption result (tag_read (drop at text) ≡ None) (λ t. TagAt text at t.0 t.1)

-- what is found at an offset is this field, by its ranges
pub record FoundAt (p : Finder Field) (text : List ℕ) (at : ℕ) (f : FixField) : Type 0 where
  pub field : Field
  pub found : p (drop at text) ≡ Some (field, drop (f.to + 1) text)
  pub placed_is : f ≡ placed_at at field
  pub value_is : field.value ≡ take (f.to - f.from) (drop f.from text)
  pub later : at < f.to
  pub within : f.to < length text

-- what is found at an offset
abbrev pub FindsAt : Finder Field → List ℕ → ℕ → Option FixField → Type 0
FindsAt p text at result = MatchOption result (p (drop at text) ≡ None) (λ f. FoundAt p text at f)

-- the field 9 that is found at an offset, and its number
abbrev pub FindsSize : List ℕ → ℕ → Option (FixField × ℕ) → Type 0
FindsSize text at result = MatchOption result (size_read (drop at text) ≡ None) (λ r. FoundAt size_read text at r.0 × (r.1 ≡ digits_value 10 (take (r.0.to - r.0.from) (drop r.0.from text))))

-- the number of a value, if it is one
abbrev pub IsNumberOf : List ℕ → Option ℕ → Type 0
IsNumberOf value result = MatchOption result (is_number value ≡ false) (λ n. (is_number value ≡ true) × (n ≡ digits_value 10 value))

-- fields added to those of a table
abbrev pub after_table : List FixField → ℕ → Result (List Field) FixFault → Result (List FixField) FixFault
after_table table at (Ok fs) = Ok (table ++ placed at fs)
after_table table at (Err fault) = Err fault

-- what a walk from an offset leaves in a table with room for 4096 fields
abbrev pub filled : List Pair → Owed → List FixField → ℕ → List ℕ → Result (List FixField) FixFault
filled tags owed table at front = after_table table at (walk tags (4096 - length table) owed at (drop at front))

-- a table, and the offset of the next field
pub record Cursor : Type 0 where
  pub table : List FixField
  pub at : ℕ

-- the cursor with this table and offset
abbrev pub cursor : List FixField → ℕ → Cursor
cursor table at = record { table = table; at = at }

-- the fields of a length tag and its data tag were read at an offset: the walk continues after them, or reports this
-- fault
pub record Passes (tags : List Pair) (front : List ℕ) (before : Cursor) (after : List FixField) (result : Result ℕ FixFault) : Type 0 where
  pub moved : IfOk result (λ next. (filled tags Free before.table before.at front ≡ filled tags Free after next front) × (before.at < next) × (next ≤ length front))
  pub told : IfErr result (λ fault. filled tags Free before.table before.at front ≡ Err fault)

-- whether there is an SOH at an offset
abbrev pub ends_at : ℕ → List ℕ → Bool
ends_at to front = nat_lt to (length front) && (slice_index front to == soh)

-- The table holds the fields of a text by their ranges.
pub record Holds (tags : List Pair) (text : List ℕ) (table : List FixField) : Type 0 where
  pub fields : List Field
  pub is : FixText tags fields text
  pub table_is : table ≡ placed 0 fields

-- the same, by what the definitions read
pub record Read (tags : List Pair) (text : List ℕ) (table : List FixField) : Type 0 where
  pub fields : List Field
  pub is : text_read tags text ≡ Ok fields
  pub table_is : table ≡ placed 0 fields

-- whether the bytes are the last field with this sum
abbrev pub is_sum_field : List ℕ → ℕ → Bool
is_sum_field last sum = bytes_eq last (field_bytes (record { tag = 10; value = three_digits sum }))
