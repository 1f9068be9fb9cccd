-- The fields of a text that a table holds. From the FIX tag=value encoding (FIX 4.4), Message format.
use Rattle.std.specs.Prelude.{◌≡◌, ℕ, List}
use Rattle.tagvalue_codec.specs.Fields.{Field, bytes_of}
use Rattle.tagvalue_codec.specs.declared.table.FixField.{FixField}
use Rattle.tagvalue_codec.specs.Reading.{placed}

-- the table holds these fields of the text, by their ranges
pub record HoldsFields (text : List ℕ) (table : List FixField) : Type 0 where
  pub fields : List Field
  pub text_is : text ≡ bytes_of fields
  pub table_is : table ≡ placed 0 fields
