-- The first two fields of a text, by their ranges. Own profile.
use Rattle.std.specs.Prelude.{◌≡◌, ℕ, ◌+◌, ◌-◌, List, length, take, drop}
use Rattle.std.specs.Str.Parse.{digits_value}
use Rattle.tagvalue_codec.specs.declared.table.FixField.{FixField}
use Rattle.tagvalue_codec.specs.Reading.{tagged_read, size_read}
use Rattle.tagvalue_codec.specs.Places.{FoundAt}

-- the text begins with a field 8 and a field 9 that counts its bytes, and its body begins here
pub record OpensAt (text : List ℕ) (body : ℕ) : Type 0 where
  pub begin : FixField
  pub size : FixField
  pub number : ℕ
  pub first : FoundAt (tagged_read 8) text 0 begin
  pub second : FoundAt size_read text (begin.to + 1) size
  pub number_is : number ≡ digits_value 10 (take (size.to - size.from) (drop size.from text))
  pub body_is : body ≡ size.to + 1
  pub right : number + 7 ≡ length text - (size.to + 1)
