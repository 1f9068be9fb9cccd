-- How the fields of a mapping's datatype are spelled. From FIX Orchestra, datatypes and code sets, and the FIX
-- tag-value encoding, datatypes. Own profile: which datatypes are bridged.
use Rattle.std.specs.Prelude.{ℕ, List}

-- a code and its name
pub record NamedCode : Type 0 where
  pub name : List ℕ
  pub text : List ℕ

-- how the fields of a datatype are spelled
pub data Datatype : Type 0 where
  whole_number : Datatype
  decimal_number : Datatype
  character : Datatype
  text : Datatype
  boolean : Datatype
  timestamp : Datatype
  time_of_day : Datatype
  calendar_day : Datatype
  month_of_year : Datatype
  -- data that has a length field
  raw : Datatype
  code_set : List NamedCode → Datatype
  -- a code set of type MultipleCharValue
  character_set : List NamedCode → Datatype
  unbridged : Datatype
