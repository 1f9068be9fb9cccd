-- Bodies, the messages that they are, and their first faults. Own profile.
use Rattle.std.specs.Prelude.{ℕ, List, [], ◌∷◌, pos, negsuc, codes}
use Rattle.sbe_types.specs.declared.path.Step.TheVariants as way
use Rattle.sbe_types.specs.declared.message.Msg.{Msg}
use Rattle.sbe_types.specs.declared.message.Elem.TheVariants as elem
use Rattle.sbe_types.specs.declared.message.Value.{Value}
use Rattle.sbe_types.specs.declared.message.Value.TheVariants as value
use Rattle.sbe_types.specs.declared.message.DataVal.{DataVal}
use Rattle.sbe_types.specs.declared.message.DataVal.TheVariants as dataval
use Rattle.sbe_types.specs.declared.message.GroupVal.TheVariants as groupval
use Rattle.sbe_types.specs.declared.message.Block.{Block}
use Rattle.sbe_wire.specs.declared.codes.FCode.TheVariants as fault
use Rattle.sbe_wire.specs.declared.codes.NCode.TheVariants as misfit
use Rattle.sbe_wire.specs.Faults.{Fault}
use Rattle.sbe_wire.specs.Misfit.{Misfit}

-- a block of fields alone
abbrev pub flat : List Value → Block
flat fields = record { fields = fields; groups = []; parts = [] }

-- a block of fields and data
abbrev pub with_data : List Value → List DataVal → Block
with_data fields parts = record { fields = fields; groups = []; parts = parts }

-- 258, and the null of an optional int32
abbrev pub ping_body : List ℕ
ping_body = 6 ∷ 0 ∷ 1 ∷ 0 ∷ 7 ∷ 0 ∷ 0 ∷ 0 ∷ 2 ∷ 1 ∷ 0 ∷ 0 ∷ 0 ∷ 128 ∷ []

-- the same with one byte after it
abbrev pub ping_trailed_body : List ℕ
ping_trailed_body = 6 ∷ 0 ∷ 1 ∷ 0 ∷ 7 ∷ 0 ∷ 0 ∷ 0 ∷ 2 ∷ 1 ∷ 0 ∷ 0 ∷ 0 ∷ 128 ∷ 0 ∷ []

-- the null 127 of an optional int8
abbrev pub nul_body : List ℕ
nul_body = 1 ∷ 0 ∷ 2 ∷ 0 ∷ 7 ∷ 0 ∷ 0 ∷ 0 ∷ 127 ∷ []

-- the null of uint8 at a required field
abbrev pub one_body : List ℕ
one_body = 1 ∷ 0 ∷ 3 ∷ 0 ∷ 7 ∷ 0 ∷ 0 ∷ 0 ∷ 255 ∷ []

-- an entry, and anything in the padding of the dimension
abbrev pub grp_body : List ℕ
grp_body = 0 ∷ 0 ∷ 4 ∷ 0 ∷ 7 ∷ 0 ∷ 0 ∷ 0 ∷ 1 ∷ 0 ∷ 170 ∷ 187 ∷ 204 ∷ 221 ∷ 238 ∷ 1 ∷ 5 ∷ []

-- the same with 00 in the padding
abbrev pub grp_written_body : List ℕ
grp_written_body = 0 ∷ 0 ∷ 4 ∷ 0 ∷ 7 ∷ 0 ∷ 0 ∷ 0 ∷ 1 ∷ 0 ∷ 0 ∷ 0 ∷ 0 ∷ 0 ∷ 0 ∷ 1 ∷ 5 ∷ []

-- an entry whose inner group has no entry and gives the block length 0
abbrev pub nest_body : List ℕ
nest_body = 0 ∷ 0 ∷ 5 ∷ 0 ∷ 7 ∷ 0 ∷ 0 ∷ 0 ∷ 1 ∷ 0 ∷ 1 ∷ 0 ∷ 1 ∷ 0 ∷ 0 ∷ 0 ∷ 0 ∷ 2 ∷ 0 ∷ 104 ∷ 105 ∷ []

-- the same with the declared block length
abbrev pub nest_written_body : List ℕ
nest_written_body = 0 ∷ 0 ∷ 5 ∷ 0 ∷ 7 ∷ 0 ∷ 0 ∷ 0 ∷ 1 ∷ 0 ∷ 1 ∷ 0 ∷ 1 ∷ 1 ∷ 0 ∷ 0 ∷ 0 ∷ 2 ∷ 0 ∷ 104 ∷ 105 ∷ []

-- a message of version 2, with an unlisted number
abbrev pub event_later_body : List ℕ
event_later_body = 4 ∷ 0 ∷ 1 ∷ 0 ∷ 8 ∷ 0 ∷ 2 ∷ 0 ∷ 53 ∷ 7 ∷ 9 ∷ 0 ∷ 1 ∷ 0 ∷ 65 ∷ []

-- a message of version 0
abbrev pub event_earlier_body : List ℕ
event_earlier_body = 2 ∷ 0 ∷ 1 ∷ 0 ∷ 8 ∷ 0 ∷ 0 ∷ 0 ∷ 49 ∷ 7 ∷ []

-- a body that ends inside the sixth entry
abbrev pub big_cut_body : List ℕ
big_cut_body = 0 ∷ 0 ∷ 6 ∷ 0 ∷ 7 ∷ 0 ∷ 0 ∷ 0 ∷ 4 ∷ 0 ∷ 254 ∷ 255 ∷ 0 ∷ 0 ∷ 0 ∷ 0 ∷ 0 ∷ 0 ∷ 0 ∷ 0 ∷ 0 ∷ 0 ∷ 0 ∷ 0 ∷ 0 ∷ 0 ∷ 0 ∷ 0 ∷ 0 ∷ 0 ∷ 0 ∷ 0 ∷ 0 ∷ 0 ∷ []

-- a body whose count is the null of uint16
abbrev pub big_count_body : List ℕ
big_count_body = 0 ∷ 0 ∷ 6 ∷ 0 ∷ 7 ∷ 0 ∷ 0 ∷ 0 ∷ 4 ∷ 0 ∷ 255 ∷ 255 ∷ 0 ∷ 0 ∷ 0 ∷ 0 ∷ 0 ∷ 0 ∷ 0 ∷ 0 ∷ 0 ∷ 0 ∷ 0 ∷ 0 ∷ 0 ∷ 0 ∷ 0 ∷ 0 ∷ 0 ∷ 0 ∷ 0 ∷ 0 ∷ 0 ∷ 0 ∷ []

-- a body of a schema that put a group before the data
abbrev pub misread_body : List ℕ
misread_body = 0 ∷ 0 ∷ 1 ∷ 0 ∷ 9 ∷ 0 ∷ 1 ∷ 0 ∷ 1 ∷ 0 ∷ 1 ∷ 0 ∷ 5 ∷ 0 ∷ 0 ∷ []

-- -123 with the exponent -2, two choices, `AB`, and two numbers
abbrev pub mixed_body : List ℕ
mixed_body = 0 ∷ 14 ∷ 0 ∷ 1 ∷ 0 ∷ 12 ∷ 0 ∷ 0 ∷ 255 ∷ 255 ∷ 255 ∷ 133 ∷ 254 ∷ 5 ∷ 65 ∷ 66 ∷ 0 ∷ 0 ∷ 0 ∷ 1 ∷ 0 ∷ 2 ∷ []

-- the same with the null as the second number
abbrev pub mixed_out_of_range_body : List ℕ
mixed_out_of_range_body = 0 ∷ 14 ∷ 0 ∷ 1 ∷ 0 ∷ 12 ∷ 0 ∷ 0 ∷ 255 ∷ 255 ∷ 255 ∷ 133 ∷ 254 ∷ 5 ∷ 65 ∷ 66 ∷ 0 ∷ 0 ∷ 0 ∷ 1 ∷ 255 ∷ 255 ∷ []

-- the message that `ping_body` is
abbrev pub ping_message : Msg
ping_message = record { template = 0; version = 0; block = flat (value.Num (pos 258) ∷ value.Null ∷ []) }

-- the message that `nul_body` is
abbrev pub nul_message : Msg
nul_message = record { template = 1; version = 0; block = flat (value.Null ∷ []) }

-- the number 127 where it is the null
abbrev pub nul_by_number_message : Msg
nul_by_number_message = record { template = 1; version = 0; block = flat (value.Num (pos 127) ∷ []) }

-- the message that `grp_body` is
abbrev pub grp_message : Msg
grp_message = record { template = 3; version = 0; block = record { fields = []; groups = groupval.Entries (flat (value.Num (pos 5) ∷ []) ∷ []) ∷ []; parts = [] } }

-- the message that `nest_body` is
abbrev pub nest_message : Msg
nest_message = record {
  template = 4;
  version = 0;
  block = record {
    fields = [];
    groups = groupval.Entries (record {
      fields = value.Num (pos 1) ∷ [];
      groups = groupval.Entries [] ∷ [];
      parts = dataval.Bytes (codes "hi") ∷ [];
    } ∷ []) ∷ [];
    parts = [];
  };
}

-- the message that `event_later_body` is at version 0
abbrev pub event_later_message : Msg
event_later_message = record { template = 0; version = 2; block = flat (value.Enum (pos 53) ∷ value.Num (pos 7) ∷ []) }

-- the message that `event_earlier_body` is at version 2
abbrev pub event_earlier_message : Msg
event_earlier_message = record { template = 0; version = 0; block = with_data (value.Enum (pos 49) ∷ value.Num (pos 7) ∷ value.Absent ∷ []) (dataval.Absent ∷ []) }

-- the message that an older reader reads in `misread_body`
abbrev pub misread_message : Msg
misread_message = record { template = 0; version = 1; block = with_data [] (dataval.Bytes (1 ∷ []) ∷ []) }

-- the message that `mixed_body` is
abbrev pub mixed_message : Msg
mixed_message = record {
  template = 0;
  version = 0;
  block = flat (value.Comp (value.Num (negsuc 122) ∷ value.Num (negsuc 1) ∷ []) ∷ value.Set 5 ∷ value.Text (codes "AB")
      ∷ value.Nums (elem.Num (pos 1) ∷ elem.Num (pos 2) ∷ []) ∷ []);
}

-- one byte after the message, at offset 14
abbrev pub ping_trailed_fault : Fault
ping_trailed_fault = record { code = fault.Trailing; path = []; offset = 14; detail = pos 1 }

-- the null at a required field
abbrev pub one_fault : Fault
one_fault = record { code = fault.Range; path = way.Part 0 ∷ []; offset = 8; detail = pos 255 }

-- four bytes are missing for the sixth entry
abbrev pub big_cut_fault : Fault
big_cut_fault = record { code = fault.Truncated; path = way.Part 0 ∷ way.Entry 5 ∷ []; offset = 32; detail = pos 4 }

-- the count is not admitted
abbrev pub big_count_fault : Fault
big_count_fault = record { code = fault.Count; path = way.Part 0 ∷ []; offset = 10; detail = pos 65535 }

-- the second element shows no value
abbrev pub mixed_out_of_range_fault : Fault
mixed_out_of_range_fault = record { code = fault.Range; path = way.Part 3 ∷ way.Elem 1 ∷ []; offset = 20; detail = pos 65535 }

-- the number of the null can't be written at an optional field
abbrev pub nul_by_number_misfit : Misfit
nul_by_number_misfit = record { code = misfit.Range; path = way.Part 0 ∷ []; detail = pos 127 }
