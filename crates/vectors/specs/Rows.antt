-- Messages and bodies on which the definitions are computed. Own profile.
use Rattle.std.specs.Prelude.{ℕ, Option, Some, List, [], ◌∷◌, pos}
use Rattle.sbe_types.specs.declared.message.Value.{Value}
use Rattle.sbe_types.specs.declared.message.Value.TheVariants as value
use Rattle.sbe_types.specs.declared.message.Block.{Block}
use Rattle.sbe_types.specs.declared.message.GroupVal.{GroupVal}
use Rattle.sbe_types.specs.declared.message.GroupVal.TheVariants as groupval
use Rattle.sbe_types.specs.declared.message.Msg.{Msg}

-- a block of fields without groups and data
abbrev pub fields_alone : List Value → Block
fields_alone values = record { fields = values; groups = []; parts = [] }

-- a block of groups alone
abbrev pub groups_alone : List GroupVal → Block
groups_alone groups = record { fields = []; groups = groups; parts = [] }

-- a message at version 0
abbrev pub message : ℕ → Block → Option Msg
message template block = Some (record { template = template; version = 0; block = block })

-- two numbers, by seed 1
abbrev pub ping_by_one : Option Msg
ping_by_one = message 0 (fields_alone (value.Num (pos 16269) ∷ value.Num (pos 1256146770) ∷ []))

-- an optional number that is null, by seed 1
abbrev pub nul_by_one : Option Msg
nul_by_one = message 1 (fields_alone (value.Null ∷ []))

-- a group of two entries, by seed 2
abbrev pub grp_by_two : Option Msg
grp_by_two =
    message 3 (groups_alone (groupval.Entries (fields_alone (value.Num (pos 117) ∷ []) ∷ fields_alone (value.Num (pos 31) ∷ []) ∷ []) ∷ []))

-- a group without entries, by the largest seed: the sum of seed and index wraps around to 0
abbrev pub big_by_last : Option Msg
big_by_last = message 5 (groups_alone (groupval.Entries [] ∷ []))
