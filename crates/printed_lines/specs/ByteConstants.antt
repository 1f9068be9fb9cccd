-- The constants of a schema whose texts consist of bytes, as the code's types ensure; and the texts of a message in
-- bytes.
use Rattle.std.specs.Prelude.{◌≡◌, ℕ, List, ⊤, Some, slice_get}
use Rattle.std.specs.List.{AllByRecursion}
use Rattle.byte_digits.specs.Digits.{IsBytes}
use Rattle.sbe_types.specs.declared.kind.Kind.{Kind, Leaf, Enum, Set, Const, Comp', Row_of-Member, end_of-Member, more_of-Member}
use Rattle.sbe_types.specs.declared.kind.Member.{Member}
use Rattle.sbe_types.specs.declared.schema.Field.{Field}
use Rattle.sbe_types.specs.declared.schema.Group.{Group, Group'}
use Rattle.sbe_types.specs.declared.schema.Level.{Level, Level', Row_of-Group, end_of-Group, more_of-Group}
use Rattle.sbe_types.specs.declared.schema.WireSchema.{WireSchema}
use Rattle.sbe_types.specs.declared.message.Msg.{Msg}
use Rattle.sbe_wire.specs.Lays.{Lays}
use Rattle.line_laws.specs.ValuesBack.{ConstantHasBytes}
use Rattle.line_laws.specs.LinesBack.{BlockHasBytes}

abbrev mutual
  -- the texts of a kind's constants consist of bytes
  pub HasByteConstants : Kind → Type 0
  HasByteConstants (Leaf l) = ⊤
  HasByteConstants (Enum l names) = ⊤
  HasByteConstants (Set p names) = ⊤
  HasByteConstants (Const c) = ConstantHasBytes c
  HasByteConstants (Comp' n members) = HaveByteConstants members

  -- the same for members
  pub HaveByteConstants : {n : _} → Row_of-Member n → Type 0
  HaveByteConstants end_of-Member = ⊤
  HaveByteConstants (more_of-Member name offset kind rest) = HasByteConstants kind × HaveByteConstants rest

-- the same for a member
abbrev pub IsByteMember : Member → Type 0
IsByteMember m = HasByteConstants m.kind

-- the same for a field
abbrev pub IsByteField : Field → Type 0
IsByteField f = HasByteConstants f.kind

abbrev mutual
  -- the same for a level, at all depths
  pub IsByteLevel : Level → Type 0
  IsByteLevel (Level' name id semantic since block_length fields n groups parts) = AllByRecursion IsByteField fields × AreByteGroups groups

  -- the same for groups
  pub AreByteGroups : {n : _} → Row_of-Group n → Type 0
  AreByteGroups end_of-Group = ⊤
  AreByteGroups (more_of-Group g rest) = IsByteGroup g × AreByteGroups rest

  -- the same for a group
  pub IsByteGroup : Group → Type 0
  IsByteGroup (Group' dim level) = IsByteLevel level

-- The law: if a level's constants consist of bytes, so do the texts and the data of a message of this template that
-- lies in bytes.
abbrev pub LiesInBytes : Type 0
LiesInBytes =
    (schema : WireSchema) (m : Msg) (body : List ℕ) (level : Level) → slice_get schema.messages m.template ≡ Some level → IsByteLevel level
    → IsBytes body → Lays schema m body → BlockHasBytes level m.block
