-- The empty value of a part that a message lacks. Own profile.
use Rattle.std.specs.Prelude.{if◌then◌else◌, Option, Some, None, Result, Ok, Err, List, [], ◌∷◌, pos, replicate}
use Rattle.sbe_types.specs.declared.kind.Leaf.{Leaf as LeafOf}
use Rattle.sbe_types.specs.declared.kind.LeafShape.{LeafShape}
use Rattle.sbe_types.specs.declared.kind.LeafShape.TheVariants.{Number, RangedText, EncodedText, Octets, Numbers}
use Rattle.sbe_types.specs.declared.kind.Presence.{Presence}
use Rattle.sbe_types.specs.declared.kind.Presence.TheVariants.{Required, Optional, Constant}
use Rattle.sbe_types.specs.declared.kind.Kind.{Kind, Leaf, Enum, Set, Const, Comp', Row_of-Member, end_of-Member, more_of-Member}
use Rattle.sbe_types.specs.declared.schema.Field.{Field}
use Rattle.sbe_types.specs.declared.schema.DataField.{DataField}
use Rattle.sbe_types.specs.declared.message.Elem.TheVariants as elem
use Rattle.sbe_types.specs.declared.message.Value.{Value}
use Rattle.sbe_types.specs.declared.message.Value.TheVariants as value
use Rattle.sbe_types.specs.declared.message.DataVal.{DataVal}
use Rattle.sbe_types.specs.declared.message.DataVal.TheVariants as dataval
use Rattle.sbe_types.specs.declared.path.Step.{Step}
use Rattle.sbe_types.specs.Shown.{admits}

-- The null of a leaf: null for a number or a text, all elements null for an array of integers; octets have none.
abbrev pub null_of : LeafOf → LeafShape → Option Value
null_of leaf Number = Some value.Null
null_of leaf RangedText = Some value.Null
null_of leaf EncodedText = Some value.Null
null_of leaf Octets = None
null_of leaf Numbers = Some (value.Nums (replicate leaf.length elem.Null))

-- the value, only if the presence is optional
abbrev pub if_optional : Presence → Option Value → Option Value
if_optional Required v = None
if_optional Optional v = v
if_optional Constant v = None

-- one more value in front, if there is one
abbrev pub with_value : Option Value → Option (List Value) → Option (List Value)
with_value None vs = None
with_value (Some v) None = None
with_value (Some v) (Some vs) = Some (v ∷ vs)

-- the composite with these values of its members
abbrev pub composite_of : Option (List Value) → Option Value
composite_of None = None
composite_of (Some vs) = Some (value.Comp vs)

unfoldable mutual
  -- The empty value of a kind, if it has one.
  pub fill : Kind → Option Value
  fill (Leaf leaf) = if_optional leaf.presence (null_of leaf leaf.shape)
  fill (Enum leaf names) = if_optional leaf.presence (Some value.Null)
  fill (Set prim names) = Some (value.Set 0)
  fill (Const c) = Some value.Const
  fill (Comp' n members) = composite_of (fill_members members)

  -- the empty values of a composite's members, if each has one
  pub fill_members : {n : _} → Row_of-Member n → Option (List Value)
  fill_members end_of-Member = Some []
  fill_members (more_of-Member name offset kind rest) = with_value (fill kind) (fill_members rest)

-- What is written of parts, or the path of the first part that is absent and has no fill.
abbrev pub Fills : Type 0 → Type 0
Fills X = Result X (List Step)

-- a fill, or that this part has none
abbrev pub fill_or_lack : {V : Type 0} → Option V → Fills V
fill_or_lack None = Err []
fill_or_lack (Some v) = Ok v

-- the value of a field, or its fill if it is absent
abbrev pub field_or_fill : Field → Value → Fills Value
field_or_fill f value.Absent = fill_or_lack (fill f.kind)
field_or_fill f v = Ok v

-- the bytes of a data part; empty if it is absent and may be empty
abbrev pub part_or_fill : DataField → DataVal → Fills DataVal
part_or_fill p dataval.Absent = fill_or_lack (if admits p.length (pos 0) then Some (dataval.Bytes []) else None)
part_or_fill p (dataval.Bytes bytes) = Ok (dataval.Bytes bytes)
