-- How numbers are read from bytes at a fixed place. From SBE 1.0, Field encoding.
use Rattle.std.specs.Prelude.{◌≡◌, ◌&&◌, not, ℕ, Bool, true, false, if◌then◌else◌, List, length, ⊤, ℤ, Option, Some, None}
use Rattle.std.specs.Ordering.{int_eq}
use Rattle.sbe_types.specs.declared.kind.Leaf.{Leaf as LeafOf}
use Rattle.sbe_types.specs.declared.kind.Order.TheVariants.{Little}
use Rattle.sbe_types.specs.declared.kind.Primitive.{Primitive}
use Rattle.sbe_types.specs.declared.kind.Primitive.TheVariants.{Char, I8, I16, I32, I64, U8, U16, U32, U64}
use Rattle.sbe_types.specs.Numbers.{number_of, prim_width}
use Rattle.sbe_types.specs.Shown.{is_octets, is_optional}
use Rattle.bridge_table.specs.declared.rule.EnumRule.{EnumRule}
use Rattle.bridge_table.specs.declared.rule.EnumRule.TheVariants as listed
use Rattle.bridge_table.specs.declared.rule.FieldRule.{FieldRule}
use Rattle.bridge_table.specs.declared.rule.FieldRule.TheVariants as rule
use Rattle.value_texts.specs.declared.face.NumberFace.{NumberFace}
use Rattle.value_texts.specs.declared.face.Found.{Found}
use Rattle.value_texts.specs.declared.face.Found.TheVariants as found

-- a face reads numbers of the primitive
abbrev pub is_read : Primitive → Bool
is_read Char = true
is_read I8 = true
is_read I16 = true
is_read I32 = true
is_read I64 = true
is_read U8 = true
is_read U16 = true
is_read U32 = true
is_read U64 = false

-- the number that bytes show by a face, unless it is null
abbrev pub number_by : NumberFace → List ℕ → Option ℤ
number_by q bytes = if q.optional && int_eq (number_of Little q.prim bytes) q.null then None else Some (number_of Little q.prim bytes)

-- a number, or that it is null
abbrev pub found_by : NumberFace → ℤ → Found
found_by q n = if q.optional && int_eq n q.null then found.Null else found.Number n

-- the face reads numbers, of as many bytes
pub record IsRead (q : NumberFace) (bytes : List ℕ) : Type 0 where
  pub read : is_read q.prim ≡ true
  pub wide : length bytes ≡ prim_width q.prim

-- what was found is what the bytes show
abbrev pub IsFound : Found → NumberFace → List ℕ → Type 0
IsFound (found.Number n) q bytes = IsRead q bytes × (number_by q bytes ≡ Some n)
IsFound found.Null q bytes = IsRead q bytes × (number_by q bytes ≡ None)
IsFound found.Unknown q bytes = ⊤

-- the face is that of a leaf
pub record IsFaceOf (q : NumberFace) (leaf : LeafOf) : Type 0 where
  pub prim : q.prim ≡ leaf.prim
  pub optional : q.optional ≡ (is_optional leaf.presence && not (is_octets leaf.shape))
  pub null : q.null ≡ leaf.null

-- the face is that of a leaf, if it reads any number
abbrev pub IsFaceFor : NumberFace → LeafOf → Type 0
IsFaceFor q leaf = is_read q.prim ≡ true → IsFaceOf q leaf

-- the leaf of an enum
abbrev pub enum_leaf : EnumRule → LeafOf
enum_leaf (listed.Code leaf codes) = leaf
enum_leaf (listed.Number leaf codes) = leaf
enum_leaf (listed.Boolean leaf names) = leaf

-- the face is that of the numbers of a rule's values, if they are numbers or decimals with a constant exponent
abbrev pub IsRuleFace : NumberFace → FieldRule → Type 0
IsRuleFace q (rule.Integer leaf) = IsFaceFor q leaf
IsRuleFace q (rule.IntegerDecimal leaf) = IsFaceFor q leaf
IsRuleFace q (rule.FixedDecimal leaf exponent) = IsFaceFor q leaf
IsRuleFace q (rule.SingleChar leaf) = IsFaceFor q leaf
IsRuleFace q (rule.Enum own) = IsFaceFor q (enum_leaf own)
IsRuleFace q (rule.FloatingDecimal mantissa exponent) = ⊤
IsRuleFace q (rule.CharArray leaf) = ⊤
IsRuleFace q (rule.ChoiceSet codes) = ⊤
IsRuleFace q (rule.RawData leaf) = ⊤
IsRuleFace q (rule.TextData leaf) = ⊤
IsRuleFace q (rule.DayCount leaf) = ⊤
IsRuleFace q (rule.Moment from leaf unit) = ⊤
IsRuleFace q (rule.MonthYear leaves) = ⊤
IsRuleFace q (rule.Const own) = ⊤
