-- Types that are the same: all their fields are equal.
use Rattle.std.specs.Prelude.{ℕ, Bool, true, false, not, ◌&&◌, ◌||◌, ◌==◌, if◌then◌else◌, Option, Some, None, List, [], ◌∷◌}
use Rattle.std.specs.List.{list_any, list_all}
use Rattle.std.specs.Ordering.{int_eq}
use Rattle.std.specs.Str.{bytes_eq}
use Rattle.sbe_types.specs.declared.kind.Primitive.{Primitive}
use Rattle.sbe_types.specs.declared.kind.Primitive.TheVariants.{Char, I8, I16, I32, I64, U8, U16, U32, U64}
use Rattle.sbe_types.specs.declared.kind.Presence.{Presence}
use Rattle.sbe_types.specs.declared.kind.Presence.TheVariants.{Required, Optional, Constant}
use Rattle.sbe_types.specs.declared.kind.LeafShape.{LeafShape}
use Rattle.sbe_types.specs.declared.kind.LeafShape.TheVariants.{Number, RangedText, EncodedText, Octets, Numbers}
use Rattle.sbe_types.specs.declared.kind.Leaf.{Leaf as LeafOf}
use Rattle.sbe_types.specs.declared.kind.Named.{Named}
use Rattle.sbe_types.specs.declared.kind.ConstValue.{ConstValue}
use Rattle.sbe_types.specs.declared.kind.ConstValue.TheVariants as constant
use Rattle.sbe_types.specs.declared.kind.Kind.{Kind, Leaf, Enum, Set, Const, Comp', Row_of-Member, end_of-Member, more_of-Member}
use Rattle.sbe_types.specs.declared.kind.Member.{Member}
use Rattle.sbe_types.specs.Places.{is_const, begin_of, end_past}
use Rattle.sbe_types.specs.Numbers.{prim_width, is_signed}

-- the primitive of characters
abbrev pub is_char : Primitive → Bool
is_char Char = true
is_char I8 = false
is_char I16 = false
is_char I32 = false
is_char I64 = false
is_char U8 = false
is_char U16 = false
is_char U32 = false
is_char U64 = false

-- two tests have the same outcome
abbrev pub same_bool : Bool → Bool → Bool
same_bool true b = b
same_bool false b = not b

-- primitives are the same if they have the same width and sign, and both or neither is a character
abbrev pub same_prim : Primitive → Primitive → Bool
same_prim p q = (prim_width p == prim_width q) && same_bool (is_signed p) (is_signed q) && same_bool (is_char p) (is_char q)

-- a different number for each presence
abbrev pub presence_number : Presence → ℕ
presence_number Required = 0
presence_number Optional = 1
presence_number Constant = 2

-- a different number for each shape
abbrev pub shape_number : LeafShape → ℕ
shape_number Number = 0
shape_number RangedText = 1
shape_number EncodedText = 2
shape_number Octets = 3
shape_number Numbers = 4

-- leaves with the same primitive, length, shape and presence
abbrev pub same_form : LeafOf → LeafOf → Bool
same_form a b =
    same_prim a.prim b.prim && (a.length == b.length) && (shape_number a.shape == shape_number b.shape)
    && (presence_number a.presence == presence_number b.presence)

-- leaves with the same null and range
abbrev pub same_range : LeafOf → LeafOf → Bool
same_range a b = int_eq a.null b.null && int_eq a.low b.low && int_eq a.high b.high

-- leaves whose fields are all equal
abbrev pub same_leaf : LeafOf → LeafOf → Bool
same_leaf a b = same_form a b && same_range a b

-- the same name and the same number
abbrev pub same_named : Named → Named → Bool
same_named a b = bytes_eq a.name b.name && int_eq a.number b.number

-- the same names and numbers in the same order
abbrev pub same_names : List Named → List Named → Bool
same_names [] [] = true
same_names [] (y ∷ ys) = false
same_names (x ∷ xs) [] = false
same_names (x ∷ xs) (y ∷ ys) = same_named x y && same_names xs ys

-- new lists what old lists; if it may list more, in any order
abbrev pub lists_too : Bool → List Named → List Named → Bool
lists_too more old new = if more then list_all (λ x. list_any (same_named x) new) old else same_names old new

-- constants of the same form and value
abbrev pub same_constant : ConstValue → ConstValue → Bool
same_constant (constant.Num m) (constant.Num n) = int_eq m n
same_constant (constant.Num m) (constant.Text t) = false
same_constant (constant.Num m) (constant.Code q y) = false
same_constant (constant.Text s) (constant.Num n) = false
same_constant (constant.Text s) (constant.Text t) = bytes_eq s t
same_constant (constant.Text s) (constant.Code q y) = false
same_constant (constant.Code p x) (constant.Num n) = false
same_constant (constant.Code p x) (constant.Text t) = false
same_constant (constant.Code p x) (constant.Code q y) = same_prim p q && same_named x y

-- both are given and equal, or neither is given
abbrev pub same_offset : Option ℕ → Option ℕ → Bool
same_offset None None = true
same_offset None (Some n) = false
same_offset (Some m) None = false
same_offset (Some m) (Some n) = m == n

abbrev mutual
  -- all fields are equal; `more`: enums and sets of new may list more
  pub same_kind : Bool → Kind → Kind → Bool
  same_kind more (Leaf a) (Leaf b) = same_leaf a b
  same_kind more (Leaf a) (Enum b ys) = false
  same_kind more (Leaf a) (Set q ys) = false
  same_kind more (Leaf a) (Const d) = false
  same_kind more (Leaf a) (Comp' k new) = false
  same_kind more (Enum a xs) (Leaf b) = false
  same_kind more (Enum a xs) (Enum b ys) = same_leaf a b && lists_too more xs ys
  same_kind more (Enum a xs) (Set q ys) = false
  same_kind more (Enum a xs) (Const d) = false
  same_kind more (Enum a xs) (Comp' k new) = false
  same_kind more (Set p xs) (Leaf b) = false
  same_kind more (Set p xs) (Enum b ys) = false
  same_kind more (Set p xs) (Set q ys) = same_prim p q && lists_too more xs ys
  same_kind more (Set p xs) (Const d) = false
  same_kind more (Set p xs) (Comp' k new) = false
  same_kind more (Const c) (Leaf b) = false
  same_kind more (Const c) (Enum b ys) = false
  same_kind more (Const c) (Set q ys) = false
  same_kind more (Const c) (Const d) = same_constant c d
  same_kind more (Const c) (Comp' k new) = false
  same_kind more (Comp' n old) (Leaf b) = false
  same_kind more (Comp' n old) (Enum b ys) = false
  same_kind more (Comp' n old) (Set q ys) = false
  same_kind more (Comp' n old) (Const d) = false
  same_kind more (Comp' n old) (Comp' k new) = same_row more old new

  -- the same for members in order
  pub same_row : Bool → {n : _} → Row_of-Member n → {k : _} → Row_of-Member k → Bool
  same_row more end_of-Member end_of-Member = true
  same_row more end_of-Member (more_of-Member name offset kind rest) = false
  same_row more (more_of-Member name offset kind rest) end_of-Member = false
  same_row more (more_of-Member name offset kind rest) (more_of-Member name' offset' kind' rest') =
      bytes_eq name name' && same_offset offset offset' && same_kind more kind kind' && same_row more rest rest'

-- lists of members, as in dimensions and headers
abbrev pub same_members : List Member → List Member → Bool
same_members [] [] = true
same_members [] (y ∷ ys) = false
same_members (x ∷ xs) [] = false
same_members (x ∷ xs) (y ∷ ys) = bytes_eq x.name y.name && same_offset x.offset y.offset && same_kind false x.kind y.kind && same_members xs ys

-- two parts that begin at p and q have the same offset; a constant has none
abbrev pub same_place : Kind → ℕ → Kind → ℕ → Bool
same_place kind p kind' q = is_const kind || is_const kind' || (p == q)

abbrev mutual
  -- members with the same index have the same offset
  pub same_places : Kind → Kind → Bool
  same_places (Leaf a) kind = true
  same_places (Enum a xs) kind = true
  same_places (Set p xs) kind = true
  same_places (Const c) kind = true
  same_places (Comp' n old) (Leaf b) = true
  same_places (Comp' n old) (Enum b ys) = true
  same_places (Comp' n old) (Set q ys) = true
  same_places (Comp' n old) (Const d) = true
  same_places (Comp' n old) (Comp' k new) = same_row_places 0 old 0 new

  -- the same for members in order, after members that end at e and d
  pub same_row_places : ℕ → {n : _} → Row_of-Member n → ℕ → {k : _} → Row_of-Member k → Bool
  same_row_places e end_of-Member d new = true
  same_row_places e (more_of-Member name offset kind rest) d end_of-Member = true
  same_row_places e (more_of-Member name offset kind rest) d (more_of-Member name' offset' kind' rest') =
      same_place kind (begin_of e offset) kind' (begin_of d offset') && (is_const kind || is_const kind' || same_places kind kind')
      && same_row_places (end_past e offset kind) rest (end_past d offset' kind') rest'

-- the members of two headers have the same names, offsets and types
abbrev pub same_header : ℕ → List Member → ℕ → List Member → Bool
same_header e [] d [] = true
same_header e [] d (y ∷ ys) = false
same_header e (x ∷ xs) d [] = false
same_header e (x ∷ xs) d (y ∷ ys) =
    bytes_eq x.name y.name && same_place x.kind (begin_of e x.offset) y.kind (begin_of d y.offset) && same_kind false x.kind y.kind
    && same_header (end_past e x.offset x.kind) xs (end_past d y.offset y.kind) ys
