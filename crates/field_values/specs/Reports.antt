-- What is reported of the value of a field. From SBE 1.0, Field encoding; that a set is never null is own profile.
use Rattle.std.specs.Prelude.{◌<◌, ℕ, Bool, not, ◌&&◌, ◌==◌, if◌then◌else◌, Option, Some, None, List, [], length, take_while, ℤ, pos}
use Rattle.std.specs.Option.{IsSome}
use Rattle.sbe_types.specs.declared.kind.Kind.{Kind, Leaf as LeafKind, Enum, Set, Const, Comp'}
use Rattle.sbe_types.specs.declared.kind.Leaf.{Leaf}
use Rattle.sbe_types.specs.declared.kind.Order.{Order}
use Rattle.sbe_types.specs.declared.kind.Primitive.{Primitive}
use Rattle.sbe_types.specs.declared.message.Elem.{Elem}
use Rattle.sbe_types.specs.declared.message.Elem.TheVariants as elem
use Rattle.sbe_types.specs.declared.message.Value.{Value}
use Rattle.sbe_types.specs.declared.message.Value as value
use Rattle.sbe_types.specs.Shown.{is_null, is_optional}
use Rattle.sbe_types.specs.Shows.{Shows, is_empty}
use Rattle.field_values.specs.declared.state.FieldState.{FieldState}
use Rattle.field_values.specs.declared.state.FieldState.TheVariants as state

-- ---- what a value is

-- whether a value is there
abbrev pub state_of : Value → FieldState
state_of value.Absent = state.Absent
state_of value.Const = state.Const
state_of value.Null = state.Null
state_of (value.Num n) = state.Here
state_of (value.Text text) = state.Here
state_of (value.Nums elements) = state.Here
state_of (value.Enum n) = state.Here
state_of (value.Set bits) = state.Here
state_of (value.Comp' n values) = state.Here

-- the number of a single number, an enum or a set
abbrev pub number_in : Value → Option ℤ
number_in (value.Num n) = Some n
number_in (value.Enum n) = Some n
number_in (value.Set bits) = Some (pos bits)
number_in value.Absent = None
number_in value.Const = None
number_in value.Null = None
number_in (value.Text text) = None
number_in (value.Nums elements) = None
number_in (value.Comp' n values) = None

-- the bytes of a text
abbrev pub text_in : Value → Option (List ℕ)
text_in (value.Text text) = Some text
text_in (value.Num n) = None
text_in (value.Enum n) = None
text_in (value.Set bits) = None
text_in value.Absent = None
text_in value.Const = None
text_in value.Null = None
text_in (value.Nums elements) = None
text_in (value.Comp' n values) = None

-- the elements of an array
abbrev pub elements_in : Value → List Elem
elements_in (value.Nums elements) = elements
elements_in (value.Num n) = []
elements_in (value.Text text) = []
elements_in (value.Enum n) = []
elements_in (value.Set bits) = []
elements_in value.Absent = []
elements_in value.Const = []
elements_in value.Null = []
elements_in (value.Comp' n values) = []

-- the elements of an array; none if there is no value
abbrev pub all_elements : Option Value → List Elem
all_elements (Some v) = elements_in v
all_elements None = []

-- an element that is a number, or null
abbrev pub element_of : Option ℤ → Elem
element_of (Some n) = elem.Num n
element_of None = elem.Null

-- ---- fields of which something is reported

-- the primitive of a kind that may be one number
abbrev pub prim_in : Kind → Option Primitive
prim_in (LeafKind l) = Some l.prim
prim_in (Enum l names) = Some l.prim
prim_in (Set p names) = Some p
prim_in (Const c) = None
prim_in (Comp' n members) = None

-- the leaf of a kind, if it is one
abbrev pub leaf_in : Kind → Option Leaf
leaf_in (LeafKind l) = Some l
leaf_in (Enum l names) = None
leaf_in (Set p names) = None
leaf_in (Const c) = None
leaf_in (Comp' n members) = None

-- the bytes show a number
abbrev pub HasNumber : Order → Kind → List ℕ → Type 0
HasNumber order kind bytes = (known : Bool) × (v : Value) × Shows order known kind v bytes × IsSome (number_in v)

-- the bytes show an array that has an element j
abbrev pub HasElement : Order → Kind → List ℕ → ℕ → Type 0
HasElement order kind bytes j = (known : Bool) × (v : Value) × Shows order known kind v bytes × (j < length (elements_in v))

-- ---- what bytes give

-- null or here, by the number
abbrev pub number_state : Leaf → ℤ → FieldState
number_state leaf n = if is_null leaf n then state.Null else state.Here

-- the bytes before the first 00
abbrev pub before_zero : List ℕ → List ℕ
before_zero bytes = take_while (λ b. not (b == 0)) bytes

-- null or here: an empty text of an optional leaf is null
abbrev pub text_state : Leaf → List ℕ → FieldState
text_state leaf bytes = if is_optional leaf.presence && is_empty (before_zero bytes) then state.Null else state.Here

-- a number of an array; None if it is null
abbrev pub seen_element : Leaf → ℤ → Option ℤ
seen_element leaf n = if is_null leaf n then None else Some n
