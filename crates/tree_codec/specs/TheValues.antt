-- The value that bytes show. From SBE 1.0, Field encoding.
use Rattle.std.specs.Prelude.{◌≡◌, ℕ, zero, suc, Bool, if◌then◌else◌, List, [], ◌∷◌, ℤ, take, drop}
use Rattle.sbe_types.specs.declared.kind.Kind.{Kind}
use Rattle.sbe_types.specs.declared.kind.Leaf.{Leaf}
use Rattle.sbe_types.specs.declared.kind.Order.{Order}
use Rattle.sbe_types.specs.declared.message.Elem.{Elem}
use Rattle.sbe_types.specs.declared.message.Elem.TheVariants as elem
use Rattle.sbe_types.specs.declared.message.Value.{Value}
use Rattle.sbe_types.specs.declared.message.Value.TheVariants as value
use Rattle.sbe_types.specs.Numbers.{number_of, prim_width}
use Rattle.sbe_types.specs.Shown.{is_null}
use Rattle.sbe_types.specs.Shows.{Shows, ShowsLeaf}

-- a single number, or null
abbrev pub number_value : Leaf → ℤ → Value
number_value leaf n = if is_null leaf n then value.Null else value.Num n

-- the number of an enum, or null
abbrev pub enum_value : Leaf → ℤ → Value
enum_value leaf n = if is_null leaf n then value.Null else value.Enum n

-- an element of an array: a number, or null
abbrev pub element_value : Leaf → ℤ → Elem
element_value leaf n = if is_null leaf n then elem.Null else elem.Num n

-- n elements of an array
abbrev pub elements_from : Order → Leaf → ℕ → List ℕ → List Elem
elements_from order leaf zero bytes = []
elements_from order leaf (suc n) bytes =
    element_value leaf (number_of order leaf.prim (take (prim_width leaf.prim) bytes)) ∷ elements_from order leaf n (drop (prim_width leaf.prim) bytes)

-- whichever value of a leaf the bytes show, it is this one
pub record IsLeafValue (order : Order) (leaf : Leaf) (bytes : List ℕ) (it : Value) : Type 0 where
  pub same : (v : Value) → ShowsLeaf order leaf.shape leaf v bytes → it ≡ v

-- whichever value of a kind the bytes show, it is this one
pub record IsTheValue (order : Order) (kind : Kind) (bytes : List ℕ) (it : Value) : Type 0 where
  pub same : (known : Bool) (v : Value) → Shows order known kind v bytes → it ≡ v
