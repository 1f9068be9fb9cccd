-- What the bytes of a kind show, as JSON data. The values are those of the definitions; which JSON stands for which
-- value is own profile.
use Rattle.std.specs.Prelude.{ℕ, zero, suc, ◌&&◌, Bool, if◌then◌else◌, List, ℤ, take, drop}
use Rattle.serde_json.specs.Data.{Data, null, Items, no_items, item}
use Rattle.sbe_types.specs.declared.kind.Kind.{Kind}
use Rattle.sbe_types.specs.declared.kind.Leaf.{Leaf}
use Rattle.sbe_types.specs.declared.kind.Named.{Named}
use Rattle.sbe_types.specs.declared.kind.Order.{Order}
use Rattle.sbe_types.specs.declared.message.Value.{Value}
use Rattle.sbe_types.specs.Numbers.{number_of, prim_width}
use Rattle.sbe_types.specs.Shown.{is_null, is_optional}
use Rattle.sbe_types.specs.Shows.{Shows, is_empty}
use Rattle.field_values.specs.Reports.{before_zero}
use Rattle.json_values.specs.Values.{is_character, number_data, single_data, enum_data, text_data, value_data}
use Rattle.json_values.specs.Plain.{shown_text}

-- a single number, or null
abbrev pub single_shown : Leaf → ℤ → Data
single_shown leaf n = if is_null leaf n then null else single_data (is_character leaf.prim) n

-- the number of an enum, or null
abbrev pub enum_shown : Leaf → List Named → ℤ → Data
enum_shown leaf names n = if is_null leaf n then null else enum_data names n

-- a text, or null if it is empty and the leaf is optional
abbrev pub text_shown : Leaf → List ℕ → Data
text_shown leaf bytes = if is_optional leaf.presence && is_empty (before_zero bytes) then null else text_data (before_zero bytes)

-- an element of an array, or null
abbrev pub element_shown : Leaf → ℤ → Data
element_shown leaf n = if is_null leaf n then null else number_data n

-- n elements of an array
abbrev pub elements_shown : Order → Leaf → ℕ → List ℕ → Items
elements_shown order leaf zero bytes = no_items
elements_shown order leaf (suc n) bytes =
    item (element_shown leaf (number_of order leaf.prim (take (prim_width leaf.prim) bytes))) (elements_shown order leaf n (drop (prim_width leaf.prim) bytes))

-- whichever value of a kind the bytes show, its text was printed
pub record PrintsShown (order : Order) (kind : Kind) (bytes : List ℕ) (prints : List ℕ → Type 0) : Type 0 where
  pub text : (known : Bool) (v : Value) → Shows order known kind v bytes → prints (shown_text (value_data kind v))
