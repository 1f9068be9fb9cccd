-- The data that a tree stands for. From RFC 8259; of several members with the same key the last counts, as `serde_json`
-- reads it.
use Rattle.std.specs.Prelude.{ℕ, List, [], ◌∷◌, map}
use Rattle.std.specs.Borrow.{Bor}
use Rattle.serde_json.specs.Data.{Num, unsigned, negative, float, Data, null, boolean, number, string, array, object, Items, no_items, item, Members, no_members, put}
use Rattle.json_data.specs.declared.number.Number.{Number}
use Rattle.json_data.specs.declared.number.Number.TheVariants.{Natural, Negative, Float}
use Rattle.json_data.specs.declared.data.Json.{Json, fold-Json}
use Rattle.json_data.specs.declared.data.Json.TheOpen.{Json-F}

-- the number that is held
abbrev pub num_of : Number → Num
num_of (Natural n) = unsigned n
num_of (Negative z) = negative z
num_of (Float x) = float x

-- items in order
abbrev pub listed : List Data → Items
listed [] = no_items
listed (d ∷ ds) = item d (listed ds)

-- members, inserted in order after those that were found
abbrev pub put_each : List (Bor (List ℕ) × Data) → Members → Members
put_each [] found = found
put_each (m ∷ ms) found = put_each ms (put m.0.now m.1 found)

-- one level, given the data of each tree inside it
abbrev pub level_of : Json-F Data → Data
level_of Json-F.Null = null
level_of (Json-F.Bool b) = boolean b
level_of (Json-F.Number n) = number (num_of n)
level_of (Json-F.String s) = string s.now
level_of (Json-F.Array v) = array (listed v.now)
level_of (Json-F.Object v) = object (put_each v.now no_members)

-- the data of a tree
abbrev pub data_of : Json → Data
data_of = fold-Json Data level_of

-- the items of an array
abbrev pub items_of : List Json → Items
items_of ds = listed (map data_of ds)

-- the members of an object
abbrev pub members_of : List (Bor (List ℕ) × Json) → Members
members_of ms = put_each (map (λ m. (m.0, data_of m.1)) ms) no_members
