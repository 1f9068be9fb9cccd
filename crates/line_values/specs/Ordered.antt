-- Which unknown key is reported. From RFC 8259; `serde_json` keeps the keys of an object in order.
use Rattle.std.specs.Prelude.{◌≡◌, ◌⊎◌, ℕ, true, List, Some, ⊤}
use Rattle.std.specs.Ordering.{nat_cmp}
use Rattle.std.specs.declared.cmp.Ordering.TheVariants.{Less}
use Rattle.std.specs.Cmp.Lexicographic.{slice_cmp}
use Rattle.serde_json.specs.Data.{Data, null, boolean, number, string, array, object, Items, no_items, item, Members, no_members, member}
use Rattle.serde_json.specs.Read.{read}
use Rattle.line_values.specs.Objects.{is_named, first_unknown}

-- the key is less than the other, by bytes
abbrev pub IsBefore : List ℕ → List ℕ → Type 0
IsBefore key other = slice_cmp nat_cmp key other ≡ Less

-- the key is less than all keys
abbrev pub IsBeforeAll : List ℕ → Members → Type 0
IsBeforeAll key no_members = ⊤
IsBeforeAll key (member other d ms) = IsBefore key other × IsBeforeAll key ms

abbrev mutual
  -- the keys of each object are in order
  pub HasOrder : Data → Type 0
  HasOrder null = ⊤
  HasOrder (boolean b) = ⊤
  HasOrder (number n) = ⊤
  HasOrder (string s) = ⊤
  HasOrder (array items) = ItemsHaveOrder items
  HasOrder (object members) = MembersHaveOrder members

  -- the same for each item
  pub ItemsHaveOrder : Items → Type 0
  ItemsHaveOrder no_items = ⊤
  ItemsHaveOrder (item d items) = HasOrder d × ItemsHaveOrder items

  -- the keys are in order, and so are those in each value
  pub MembersHaveOrder : Members → Type 0
  MembersHaveOrder no_members = ⊤
  MembersHaveOrder (member key d members) = IsBeforeAll key members × HasOrder d × MembersHaveOrder members

-- each key is one of the names, or this key, or greater
abbrev pub IsLeast : List (List ℕ) → List ℕ → Members → Type 0
IsLeast names key no_members = ⊤
IsLeast names key (member other d ms) = ((is_named other names ≡ true) ⊎ ((key ≡ other) ⊎ IsBefore key other)) × IsLeast names key ms

-- The law: the keys of what is read of a text are in order.
abbrev pub ReadHasOrder : Type 0
ReadHasOrder = (text : List ℕ) (d : Data) → read text ≡ Some d → HasOrder d

-- The law: of the unknown keys of an object in order, the least is reported.
abbrev pub LeastIsTold : Type 0
LeastIsTold = (names : List (List ℕ)) (ms : Members) (key : List ℕ) → MembersHaveOrder ms → first_unknown names ms ≡ Some key → IsLeast names key ms
