-- The children of an element; those with unknown names are skipped.
use Rattle.std.specs.Prelude.{ℕ, ◌+◌, List, ◌++◌, Option, None, option_to_list, Ok}
use Rattle.serde_json.specs.Data.{Data, Items, no_items, item}
use Rattle.json_elements.specs.Reading.{Reading, ◌>>=◌, at_child}
use Rattle.json_elements.specs.Elements.{named}

-- what is read of a child, given those before it, its name and its value; None if its name isn't known
abbrev pub Reads : Type 0 → Type 0
Reads A = List A → List ℕ → Data → Reading (Option A)

-- the known children from index i on, after those before; an item that isn't an element is refused
abbrev pub known_children : {A : Type 0} → Reads A → List A → ℕ → Items → Reading (List A)
known_children by before i no_items = Ok before
known_children by before i (item d ds) = at_child i (named (by before) d) >>= (λ found. known_children by (before ++ option_to_list found) (i + 1) ds)

-- for an element without children: every name is skipped
abbrev pub no_child : Reads (Unit {0})
no_child before name d = Ok None
