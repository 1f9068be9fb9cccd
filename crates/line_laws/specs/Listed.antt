-- Members by a list of names, some of which are left out: what was listed is found. From RFC 8259, Objects.
use Rattle.std.specs.Prelude.{◌≡◌, ◌≢◌, ℕ, List, [], ◌∷◌, None, IsTrue, ⊤}
use Rattle.std.specs.Option.{option_map}
use Rattle.serde_json.specs.Data.{Members, no_members}
use Rattle.serde_json.specs.Find.{get_member}
use Rattle.json_values.specs.Values.{Entry, listed}
use Rattle.line_values.specs.Objects.{is_named, first_unknown}
use Rattle.line_laws.specs.AsRead.{as_read, put_all}

-- no entry has the name
abbrev pub IsNew : List ℕ → List Entry → Type 0
IsNew name [] = ⊤
IsNew name (e ∷ es) = (name ≢ e.0) × IsNew name es

-- no two entries have the same name
abbrev pub AreDistinct : List Entry → Type 0
AreDistinct [] = ⊤
AreDistinct (e ∷ es) = IsNew e.0 es × AreDistinct es

-- each name has its value among the members
abbrev pub Finds : List Entry → Members → Type 0
Finds [] ms = ⊤
Finds (e ∷ es) ms = (get_member e.0 ms ≡ option_map as_read e.1) × Finds es ms

-- The law: what was listed is found by its name.
abbrev pub ListedIsFound : Type 0
ListedIsFound = (es : List Entry) → AreDistinct es → Finds es (put_all (listed es) no_members)

-- each entry's name is one of the names
abbrev pub AreKnown : List (List ℕ) → List Entry → Type 0
AreKnown names [] = ⊤
AreKnown names (e ∷ es) = IsTrue (is_named e.0 names) × AreKnown names es

-- The law: if each listed name is known, no key is unknown.
abbrev pub ListedIsKnown : Type 0
ListedIsKnown = (names : List (List ℕ)) (es : List Entry) → AreKnown names es → first_unknown names (put_all (listed es) no_members) ≡ None
