-- What a level has for a tag, and the rows that precede those of a plan. Own profile.
use Rattle.std.specs.Prelude.{◌≡◌, ℕ, Bool, true, false, List, [], ◌∷◌, ◌++◌, slice_get, Option, None, Some, ⊤}
use Rattle.sbe_types.specs.declared.kind.Kind.{Kind, Leaf, Enum, Set, Const, Comp'}
use Rattle.sbe_types.specs.declared.kind.Leaf.{Leaf as LeafOf}
use Rattle.structure_rows.specs.declared.row.PlaceRow.{PlaceRow}
use Rattle.bridge_terms.specs.Plans.{Plan, Slot}
use Rattle.field_judge.specs.declared.level.BackLevel.{BackLevel}
use Rattle.field_judge.specs.declared.level.BackRow.{BackRow}
use Rattle.field_judge.specs.Levels.{AreRows, IsSlotRow}
use Rattle.back_levels.specs.declared.found.Found.{Found as FoundRow}
use Rattle.back_levels.specs.declared.found.Found.TheVariants as found

-- what was found is the row of the slot, if there is one; nothing is required of one that can't be made
abbrev pub IsFound : Option Slot → FoundRow → Type 0
IsFound o found.Nothing = o ≡ None
IsFound o (found.Row r) = (s : Slot) × (o ≡ Some s) × IsSlotRow s r
IsFound o found.Unmade = ⊤

-- ---- levels that are added after others

-- each of these levels is at its number among those
abbrev pub AreKept : List BackLevel → List BackLevel → Type 0
AreKept levels more = (i : ℕ) (own : BackLevel) → slice_get levels i ≡ Some own → slice_get more i ≡ Some own

-- the rows of what was found
abbrev pub found_rows : FoundRow → List BackRow
found_rows found.Nothing = []
found_rows (found.Row r) = r ∷ []
found_rows found.Unmade = []

-- what was found could be made
abbrev pub is_made : FoundRow → Bool
is_made found.Nothing = true
is_made (found.Row r) = true
is_made found.Unmade = false

-- with these rows before them, the rows of one plan become the rows of another, whatever levels are added
pub record Goes (levels : List BackLevel) (whole rest : Plan) (rows : List BackRow) : Type 0 where
  pub front : (more : List BackLevel) → AreKept levels more → (others : List BackRow) → AreRows more rest others → AreRows more whole (rows ++ others)

-- the same for what was found, if it can be made
abbrev pub GoesFound : List BackLevel → Plan → Plan → FoundRow → Type 0
GoesFound levels whole rest f = is_made f ≡ true → Goes levels whole rest (found_rows f)

-- the rows are those of a part that is put before a plan, whatever it is
abbrev pub AreFront : List BackLevel → (Plan → Plan) → FoundRow → Type 0
AreFront levels before f = (p : Plan) → GoesFound levels (before p) p f

-- ---- groups

-- the tag of a place that has no entries
abbrev pub plain_by : ℕ → Option ℕ → Option ℕ
plain_by tag None = Some tag
plain_by tag (Some n) = None

-- the tag of a field's place
abbrev pub plain_tag : PlaceRow → Option ℕ
plain_tag place = plain_by place.tag place.entries

-- the type of a number's kind
abbrev pub leaf_in : Kind → Option LeafOf
leaf_in (Leaf l) = Some l
leaf_in (Enum l names) = None
leaf_in (Set p names) = None
leaf_in (Const c) = None
leaf_in (Comp' n members) = None
