-- Two lists, compared item by item.
use Rattle.std.specs.Prelude.{ℕ, Bool, true, false, ◌&&◌, ◌||◌, List, [], ◌∷◌}
use Rattle.std.specs.Str.{bytes_eq}
use Rattle.sbe_types.specs.declared.kind.Member.{Member}
use Rattle.sbe_types.specs.Places.{is_const, begin_of, end_past}
use Rattle.version_laws.specs.Differ.{Ends}
use Rattle.version_laws.specs.Same.{same_kind, same_offset, same_place, same_places}

-- the lists have the same length, and the test holds of each pair
abbrev pub all_alike : {X : Type 0} → (X → X → Bool) → List X → List X → Bool
all_alike test [] [] = true
all_alike test [] (y ∷ ys) = false
all_alike test (x ∷ xs) [] = false
all_alike test (x ∷ xs) (y ∷ ys) = test x y && all_alike test xs ys

-- two members are equal
abbrev pub is_member : Bool → Member → Member → Bool
is_member more x y = bytes_eq x.name y.name && same_offset x.offset y.offset && same_kind more x.kind y.kind

-- the ends of the members before, in old and in new
abbrev pub ends_at : ℕ → ℕ → Ends
ends_at e d = record { old = e; new = d }

-- the ends after one more member of each
abbrev pub past_members : Ends → Member → Member → Ends
past_members ends x y = ends_at (end_past ends.old x.offset x.kind) (end_past ends.new y.offset y.kind)

-- the test holds of each pair of members, after members with these ends; `rest`: the result if one list is longer
abbrev pub all_stay : Bool → (Ends → Member → Member → Bool) → Ends → List Member → List Member → Bool
all_stay rest test ends [] [] = true
all_stay rest test ends [] (y ∷ ys) = rest
all_stay rest test ends (x ∷ xs) [] = rest
all_stay rest test ends (x ∷ xs) (y ∷ ys) = test ends x y && all_stay rest test (past_members ends x y) xs ys

-- two members begin at the same offset
abbrev pub member_begins : Ends → Member → Member → Bool
member_begins ends x y = same_place x.kind (begin_of ends.old x.offset) y.kind (begin_of ends.new y.offset)

-- two members begin at the same offset, and so does everything inside them
abbrev pub member_stays : Ends → Member → Member → Bool
member_stays ends x y = member_begins ends x y && (is_const x.kind || is_const y.kind || same_places x.kind y.kind)

-- two members of headers are the same
abbrev pub is_header_member : Ends → Member → Member → Bool
is_header_member ends x y = bytes_eq x.name y.name && member_begins ends x y && same_kind false x.kind y.kind
