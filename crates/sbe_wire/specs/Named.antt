-- The members of headers and dimensions, found by name. A checked schema has each of them, as an unsigned number; in
-- any other a missing member counts as 0 and admits nothing. From SBE 1.0, Message structure and Repeating group
-- encoding.
use Rattle.std.specs.Prelude.{ℕ, Bool, false, if◌then◌else◌, Option, Some, None, List, [], ◌∷◌, take, drop, pos}
use Rattle.std.specs.Option.{option_map_or}
use Rattle.std.specs.Str.{bytes_eq}
use Rattle.sbe_types.specs.declared.kind.Order.{Order}
use Rattle.sbe_types.specs.declared.kind.Leaf.{Leaf as LeafOf}
use Rattle.sbe_types.specs.declared.kind.Kind.{Kind, Leaf, Enum, Set, Const, Comp'}
use Rattle.sbe_types.specs.declared.kind.Member.{Member}
use Rattle.sbe_types.specs.Numbers.{number_of, natural, prim_width}
use Rattle.sbe_types.specs.Places.{begin_of, end_past}
use Rattle.sbe_types.specs.Shown.{admits}

-- the offset of a number in its composite, and its type
pub record Spot : Type 0 where
  pub place : ℕ
  pub leaf : LeafOf

-- the spot of a part of this kind; only a number has one
abbrev pub spot_of : ℕ → Kind → Option Spot
spot_of place (Leaf l) = Some (record { place = place; leaf = l })
spot_of place (Enum l names) = None
spot_of place (Set p names) = None
spot_of place (Const c) = None
spot_of place (Comp' n members) = None

-- the member of this name among members after members that end at e
abbrev pub spot_named : ℕ → List ℕ → List Member → Option Spot
spot_named e name [] = None
spot_named e name (m ∷ ms) = if bytes_eq m.name name then spot_of (begin_of e m.offset) m.kind else spot_named (end_past e m.offset m.kind) name ms

-- the number of that member in the composite's bytes
abbrev pub number_named : Order → List Member → List ℕ → List ℕ → ℕ
number_named order members name bytes =
    option_map_or (λ s. natural (number_of order s.leaf.prim (take (prim_width s.leaf.prim) (drop s.place bytes)))) (spot_named 0 name members) 0

-- the offset of that member
abbrev pub place_named : List Member → List ℕ → ℕ
place_named members name = option_map_or (λ s. s.place) (spot_named 0 name members) 0

-- the number is within that member's range
abbrev pub is_admitted : List Member → List ℕ → ℕ → Bool
is_admitted members name n = option_map_or (λ s. admits s.leaf (pos n)) (spot_named 0 name members) false
