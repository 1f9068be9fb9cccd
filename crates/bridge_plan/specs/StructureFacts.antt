-- Which structures and levels give a plan: no tag occurs twice in the structure, and what holds of each group that a
-- level has of it. Own profile.
use Rattle.std.specs.Prelude.{◌≡◌, ℕ, ◌<◌, ◌^◌, true, false, ⊤, pos, Some}
use Rattle.sbe_types.specs.declared.kind.Leaf.{Leaf as LeafOf}
use Rattle.sbe_types.specs.declared.schema.Group.{Group}
use Rattle.sbe_types.specs.declared.schema.Level.{Level}
use Rattle.sbe_types.specs.Shown.{admits}
use Rattle.reference_graph.specs.Expansion.{Structure, ended, plain, counted, structure_tags}
use Rattle.bridge_terms.specs.Plans.{Slot, is_in}
use Rattle.bridge_plan.specs.Mappings.{Mapping, delimiter_of}
use Rattle.bridge_plan.specs.Covers.{slot_of, group_of, groups_in, level_in, count_leaf}

-- no tag occurs twice in a structure, counts included
abbrev pub IsDistinct : Structure → Type 0
IsDistinct ended = ⊤
IsDistinct (plain tag rest) = (is_in tag (structure_tags rest) ≡ false) × IsDistinct rest
IsDistinct (counted tag inner rest) =
    (is_in tag (structure_tags inner) ≡ false) × (is_in tag (structure_tags rest) ≡ false)
    × ((other : ℕ) → is_in other (structure_tags rest) ≡ true → is_in other (structure_tags inner) ≡ false) × IsDistinct inner × IsDistinct rest

-- P holds of each group that the level has of a structure, with the structure of its entries, at each depth.
abbrev pub EachGroup : (Structure → Group → Type 0) → Structure → Level → Type 0
EachGroup P ended level = ⊤
EachGroup P (plain tag rest) level = EachGroup P rest level
EachGroup P (counted tag inner rest) level =
    ((found : ℕ × Group) → group_of tag 0 (groups_in level) ≡ Some found → P inner found.1 × EachGroup P inner (level_in found.1))
    × EachGroup P rest level

-- the delimiter of the group's entries is the tag of one of the group's fields
abbrev pub HasDelimiter : Mapping → Structure → Group → Type 0
HasDelimiter m inner g = (delimiter : ℕ) → delimiter_of inner ≡ Some delimiter → (slot : Slot) × (slot_of m delimiter (level_in g) ≡ Some slot)

-- the same for each group
abbrev pub IsDelimited : Mapping → Structure → Level → Type 0
IsDelimited m s level = EachGroup (HasDelimiter m) s level

-- the dimension of the group has a count of this type, and each number that it admits has at most 64 digits
pub record HasCount (inner : Structure) (g : Group) : Type 0 where
  pub leaf : LeafOf
  pub counts : count_leaf g ≡ Some leaf
  pub short : (n : ℕ) → admits leaf (pos n) ≡ true → n < 10 ^ 64
