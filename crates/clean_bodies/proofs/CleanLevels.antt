-- The groups and the data of a level, one after another.
use Rattle.std.proofs.Common.{◌≡◌, ℕ, ◌+◌, List, [], ◌∷◌, ◌++◌, length, drop, Some, sym, ap, subst, arith}
use Rattle.std.specs.List.{All, AllByRecursion}
use Rattle.std.proofs.lemmas.List.Elements.{All-from_recursion}
use denote.Hole.Carrier as carrier
use Rattle.byte_digits.specs.Digits.{IsBytes}
use Rattle.sbe_types.specs.declared.kind.Order.{Order}
use Rattle.sbe_types.specs.declared.schema.DataField.{DataField}
use Rattle.sbe_types.specs.declared.schema.Group as groups
use Rattle.sbe_types.specs.declared.schema.Level as levels
use Rattle.sbe_types.specs.declared.schema.Group.{Group, Group', out-Group}
use Rattle.sbe_types.specs.declared.schema.Level.{Level, Level', out-Level, Row_of-Group, end_of-Group, more_of-Group, items-the_row-Group, items_shown-the_row-Group-0}
use Rattle.sbe_types.specs.declared.message.Block.{Block, out-Block}
use Rattle.sbe_types.specs.declared.message.GroupVal.{GroupVal}
use Rattle.sbe_types.specs.Places.{members_end}
use Rattle.sbe_wire.specs.Versions.{own_mode}
use Rattle.sbe_wire.specs.Canonical.{parts_bytes, tail_bytes, groups_bytes, group_bytes}
use Rattle.sbe_wire.specs.Lays.{TailLays, GroupsLay}
use Rattle.sbe_wire.specs.Placed.{ArePlacedGroups}
use Rattle.writing_laws.specs.Writable.{AreWritableGroups, AreWritableParts, IsWritablePart}
use Rattle.clean_bodies.specs.Good.{IsGoodLevel, IsGoodGroup}
use Rattle.clean_bodies.specs.Whole.{Chain, Times}
use Rattle.clean_bodies.specs.Steps.{Place, PartStep, TailStep, EntryStep, GroupStep}
use Rattle.clean_bodies.proofs.Chains.{Ends, whole_of, two_pieces}
use Rattle.clean_bodies.proofs.CleanParts.{parts_end}
use Rattle.clean_bodies.proofs.CleanGroups.{DimSays, group_whole}

module _ (place : Place) where
  abbrev order : Order
  order = place.order

  abbrev version : ℕ
  version = place.version

  abbrev body : List ℕ
  body = place.body

  groups_end : {n : _} (row : Row_of-Group n) (at next : ℕ)
      → Chain Group (GroupStep place) (items-the_row-Group _ row) at next → (vs : List GroupVal) (front rest : List ℕ)
      → drop at body ≡ front ++ rest → GroupsLay (own_mode order version) row vs front
      → Ends at next front (groups_bytes order row vs)
  unfolding tail_bytes
  groups_end end_of-Group at next chain [] front rest there h = (omega (arith, chain, ap length h), ap Some (sym h))
  groups_end end_of-Group at next chain (v ∷ vs) front rest there h = absurd h
  groups_end (more_of-Group g row) at next chain [] front rest there h = absurd h
  groups_end (more_of-Group g row) at next chain (v ∷ vs) front rest there h =
      two_pieces body at chain.0 next front h.0 h.1 rest (group_bytes order g v) (groups_bytes order row vs) there h.2
      (λ r t. (chain.1.ends v h.0 r t h.3, chain.1.is v h.0 r t h.3))
      (λ t. groups_end row chain.0 next chain.2 vs h.1 rest t h.4)

  pub tail_whole : (level : Level) (at mid next : ℕ) → Chain Group (GroupStep place) (out-Level level).groups at mid
      → Chain DataField (PartStep place) (out-Level level).parts mid next → TailStep place level at next
  unfolding tail_bytes levels.out-Level carrier.out
  tail_whole (Level' name id semantic since block_length fields n row parts) at mid next first second =
      let level : Level = Level' name id semantic since block_length fields n row parts in
      let chain : Chain Group (GroupStep place) (items-the_row-Group _ row) at mid =
      subst (λ gs. Chain Group (GroupStep place) gs at mid) (items_shown-the_row-Group-0 n row) first in
      whole_of Block (λ entry b. TailLays (own_mode order version) level entry b) (tail_bytes order level) body at next
      (λ block front rest there h.
      two_pieces body at mid next front h.0 h.1 rest (groups_bytes order row (out-Block block).groups)
      (parts_bytes order parts (out-Block block).parts) there h.2
      (λ r t. groups_end row at mid chain (out-Block block).groups h.0 r t h.3)
      (λ t. parts_end place parts mid next second (out-Block block).parts h.1 rest t h.4))

  -- the group that an item of the schema is
  pub group_step : (g : Group) (count at next : ℕ) → IsGoodGroup version g → IsBytes body
      → DimSays place (out-Group g).level (out-Group g).dim count at
      → Times (EntryStep place (out-Group g).level) count (at + members_end 0 (out-Group g).dim) next
      → GroupStep place g at next
  unfolding groups.out-Group carrier.out
  group_step (Group' dim level) count at next known good says steps =
      group_whole place level dim count at next known.writable.0 known.writable.1 good says steps

-- ---- what a level that is good has

good_row : (current : ℕ) {n : _} (row : Row_of-Group n) → ArePlacedGroups row → AreWritableGroups current row
    → AllByRecursion (IsGoodGroup current) (items-the_row-Group _ row)
good_row current end_of-Group placed writable = tt
good_row current (more_of-Group g row) placed writable = (record { placed = placed.0; writable = writable.0 }, good_row current row placed.1 writable.1)

pub good_groups : (current : ℕ) (level : Level) → IsGoodLevel current level → All (IsGoodGroup current) (out-Level level).groups
unfolding levels.out-Level carrier.out
good_groups current (Level' name id semantic since block_length fields n row parts) known =
    All-from_recursion (IsGoodGroup current) _
    (subst (AllByRecursion (IsGoodGroup current)) (sym (items_shown-the_row-Group-0 n row)) (good_row current row known.placed.1 known.writable.2))

good_list : (current : ℕ) (ps : List DataField) → AreWritableParts current ps → AllByRecursion (IsWritablePart current) ps
good_list current [] h = tt
good_list current (p ∷ ps) h = (h.0, good_list current ps h.1)

pub good_parts : (current : ℕ) (level : Level) → IsGoodLevel current level → All (IsWritablePart current) (out-Level level).parts
unfolding levels.out-Level carrier.out
good_parts current (Level' name id semantic since block_length fields n row parts) known =
    All-from_recursion (IsWritablePart current) parts (good_list current parts known.writable.3)

-- the level of a group's entries
pub good_inner : (current : ℕ) (g : Group) → IsGoodGroup current g → IsGoodLevel current (out-Group g).level
unfolding groups.out-Group carrier.out
good_inner current (Group' dim level) known = record { placed = known.placed; writable = known.writable.2 }
