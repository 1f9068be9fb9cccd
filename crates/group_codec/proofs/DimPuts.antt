-- Dimensions that are put.
use Rattle.std.proofs.Common.{◌≡◌, inl, inr, ◌⊎◌, ℕ, Bool, true, false, List, replicate, Option, Some, None, ℤ, pos, refl, sym, ap, ◌∙◌, subst, arith}
use Rattle.std.specs.Prelude.{◌&&◌, ◌||◌, codes, int_le, slice_get}
use Rattle.std.specs.Option.{option_and_then}
use Rattle.std.specs.Str.{bytes_eq}
use Rattle.std.proofs.lemmas.Int.{ints}
use Rattle.std.proofs.lemmas.Bool.{and_parts}
use Rattle.std.proofs.lemmas.Bool.Decides.{nat_tests}
use Rattle.std.proofs.lemmas.Slice.Eq.{bytes_eq-Decides}
use Rattle.sbe_types.specs.declared.kind.Order.{Order}
use Rattle.sbe_types.specs.declared.kind.Leaf.{Leaf as LeafOf}
use Rattle.sbe_types.specs.declared.kind.Kind.{Comp}
use Rattle.sbe_types.specs.declared.kind.Member.{Member}
use Rattle.sbe_types.specs.declared.schema.WireSchema.{WireSchema}
use Rattle.sbe_types.specs.Numbers.{bytes_of}
use Rattle.sbe_types.specs.Shown.{admits}
use Rattle.sbe_types.proofs.Inverse.{bytes_of-width}
use Rattle.sbe_wire.specs.Canonical.{dimension_numbers, named_bytes}
use Rattle.sbe_wire.specs.Named.{Spot}
use Rattle.schema_rules.specs.Counters.{holds, holds_in, leaf_in}
use Rattle.schema_rules.specs.Ranges.{is_number_of, numbers_of}
use Rattle.schema_facts.specs.CheckedLevels.{HasDimensionKind, HasKinds, IsExact}
use Rattle.schema_facts.specs.IsChecked.{IsChecked}
use Rattle.schema_facts.specs.Levels.{Node, all_nodes}
use Rattle.schema_facts.specs.InOrder.{IsKindFrom, IsLeafFrom}
use Rattle.schema_facts.proofs.KindDeclared.{all_at}
use Rattle.schema_facts.proofs.KindLists.{KindsList, made_members}
use Rattle.schema_facts.proofs.LevelEntries.{either}
use Rattle.layout_tables.specs.declared.rows.DimRow.{DimRow}
use Rattle.layout_tables.specs.declared.rows.LevelRow.{LevelRow}
use Rattle.layout_tables.specs.Parts.{dim_at}
use Rattle.layout_tables.specs.Rowed.{as_spot, DimIs, RowFor}
use Rattle.field_bytes.specs.Laid.{laid_at, IsPut}
use Rattle.group_codec.specs.Dims.{IsDimRow}
use Rattle.group_codec.specs.Puts.{CanSay, IsWholeDim}
use Rattle.group_codec.proofs.DimRows.{admitted_is, row_dim, row_in}
use Rattle.group_codec.proofs.Pairs.{IsPair, pair_of, pair_bytes, apart_is, whole_is, last_put, first_put}

abbrev length_name : List ℕ
length_name = codes "blockLength"

abbrev count_name : List ℕ
count_name = codes "numInGroup"

differ : length_name ≡ count_name → ⊥
differ h = cc

-- ---- the bytes of a dimension by its row

module _ (order : Order) (block count : ℕ) (row : DimRow) (dim : List Member) (is : DimIs row dim) (whole : IsWholeDim dim) where
  abbrev numbers : List ℕ → ℕ
  numbers = dimension_numbers block count

  abbrev first : Spot
  first = as_spot row.block

  abbrev last : Spot
  last = as_spot row.count

  pub pair : IsPair length_name count_name first last dim ⊎ IsPair count_name length_name last first dim
  pair = pair_of dim first last whole.exact is.block.named is.count.named

  block_first : IsPair length_name count_name first last dim → (x y : List ℕ) → bytes_of order first.leaf.prim (pos block) ≡ Some x → bytes_of order last.leaf.prim (pos count) ≡ Some y →
      named_bytes order numbers 0 dim ≡ Some (laid_at last.place y (laid_at first.place x (replicate row.width 0)))
  block_first p x y h k =
      let apart = apart_is order numbers length_name count_name first last dim p whole.order.within.placed in
      let end = whole_is order numbers length_name count_name first last dim p in
      pair_bytes order numbers length_name count_name first last dim p x y h k
      ∙ ap Some (sym (last_put first.place last.place row.width x y (omega (arith, apart, (bytes_of-width order first.leaf.prim (pos block) x h).0)) (omega (arith, end, is.width, (bytes_of-width order last.leaf.prim (pos count) y k).0))))

  count_first : IsPair count_name length_name last first dim → (x y : List ℕ) → bytes_of order first.leaf.prim (pos block) ≡ Some x → bytes_of order last.leaf.prim (pos count) ≡ Some y →
      named_bytes order numbers 0 dim ≡ Some (laid_at last.place y (laid_at first.place x (replicate row.width 0)))
  count_first p x y h k =
      let apart = apart_is order numbers count_name length_name last first dim p whole.order.within.placed in
      let end = whole_is order numbers count_name length_name last first dim p in
      pair_bytes order numbers count_name length_name last first dim p y x k h
      ∙ ap Some (sym (first_put last.place first.place row.width y x (omega (arith, apart, (bytes_of-width order last.leaf.prim (pos count) y k).0)) (omega (arith, end, is.width, (bytes_of-width order first.leaf.prim (pos block) x h).0))))

  pub dim_put : (middle new : List ℕ) → IsPut (bytes_of order first.leaf.prim (pos block)) first.place (replicate row.width 0) middle → IsPut (bytes_of order last.leaf.prim (pos count)) last.place middle new →
      named_bytes order numbers 0 dim ≡ Some new
  dim_put middle new a b =
      let end : laid_at last.place b.0 (laid_at first.place a.0 (replicate row.width 0)) ≡ new = sym (b.2 ∙ ap (laid_at last.place b.0) a.2) in
      elim pair [
        | inl p ↦ block_first p a.0 b.0 a.1 b.1 ∙ ap Some end
        | inr p ↦ count_first p a.0 b.0 a.1 b.1 ∙ ap Some end
      ]

-- ---- numbers that have room

less_less : (x y z : ℤ) → int_le x y ≡ true → int_le y z ≡ true → int_le x z ≡ true
less_less x y z h k = grind (arith, ints, nat_tests, h, k)

both_hold : (a b : Bool) → a ≡ true → b ≡ true → (a && b) ≡ true
both_hold true b h k = k
both_hold false b h k = h

-- an admitted number is one of the primitive
number_in_range : (n : ℕ) (leaf : LeafOf) (k : ℤ) → IsLeafFrom n leaf → admits leaf k ≡ true → is_number_of leaf.prim k ≡ true
number_in_range n leaf k ready h =
    let least = (numbers_of leaf.prim).least in
    let greatest = (numbers_of leaf.prim).greatest in
    let parts = and_parts (int_le leaf.low k) (int_le k leaf.high) h in
    let low = and_parts (int_le least leaf.low) (int_le leaf.low greatest) ready.low in
    let high = and_parts (int_le least leaf.high) (int_le leaf.high greatest) ready.high in
    both_hold (int_le least k) (int_le k greatest) (less_less least leaf.low k low.0 parts.0) (less_less k leaf.high greatest parts.1 high.1)

module _ (one other : List ℕ) (first last : Spot) (dim : List Member) (pair : IsPair one other first last dim) (apart : one ≡ other → ⊥) where
  abbrev holds_at : List ℕ → ℕ → Member → Bool
  holds_at name n m = bytes_eq name m.name && holds_in (leaf_in m.kind) n

  held : (spot : Spot) (m : Member) (name : List ℕ) (n : ℕ) → leaf_in m.kind ≡ Some spot.leaf → holds_at name n m ≡ true → is_number_of spot.leaf.prim (pos n) ≡ true
  held spot m name n is h =
      ap (λ l. holds_in l n) (sym is) ∙ (and_parts (bytes_eq name m.name) (holds_in (leaf_in m.kind) n) h).1

  named : (m : Member) (name : List ℕ) (n : ℕ) → holds_at name n m ≡ true → name ≡ m.name
  named m name n h = (bytes_eq-Decides name m.name).0 (and_parts (bytes_eq name m.name) (holds_in (leaf_in m.kind) n) h).0

  only : (t : Bool) → (t || false) ≡ true → t ≡ true
  only true h = refl
  only false h = h

  tests : (name : List ℕ) (n : ℕ) → holds dim name n ≡ true → (holds_at name n pair.a || (holds_at name n pair.b || false)) ≡ true
  tests name n h = ap (λ d. holds d name n) (sym pair.is) ∙ h

  pub held_first : (n : ℕ) → holds dim one n ≡ true → is_number_of first.leaf.prim (pos n) ≡ true
  held_first n h = elim (either (holds_at one n pair.a) (holds_at one n pair.b || false) (tests one n h)) [
    | inl x ↦ held first pair.a one n (ap leaf_in pair.kind_a) x
    | inr x ↦ absurd (apart (named pair.b one n (only (holds_at one n pair.b) x) ∙ pair.name_b))
  ]

  pub held_last : (n : ℕ) → holds dim other n ≡ true → is_number_of last.leaf.prim (pos n) ≡ true
  held_last n h = elim (either (holds_at other n pair.a) (holds_at other n pair.b || false) (tests other n h)) [
    | inl x ↦ absurd (apart (sym (named pair.a other n x ∙ pair.name_a)))
    | inr x ↦ held last pair.b other n (ap leaf_in pair.kind_b) (only (holds_at other n pair.b) x)
  ]

  pub ready_first : IsKindFrom 0 (Comp dim) → IsLeafFrom 0 first.leaf
  ready_first h = let kinds = subst (KindsList 0) pair.is (made_members 0 dim h).kinds in subst (IsKindFrom 0) pair.kind_a kinds.0

  pub ready_last : IsKindFrom 0 (Comp dim) → IsLeafFrom 0 last.leaf
  ready_last h = let kinds = subst (KindsList 0) pair.is (made_members 0 dim h).kinds in subst (IsKindFrom 0) pair.kind_b kinds.1.0

-- what a dimension can say is said by numbers of its row
module _ (row : DimRow) (dim : List Member) (is : DimIs row dim) (whole : IsWholeDim dim) (block count room : ℕ) (can : CanSay dim block count room) where
  pub block_number : is_number_of row.block.leaf.prim (pos block) ≡ true
  block_number = elim (pair_of dim (as_spot row.block) (as_spot row.count) whole.exact is.block.named is.count.named) [
    | inl p ↦ held_first length_name count_name (as_spot row.block) (as_spot row.count) dim p differ block can.has_room
    | inr p ↦ held_last count_name length_name (as_spot row.count) (as_spot row.block) dim p (λ e. differ (sym e)) block can.has_room
  ]

  count_ready : IsLeafFrom 0 row.count.leaf
  count_ready = elim (pair_of dim (as_spot row.block) (as_spot row.count) whole.exact is.block.named is.count.named) [
    | inl p ↦ ready_last length_name count_name (as_spot row.block) (as_spot row.count) dim p differ whole.order.parts
    | inr p ↦ ready_first count_name length_name (as_spot row.count) (as_spot row.block) dim p (λ e. differ (sym e)) whole.order.parts
  ]

  pub count_number : is_number_of row.count.leaf.prim (pos count) ≡ true
  count_number = number_in_range 0 row.count.leaf (pos count) count_ready (sym (admitted_is dim count_name count row.count is.count) ∙ can.admits)

  pub wide_number : room ≡ row.width
  wide_number = can.wide ∙ sym is.width

-- ---- the dimension of a group of a checked schema

-- the members in front of a node's entries
module _ (schema : WireSchema) (n : ℕ) (checked : IsChecked schema) where
  found : (o : Option Node) (dim : List Member) → slice_get (all_nodes schema) n ≡ o → option_and_then (λ (node : Node). node.dim) o ≡ Some dim → (node : Node) × (slice_get (all_nodes schema) n ≡ Some node) × (node.dim ≡ Some dim)
  found None dim at is = cc
  found (Some node) dim at is = (node, at, is)

  pub whole_dim : (dim : List Member) → dim_at schema n ≡ Some dim → IsWholeDim dim
  whole_dim dim is =
      let node = found (slice_get (all_nodes schema) n) dim refl is in
      record {
        exact = subst IsExact node.2 (all_at (λ (x : Node). IsExact x.dim) (all_nodes schema) n node.0 checked.counters.dimensions node.1);
        order = subst HasDimensionKind node.2 (all_at HasKinds (all_nodes schema) n node.0 checked.kinds.levels node.1).dim;
      }

same_dim : (a b : List Member) → ◌≡◌ {A = Option (List Member)} (Some a) (Some b) → a ≡ b
same_dim a b h = cc

-- what a caller asks of the group is what its row can say
pub record RowSays (schema : WireSchema) (n : ℕ) (row : DimRow) (block count room : ℕ) : Type 0 where
  pub there : IsDimRow row
  pub wide : room ≡ row.width
  pub block_is : is_number_of row.block.leaf.prim (pos block) ≡ true
  pub count_is : is_number_of row.count.leaf.prim (pos count) ≡ true
  pub is : (dim : List Member) → dim_at schema n ≡ Some dim → DimIs row dim × IsWholeDim dim

pub row_says : (schema : WireSchema) (n : ℕ) (level : LevelRow) (row : DimRow) (block count room : ℕ) → IsChecked schema → RowFor schema n level → level.dim ≡ Some row →
    ((dim : List Member) × (dim_at schema n ≡ Some dim) × CanSay dim block count room) → RowSays schema n row block count room
row_says schema n level row block count room checked for here asked =
    let found = row_dim schema n level row for here in
    let whole = whole_dim schema n checked found.0 found.1 in
    let same : asked.0 ≡ found.0 = same_dim asked.0 found.0 (sym asked.1 ∙ found.1) in
    let can = subst (λ d. CanSay d block count room) same asked.2 in
    record {
      there = row_in row found.0 found.2;
      wide = wide_number row found.0 found.2 whole block count room can;
      block_is = block_number row found.0 found.2 whole block count room can;
      count_is = count_number row found.0 found.2 whole block count room can;
      is = λ dim at. (subst (DimIs row) (same_dim found.0 dim (sym found.1 ∙ at)) found.2, whole_dim schema n checked dim at);
    }
