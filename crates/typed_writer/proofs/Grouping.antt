-- Dimensions of groups, by their members.
use Rattle.std.proofs.Common.{◌≡◌, ℕ, Bool, true, false, List, [], ◌∷◌, length, Option, Some, None, refl, sym, ap, ◌∙◌, subst, arith, eqb-true, ℤ, pos}
use Rattle.std.specs.Prelude.{◌&&◌, ◌||◌, ◌==◌, codes, slice_get, int_le, unwrap_or, if◌then◌else◌, ⊤}
use Rattle.std.specs.Option.{option_and_then, option_map_or}
use Rattle.std.specs.List.{AllByRecursion, list_any}
use Rattle.std.specs.Str.{bytes_eq}
use Rattle.std.proofs.lemmas.Bool.Decides.{nat_tests}
use Rattle.std.proofs.lemmas.Int.{ints}
use Rattle.std.proofs.lemmas.Slice.Eq.{bytes_eq-Decides}
use Rattle.sbe_types.specs.declared.kind.Primitive.{Primitive}
use Rattle.sbe_types.specs.declared.kind.Primitive.TheVariants.{Char, I8, I16, I32, I64, U8, U16, U32, U64}
use Rattle.sbe_types.specs.declared.kind.Kind.{Kind, Leaf, Enum, Set, Const, Comp, Comp', Row_of-Member, end_of-Member, more_of-Member, items-the_row-Member, items_hidden-the_row-Member-0}
use Rattle.sbe_types.specs.declared.kind.Member.{Member}
use Rattle.sbe_types.specs.declared.schema.Level.{out-Level}
use Rattle.sbe_types.specs.declared.schema.WireSchema.{WireSchema}
use Rattle.sbe_types.specs.Places.{begin_of, end_past, members_end}
use Rattle.sbe_types.specs.Shown.{admits}
use Rattle.sbe_wire.specs.Canonical.{named_bytes, dimension_numbers}
use Rattle.sbe_wire.specs.Named.{Spot, spot_of, spot_named, is_admitted}
use Rattle.schema_rules.specs.Counters.{leaf_in, is_counter_primitive, is_counter, holds_in, holds, has_counter}
use Rattle.schema_rules.specs.Ranges.{is_number_of}
use Rattle.schema_facts.specs.CheckedLevels.{HasBlock, HasKinds, IsExact, HasDimensionKind, counting}
use Rattle.schema_facts.specs.InOrder.{IsKindFrom, AreKindsFrom, IsCompositeInOrder}
use Rattle.schema_facts.specs.IsChecked.{IsChecked}
use Rattle.schema_facts.specs.Levels.{Node, all_nodes}
use Rattle.schema_facts.specs.Measured.{IsSmall}
use Rattle.schema_facts.proofs.KindCounters.{small_primitive}
use Rattle.schema_facts.proofs.KindDeclared.{all_at}
use Rattle.schema_facts.proofs.KindLists.{placed_members, narrow_members}
use Rattle.schema_facts.proofs.KindNumbers.{both_true}
use Rattle.layout_tables.specs.declared.rows.DimRow.{DimRow}
use Rattle.layout_tables.specs.declared.rows.LevelRow.{LevelRow}
use Rattle.layout_tables.specs.Parts.{dim_at}
use Rattle.layout_tables.specs.Rowed.{RowFor}
use Rattle.group_codec.proofs.DimRows.{row_dim, admitted_is}
use Rattle.sbe_types.proofs.KindRows.{row_in}
use Rattle.sbe_wire.specs.HeadNumbers.{number_of_name}
use Rattle.typed_writer.specs.Counted.{HaveRoomFor}
use Rattle.sbe_wire.specs.declared.counters.Counters.TheVariants.{Dimension}
use Rattle.kind_bytes.specs.Members.{followed_by}
use Rattle.typed_writer.specs.Ready.{MembersStand}
use Rattle.typed_writer.specs.States.{block_at}
use Rattle.typed_writer.specs.Steps.{admits_entries, dimension_in, dimension_size}
use Rattle.typed_writer.proofs.Checked.{block_is}
use Rattle.typed_writer.proofs.Holding.{has_named, counts, has_room, dim_good, both_good, members_stand}

-- ---- by the row

pub admits_told : (schema : WireSchema) (n many : ℕ) (level : LevelRow) (row : DimRow) → RowFor schema n level → level.dim ≡ Some row →
    admits_entries schema n many ≡ admits row.count.leaf (pos many)
admits_told schema n many level row for is =
    let found = row_dim schema n level row for is in
    ap (λ o. option_map_or (λ (dim : List Member). is_admitted dim (codes "numInGroup") many) o false) found.1
    ∙ admitted_is found.0 (codes "numInGroup") many row.count found.2.count

pub size_told : (schema : WireSchema) (n : ℕ) (level : LevelRow) (row : DimRow) → RowFor schema n level → level.dim ≡ Some row → dimension_size schema n ≡ row.width
size_told schema n level row for is =
    let found = row_dim schema n level row for is in
    ap (λ o. option_map_or (λ (dim : List Member). members_end 0 dim) o 0) found.1 ∙ sym found.2.width

-- ---- the count has room

pub holds_below : (prim : Primitive) (n : ℕ) (high : ℤ) → IsSmall prim → is_number_of prim high ≡ true → int_le (pos n) high ≡ true → is_number_of prim (pos n) ≡ true
holds_below U8 n high small h k = grind (arith, ints, nat_tests, h, k)
holds_below U16 n high small h k = grind (arith, ints, nat_tests, h, k)
holds_below U32 n high small h k = grind (arith, ints, nat_tests, h, k)
holds_below U64 n high small h k = absurd small
holds_below Char n high small h k = absurd small
holds_below I8 n high small h k = absurd small
holds_below I16 n high small h k = absurd small
holds_below I32 n high small h k = absurd small
holds_below I64 n high small h k = absurd small

abbrev InOrder : Member → Type 0
InOrder m = IsKindFrom 0 m.kind

rows_order : (n : _) (row : Row_of-Member n) → AreKindsFrom 0 row → AllByRecursion InOrder (items-the_row-Member n row)
rows_order n end_of-Member h = tt
rows_order n (more_of-Member name offset kind rest) h = (h.0, rows_order _ rest h.1)

kinds_in : (ms : List Member) → IsKindFrom 0 (Comp ms) → AllByRecursion InOrder ms
kinds_in ms h = let row = row_in (Comp ms) in subst (AllByRecursion InOrder) (items_hidden-the_row-Member-0 ms) (rows_order row.0 row.1 h.kinds)

or_second : (a b : Bool) → b ≡ true → a || b ≡ true
or_second true b h = refl
or_second false b h = h

or_first : (a b : Bool) → a ≡ true → a || b ≡ true
or_first true b h = refl
or_first false b h = cc

and_two : (a b : Bool) → a ≡ true → b ≡ true → a && b ≡ true
and_two true b h k = k
and_two false b h k = cc

kind_held : (kind : Kind) (place many : ℕ) → IsKindFrom 0 kind → is_counter (leaf_in kind) ≡ true →
    option_map_or (λ (s : Spot). admits s.leaf (pos many)) (spot_of place kind) false ≡ true → holds_in (leaf_in kind) many ≡ true
kind_held (Leaf l) place many order counter h =
    let small = small_primitive l.prim (both_true (is_counter_primitive l.prim) (l.length == 1) counter).0 in
    holds_below l.prim many l.high small order.high (both_true (int_le l.low (pos many)) (int_le (pos many) l.high) h).1
kind_held (Enum l names) place many order counter h = cc
kind_held (Set p names) place many order counter h = cc
kind_held (Const c) place many order counter h = cc
kind_held (Comp' n row) place many order counter h = cc

pick : (b : Bool) (x y : Option Spot) (f : Option Spot → Bool) → b ≡ true → f (if b then x else y) ≡ true → f x ≡ true
pick true x y f e h = h
pick false x y f e h = cc

skip : (b : Bool) (x y : Option Spot) (f : Option Spot → Bool) → b ≡ false → f (if b then x else y) ≡ true → f y ≡ true
skip true x y f e h = cc
skip false x y f e h = h

abbrev told : ℕ → Option Spot → Bool
told many o = option_map_or (λ (s : Spot). admits s.leaf (pos many)) o false

abbrev finds : ℕ → List Member → Bool
finds many ms = list_any (has_named has_room (codes "numInGroup") many) ms

turned : (m : Member) → bytes_eq m.name (codes "numInGroup") ≡ true → bytes_eq (codes "numInGroup") m.name ≡ true
turned m same = (bytes_eq-Decides (codes "numInGroup") m.name).1 (sym ((bytes_eq-Decides m.name (codes "numInGroup")).0 same))

step_held : (e many : ℕ) (m : Member) (ms : List Member) (b : Bool) → bytes_eq m.name (codes "numInGroup") ≡ b → IsKindFrom 0 m.kind → is_counter (leaf_in m.kind) ≡ true →
    (told many (spot_named (end_past e m.offset m.kind) (codes "numInGroup") ms) ≡ true → finds many ms ≡ true) →
    told many (spot_named e (codes "numInGroup") (m ∷ ms)) ≡ true → finds many (m ∷ ms) ≡ true
step_held e many m ms true same order counter rest h =
    let here = spot_of (begin_of e m.offset) m.kind in
    let later = spot_named (end_past e m.offset m.kind) (codes "numInGroup") ms in
    let room = kind_held m.kind (begin_of e m.offset) many order counter (pick (bytes_eq m.name (codes "numInGroup")) here later (told many) same h) in
    or_first (bytes_eq (codes "numInGroup") m.name && has_room m many) (finds many ms) (and_two _ _ (turned m same) room)
step_held e many m ms false other order counter rest h =
    let here = spot_of (begin_of e m.offset) m.kind in
    let later = spot_named (end_past e m.offset m.kind) (codes "numInGroup") ms in
    or_second (bytes_eq (codes "numInGroup") m.name && has_room m many) (finds many ms) (rest (skip (bytes_eq m.name (codes "numInGroup")) here later (told many) other h))

count_held : (e many : ℕ) (ms : List Member) → AllByRecursion InOrder ms → AllByRecursion (λ (m : Member). is_counter (leaf_in m.kind) ≡ true) ms →
    told many (spot_named e (codes "numInGroup") ms) ≡ true → finds many ms ≡ true
count_held e many [] order counters h = cc
count_held e many (m ∷ ms) order counters h =
    step_held e many m ms (bytes_eq m.name (codes "numInGroup")) refl order.0 counters.0 (λ k. count_held (end_past e m.offset m.kind) many ms order.1 counters.1 k) h

-- ---- a dimension

abbrev DimInOrder : Option (List Member) → Type 0
DimInOrder None = ⊤
DimInOrder (Some dim) = IsCompositeInOrder (Comp dim)

abbrev HoldsBlock : Option (List Member) → List Member → ℕ → Type 0
HoldsBlock dim header n = holds (unwrap_or dim header) (codes "blockLength") n ≡ true

node_of : (o : Option Node) (dim : List Member) → option_and_then (λ (x : Node). x.dim) o ≡ Some dim → (this : Node) × (o ≡ Some this) × (this.dim ≡ Some dim)
node_of None dim h = cc
node_of (Some this) dim h = (this, refl, h)

abbrev HasBlockAt : List Member → Node → Type 0
HasBlockAt header this = HasBlock (counting header this) this.level

pub dim_holds : (schema : WireSchema) (g many : ℕ) (dim : List Member) → IsChecked schema → dim_at schema g ≡ Some dim → admits_entries schema g many ≡ true →
    HaveRoomFor (number_of_name (Dimension (block_at schema g) many)) dim
dim_holds schema g many dim checked at admitted =
    let w = node_of (slice_get (all_nodes schema) g) dim at in
    let exact : IsExact w.0.dim = all_at (λ (x : Node). IsExact x.dim) (all_nodes schema) g w.0 checked.counters.dimensions w.1 in
    let is = both_true (length dim == 2) _ (subst IsExact w.2 exact) in
    let two : length dim ≡ 2 = eqb-true (length dim) 2 is.0 in
    let named = both_true (has_counter dim (codes "blockLength")) _ is.1 in
    let kinds : HasKinds w.0 = all_at HasKinds (all_nodes schema) g w.0 checked.kinds.levels w.1 in
    let order : DimInOrder (Some dim) = subst HasDimensionKind w.2 kinds.dim in
    let block : HasBlockAt schema.header.members w.0 = all_at (HasBlockAt schema.header.members) (all_nodes schema) g w.0 checked.blocks w.1 in
    let b = block_at schema g in
    let counters = dim_good counts b many dim two named.0 named.1 in
    let count = count_held 0 many dim (kinds_in dim order.parts) counters (ap (λ o. option_map_or (λ (dim : List Member). is_admitted dim (codes "numInGroup") many) o false) (sym at) ∙ admitted) in
    let held = subst (λ (d : Option (List Member)). HoldsBlock d schema.header.members (out-Level w.0.level).block_length) w.2 block.held in
    let room = subst (λ n. list_any (has_named has_room (codes "blockLength") n) dim ≡ true) (sym (block_is schema g w.0 w.1)) held in
    both_good (number_of_name (Dimension b many)) dim counters (dim_good has_room b many dim two room count)

pub dim_stands : (schema : WireSchema) (g : ℕ) (dim : List Member) → IsChecked schema → dim_at schema g ≡ Some dim → MembersStand 0 dim
dim_stands schema g dim checked at =
    let w = node_of (slice_get (all_nodes schema) g) dim at in
    let kinds : HasKinds w.0 = all_at HasKinds (all_nodes schema) g w.0 checked.kinds.levels w.1 in
    let order : DimInOrder (Some dim) = subst HasDimensionKind w.2 kinds.dim in
    members_stand 0 dim (placed_members dim order.within.placed) (narrow_members dim order.within.narrow)

-- its bytes and its size, by its members
pub dim_told : (schema : WireSchema) (g many b : ℕ) (dim : List Member) (old new : List ℕ) → dim_at schema g ≡ Some dim → block_at schema g ≡ b →
    followed_by old (named_bytes schema.order (number_of_name (Dimension b many)) 0 dim) ≡ Some new → followed_by old (dimension_in schema g many) ≡ Some new
dim_told schema g many b dim old new at is h =
    ap (λ (o : Option (List Member)). followed_by old (option_and_then (λ (dim : List Member). named_bytes schema.order (dimension_numbers (block_at schema g) many) 0 dim) o)) at
    ∙ ap (λ n. followed_by old (named_bytes schema.order (dimension_numbers n many) 0 dim)) is ∙ h

pub size_is : (schema : WireSchema) (g : ℕ) (dim : List Member) → dim_at schema g ≡ Some dim → dimension_size schema g ≡ members_end 0 dim
size_is schema g dim at = ap (λ o. option_map_or (λ (dim : List Member). members_end 0 dim) o 0) at

-- the same, of the block length that the layout tells
pub dim_room : (schema : WireSchema) (g many b : ℕ) (dim : List Member) → IsChecked schema → dim_at schema g ≡ Some dim → admits_entries schema g many ≡ true → block_at schema g ≡ b →
    HaveRoomFor (number_of_name (Dimension b many)) dim
dim_room schema g many b dim checked at admitted is = subst (λ n. HaveRoomFor (number_of_name (Dimension n many)) dim) is (dim_holds schema g many dim checked at admitted)
