-- A header and a dimension hold the numbers of their names.
use Rattle.std.proofs.Common.{◌≡◌, ℕ, ◌^◌, ◌<◌, Bool, true, false, cond, List, [], ◌∷◌, length, Option, Some, pos, refl, sym, ap, ◌∙◌, subst, arith}
use Rattle.std.specs.Prelude.{◌&&◌, ◌||◌, ◌==◌, codes}
use Rattle.std.specs.List.{AllByRecursion}
use Rattle.std.specs.Option.{option_map_or}
use Rattle.std.specs.Str.{bytes_eq}
use Rattle.std.proofs.lemmas.Int.{ints}
use Rattle.std.proofs.lemmas.Bool.Decides.{nat_tests, Decides-eqb}
use Rattle.std.proofs.lemmas.Slice.Eq.{bytes_eq-Decides}
use Rattle.sbe_types.specs.declared.kind.Primitive.{Primitive}
use Rattle.sbe_types.specs.declared.kind.Primitive.TheVariants.{Char, I8, I16, I32, I64, U8, U16, U32, U64}
use Rattle.sbe_types.specs.declared.kind.Leaf.{Leaf as LeafOf}
use Rattle.sbe_types.specs.declared.kind.Kind.{Kind, Leaf, Enum, Set, Const, Comp, Comp'}
use Rattle.sbe_types.specs.declared.kind.Member.{Member}
use Rattle.sbe_types.specs.declared.schema.Level.{Level, out-Level}
use Rattle.sbe_types.specs.declared.schema.WireSchema.{WireSchema}
use Rattle.sbe_types.specs.Places.{is_const, begin_of, end_past}
use Rattle.sbe_types.specs.Shown.{admits}
use Rattle.sbe_wire.specs.Named.{Spot, spot_of, spot_named}
use Rattle.sbe_wire.specs.Canonical.{dimension_numbers, header_numbers}
use Rattle.schema_rules.specs.Ranges.{is_number_of}
use Rattle.schema_rules.specs.Counters.{is_counter_primitive, leaf_in, is_counter, has_counter, has_both, is_header, is_dimension, holds_in, holds}
use Rattle.schema_facts.specs.InOrder.{IsLeafFrom, IsKindFrom, IsCompositeInOrder}
use Rattle.schema_facts.specs.Measured.{IsSmall, IsDimension}
use Rattle.schema_facts.proofs.KindLists.{PlacedList, KindsList, placed_members, made_members}
use Rattle.writing_laws.specs.Writable.{HoldNumbers, IsWritableDimension}
use Rattle.writable_schemas.proofs.WholeNumbers.{untrue, both_true, are_true, has_number}
use Rattle.writable_schemas.proofs.OrderedKinds.{admitted_number}
use Rattle.writable_schemas.proofs.NamedMembers.{Apart, exactly}

-- ---- a counter

-- a member that is one number
abbrev CounterOf : Kind → Type 0
CounterOf kind = (leaf : LeafOf) × (kind ≡ Leaf leaf) × (leaf.length ≡ 1)

counter_of : (kind : Kind) → is_counter (leaf_in kind) ≡ true → CounterOf kind
counter_of (Leaf l) h = (l, refl, (Decides-eqb l.length 1).0 (both_true (is_counter_primitive l.prim) (l.length == 1) h).1)
counter_of (Enum l names) h = absurd (untrue h)
counter_of (Set p names) h = absurd (untrue h)
counter_of (Const c) h = absurd (untrue h)
counter_of (Comp' n row) h = absurd (untrue h)

-- ---- members that have exactly their names

-- the test of a name, and one more
abbrev named_and : (Member → Bool) → List ℕ → Member → Bool
named_and test name m = bytes_eq name m.name && test m

named_is : (test : Member → Bool) (name : List ℕ) (m : Member) → named_and test name m ≡ true → name ≡ m.name
named_is test name m h = (bytes_eq-Decides name m.name).0 (both_true (bytes_eq name m.name) (test m) h).0

-- the test that a counter passes
abbrev counts : Member → Bool
counts m = is_counter (leaf_in m.kind)

abbrev IsCounted : Member → Type 0
IsCounted m = counts m ≡ true

counted_by : (name : List ℕ) (m : Member) → named_and counts name m ≡ true → IsCounted m
counted_by name m h = (both_true (bytes_eq name m.name) (counts m) h).1

-- the test of room for the number of a name
module _ (numbers : List ℕ → ℕ) where
  abbrev HasRoom : Member → Type 0
  HasRoom m = holds_in (leaf_in m.kind) (numbers m.name) ≡ true

  abbrev has_room : List ℕ → Member → Bool
  has_room name m = bytes_eq name m.name && holds_in (leaf_in m.kind) (numbers name)

  room_named : (name : List ℕ) (m : Member) → has_room name m ≡ true → name ≡ m.name
  room_named name m h = (bytes_eq-Decides name m.name).0 (both_true (bytes_eq name m.name) (holds_in (leaf_in m.kind) (numbers name)) h).0

  room_by : (name : List ℕ) (m : Member) → has_room name m ≡ true → HasRoom m
  room_by name m h =
      subst (λ n. holds_in (leaf_in m.kind) (numbers n) ≡ true) (room_named name m h) (both_true (bytes_eq name m.name) (holds_in (leaf_in m.kind) (numbers name)) h).1

  -- members that are placed, are counters and have room
  hold_all : (e : ℕ) (ms : List Member) → PlacedList e ms → AllByRecursion IsCounted ms → AllByRecursion HasRoom ms → HoldNumbers numbers e ms
  hold_all e [] placed counted room = tt
  hold_all e (m ∷ ms) placed counted room =
      let here = counter_of m.kind counted.0 in
      let number : is_number_of here.0.prim (pos (numbers m.name)) ≡ true = sym (ap (λ k. holds_in (leaf_in k) (numbers m.name)) here.1) ∙ room.0 in (
        record { leaf = here.0; number = here.1; single = here.2; after = placed.0 (ap is_const here.1); room = has_number here.0.prim (pos (numbers m.name)) number },
        hold_all (end_past e m.offset m.kind) ms placed.2 counted.1 room.1,
      )

each_by : {X : Type 0} (P : X → Type 0) → ((x : X) → P x) → (xs : List X) → AllByRecursion P xs
each_by P h [] = tt
each_by P h (x ∷ xs) = (h x, each_by P h xs)

hold_exactly : (numbers : List ℕ → ℕ) (names : List (List ℕ)) (ms : List Member) → length ms ≡ length names → Apart names → PlacedList 0 ms →
    AllByRecursion (λ n. has_counter ms n ≡ true) names → AllByRecursion (λ n. holds ms n (numbers n) ≡ true) names → HoldNumbers numbers 0 ms
hold_exactly numbers names ms many apart placed counters held =
    hold_all numbers 0 ms placed
    (exactly (named_and counts) (named_is counts) IsCounted names ms many apart counters (each_by (λ n. (m : Member) → named_and counts n m ≡ true → IsCounted m) counted_by names))
    (exactly (has_room numbers) (room_named numbers) (HasRoom numbers) names ms many apart held (each_by (λ n. (m : Member) → has_room numbers n m ≡ true → HasRoom numbers m) (room_by numbers) names))

-- ---- the count of a dimension

spot_leaf : (e : ℕ) (name : List ℕ) (ms : List Member) (s : Spot) → KindsList 0 ms → spot_named e name ms ≡ Some s → IsLeafFrom 0 s.leaf
spot_leaf e name [] s kinds h = cc
spot_leaf e name (m ∷ ms) s kinds h = by (bytes_eq m.name name) m.kind kinds.0 h (spot_leaf (end_past e m.offset m.kind) name ms s kinds.1)
  where
    by : (t : Bool) (kind : Kind) → IsKindFrom 0 kind → cond t (spot_of (begin_of e m.offset) kind) (spot_named (end_past e m.offset m.kind) name ms) ≡ Some s →
        (spot_named (end_past e m.offset m.kind) name ms ≡ Some s → IsLeafFrom 0 s.leaf) → IsLeafFrom 0 s.leaf
    by true (Leaf l) order k more = subst (λ (s : Spot). IsLeafFrom 0 s.leaf) (some_is k) order
      where
        some_is : {A : Type 0} {x y : A} → ◌≡◌ {A = Option A} (Some x) (Some y) → x ≡ y
        some_is h = cc
    by true (Enum l names) order k more = cc
    by true (Set p names) order k more = cc
    by true (Const c) order k more = cc
    by true (Comp' n row) order k more = cc
    by false kind order k more = more k

-- the number that a member admits has room in it
spot_holds : (e : ℕ) (name : List ℕ) (ms : List Member) (n : ℕ) → KindsList 0 ms → option_map_or (λ s. admits s.leaf (pos n)) (spot_named e name ms) false ≡ true → holds ms name n ≡ true
spot_holds e name [] n kinds h = absurd (untrue h)
spot_holds e name (m ∷ ms) n kinds h = by (bytes_eq m.name name) refl m.kind refl kinds.0 h (spot_holds (end_past e m.offset m.kind) name ms n kinds.1)
  where
    or_first : (t u : Bool) → t ≡ true → (t || u) ≡ true
    or_first t u h = ap (λ b. b || u) h

    or_second : (t u : Bool) → u ≡ true → (t || u) ≡ true
    or_second true u h = refl
    or_second false u h = h

    by : (t : Bool) → bytes_eq m.name name ≡ t → (kind : Kind) → m.kind ≡ kind → IsKindFrom 0 kind →
        option_map_or (λ s. admits s.leaf (pos n)) (cond t (spot_of (begin_of e m.offset) kind) (spot_named (end_past e m.offset m.kind) name ms)) false ≡ true →
        (option_map_or (λ s. admits s.leaf (pos n)) (spot_named (end_past e m.offset m.kind) name ms) false ≡ true → holds ms name n ≡ true) → holds (m ∷ ms) name n ≡ true
    by true same (Leaf l) is order k more =
        let own : bytes_eq name m.name ≡ true = (bytes_eq-Decides name m.name).1 (sym ((bytes_eq-Decides m.name name).0 same)) in
        let room : holds_in (leaf_in m.kind) n ≡ true = ap (λ kind. holds_in (leaf_in kind) n) is ∙ admitted_number 0 l order (pos n) k in
        or_first (bytes_eq name m.name && holds_in (leaf_in m.kind) n) (holds ms name n) (are_true (bytes_eq name m.name) (holds_in (leaf_in m.kind) n) own room)
    by true same (Enum l names) is order k more = absurd (untrue k)
    by true same (Set p names) is order k more = absurd (untrue k)
    by true same (Const c) is order k more = absurd (untrue k)
    by true same (Comp' n' row) is order k more = absurd (untrue k)
    by false same kind is order k more = or_second (bytes_eq name m.name && holds_in (leaf_in m.kind) n) (holds ms name n) (more k)

small_below : (p : Primitive) (n : ℕ) → IsSmall p → is_number_of p (pos n) ≡ true → n < 2 ^ 32
small_below U8 n small h = grind (arith, ints, nat_tests, h)
small_below U16 n small h = grind (arith, ints, nat_tests, h)
small_below U32 n small h = grind (arith, ints, nat_tests, h)
small_below U64 n small h = absurd small
small_below Char n small h = absurd small
small_below I8 n small h = absurd small
small_below I16 n small h = absurd small
small_below I32 n small h = absurd small
small_below I64 n small h = absurd small

-- ---- a dimension

pub dimension_writable : (dim : List Member) (wide : ℕ) → is_dimension dim ≡ true → IsCompositeInOrder (Comp dim) → IsDimension dim → holds dim (codes "blockLength") wide ≡ true → IsWritableDimension dim wide
dimension_writable dim wide exact order measured held =
    let two = both_true (length dim == 2) (has_both dim (codes "blockLength") (codes "numInGroup")) exact in
    let counters = both_true (has_counter dim (codes "blockLength")) (has_counter dim (codes "numInGroup")) two.1 in
    let placed = placed_members dim order.within.placed in
    let kinds = (made_members 0 dim order.parts).kinds in
    record {
      holds = λ count admitted.
          hold_exactly (dimension_numbers wide count) (codes "blockLength" ∷ (codes "numInGroup" ∷ [])) dim ((Decides-eqb (length dim) 2).0 two.0) (((λ e. cc), tt), (tt, tt)) placed
          (counters.0, (counters.1, tt)) (held, (spot_holds 0 (codes "numInGroup") dim count kinds admitted, tt));
      block = (measured.block.0, measured.block.1);
      few = λ count admitted.
          let spot = measured.count.0 in
          let leaf = spot_leaf 0 (codes "numInGroup") dim spot kinds measured.count.1 in
          let within : admits spot.leaf (pos count) ≡ true = sym (ap (λ o. option_map_or (λ s. admits s.leaf (pos count)) o false) measured.count.1) ∙ admitted in
          small_below spot.leaf.prim count measured.count.2.small (admitted_number 0 spot.leaf leaf (pos count) within);
    }

-- ---- a header

-- a header's members hold the numbers of a message
pub record HeaderHolds (schema : WireSchema) (level : Level) : Type 0 where
  pub block : holds schema.header.members (codes "blockLength") (out-Level level).block_length ≡ true
  pub template : holds schema.header.members (codes "templateId") (out-Level level).id ≡ true
  pub id : holds schema.header.members (codes "schemaId") schema.id ≡ true
  pub version : holds schema.header.members (codes "version") schema.version ≡ true

pub header_writable : (schema : WireSchema) (level : Level) → is_header schema.header.members ≡ true → IsCompositeInOrder (Comp schema.header.members) → HeaderHolds schema level →
    HoldNumbers (header_numbers schema level) 0 schema.header.members
header_writable schema level exact order held =
    let ms = schema.header.members in
    let two = both_true (length ms == 4) (has_both ms (codes "blockLength") (codes "templateId") && has_both ms (codes "schemaId") (codes "version")) exact in
    let pairs = both_true (has_both ms (codes "blockLength") (codes "templateId")) (has_both ms (codes "schemaId") (codes "version")) two.1 in
    let first = both_true (has_counter ms (codes "blockLength")) (has_counter ms (codes "templateId")) pairs.0 in
    let last = both_true (has_counter ms (codes "schemaId")) (has_counter ms (codes "version")) pairs.1 in
    hold_exactly (header_numbers schema level) (codes "blockLength" ∷ (codes "templateId" ∷ (codes "schemaId" ∷ (codes "version" ∷ [])))) ms ((Decides-eqb (length ms) 4).0 two.0)
    (((λ e. cc), ((λ e. cc), ((λ e. cc), tt))), (((λ e. cc), ((λ e. cc), tt)), (((λ e. cc), tt), (tt, tt))))
    (placed_members ms order.within.placed)
    (first.0, (first.1, (last.0, (last.1, tt)))) (held.block, (held.template, (held.id, (held.version, tt))))
