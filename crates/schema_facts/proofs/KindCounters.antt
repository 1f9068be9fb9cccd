-- Headers and dimensions have their numbers, and data its length.
use Rattle.std.proofs.Common.{◌≡◌, ℕ, ◌+◌, ◌*◌, Bool, true, false, List, [], ◌∷◌, length, Option, Some, None, refl, ap, sym, subst, ◌∙◌, arith, eqb-true, inl, inr}
use Rattle.std.specs.Prelude.{◌⊎◌, ◌==◌, ◌&&◌, ◌||◌, codes, unwrap_or, if◌then◌else◌}
use Rattle.std.specs.List.{AllByRecursion, IsDistinct}
use Rattle.std.specs.Str.{bytes_eq}
use Rattle.std.proofs.lemmas.Slice.Eq.{bytes_eq-Decides}
use Rattle.std.proofs.lemmas.Map.Keys.{IsDistinct-head, IsDistinct-tail}
use Rattle.std.proofs.lemmas.Map.Made.{IsDistinct-from_AllPairs}
use Rattle.sbe_types.specs.Numbers.{prim_width}
use Rattle.sbe_types.specs.Places.{begin_of, end_past, members_end}
use Rattle.sbe_types.specs.declared.kind.Primitive.{Primitive}
use Rattle.sbe_types.specs.declared.kind.Primitive.TheVariants.{Char, I8, I16, I32, I64, U8, U16, U32, U64}
use Rattle.sbe_types.specs.declared.kind.Leaf.{Leaf as LeafOf}
use Rattle.sbe_types.specs.declared.kind.Kind.{Kind, Leaf, Enum, Set, Const, Comp, Comp'}
use Rattle.sbe_types.specs.declared.kind.Member.{Member}
use Rattle.sbe_types.specs.declared.tree.TypesItem.{TypesItem}
use Rattle.sbe_wire.specs.Named.{Spot, spot_of, spot_named}
use Rattle.schema_rules.specs.Counters.{is_counter_primitive, leaf_in, is_counter, has_counter, has_both, is_header, is_dimension, is_body_primitive, are_length_and_body, is_data}
use Rattle.schema_rules.specs.Kinds.{members_named}
use Rattle.schema_rules.specs.Resolved.{no_length, length_in}
use Rattle.schema_facts.specs.Measured.{IsNarrow, IsSmall, IsCounter, HasCounter, IsDimension, IsHeader}
use Rattle.schema_facts.specs.InOrder.{AreAccepted, IsKindFrom, IsLengthInOrder}
use Rattle.schema_facts.proofs.KindNumbers.{both_true}
use Rattle.schema_facts.proofs.KindLists.{PlacedList, names_of, KindsList}
use Rattle.schema_facts.proofs.KindPlaces.{ends_grow, members_fits}
use Rattle.schema_facts.proofs.KindFits.{members_fit}
use Rattle.schema_facts.proofs.KindMade.{members_made}

-- ---- a counter

-- the primitive of a counter has at most four bytes
pub small_primitive : (prim : Primitive) → is_counter_primitive prim ≡ true → IsSmall prim
small_primitive U8 h = tt
small_primitive U16 h = tt
small_primitive U32 h = tt
small_primitive U64 h = cc
small_primitive Char h = cc
small_primitive I8 h = cc
small_primitive I16 h = cc
small_primitive I32 h = cc
small_primitive I64 h = cc

-- a kind that is a counter
record CounterOf (kind : Kind) : Type 0 where
  leaf : LeafOf
  is : kind ≡ Leaf leaf
  small : IsSmall leaf.prim
  single : leaf.length ≡ 1

counter_of : (kind : Kind) → is_counter (leaf_in kind) ≡ true → CounterOf kind
counter_of (Leaf l) h =
    let parts = both_true (is_counter_primitive l.prim) (l.length == 1) h in
    record { leaf = l; is = refl; small = small_primitive l.prim parts.0; single = eqb-true l.length 1 parts.1 }
counter_of (Enum l names) h = cc
counter_of (Set p names) h = cc
counter_of (Const c) h = cc
counter_of (Comp' n row) h = cc

-- ---- the spot of a counter

-- the members after e have a counter of that name
abbrev HasFrom : ℕ → List ℕ → List Member → Type 0
HasFrom e name ms = (spot : Spot) × (spot_named e name ms ≡ Some spot) × IsCounter (members_end e ms) spot

choose : (b : Bool) (x y : Option Spot) → b ≡ true → (if b then x else y) ≡ x
choose true x y h = refl
choose false x y h = cc

pass_over : (b : Bool) (x y : Option Spot) → b ≡ false → (if b then x else y) ≡ y
pass_over true x y h = cc
pass_over false x y h = refl

ends_at : (b n w : ℕ) → n ≡ 1 → b + w * n ≡ b + w
ends_at b n w h = grind arith

here : (name : List ℕ) (m : Member) (ms : List Member) (e : ℕ) → PlacedList e (m ∷ ms) → bytes_eq m.name name ≡ true → CounterOf m.kind → HasFrom e name (m ∷ ms)
here name m ms e placed same counter =
    let spot : Spot = record { place = begin_of e m.offset; leaf = counter.leaf } in
    let later = spot_named (end_past e m.offset m.kind) name ms in
    let found = choose (bytes_eq m.name name) (spot_of (begin_of e m.offset) m.kind) later same ∙ ap (spot_of (begin_of e m.offset)) counter.is in
    let end : end_past e m.offset m.kind ≡ begin_of e m.offset + prim_width counter.leaf.prim * counter.leaf.length = ap (end_past e m.offset) counter.is in
    let one = ends_at (begin_of e m.offset) counter.leaf.length (prim_width counter.leaf.prim) counter.single in
    let grows = ends_grow ms (end_past e m.offset m.kind) placed.2 in
    (spot, found, record { small = counter.small; inside = omega (arith, end, one, grows) })

first_or_later : (b c later : Bool) → (b && c) || later ≡ true → ((b ≡ true) × (c ≡ true)) ⊎ (later ≡ true)
first_or_later true true later h = inl (refl, refl)
first_or_later true false later h = inr h
first_or_later false c later h = inr h

both_false : (b c later : Bool) → b ≡ false → later ≡ false → (b && c) || later ≡ false
both_false true c later h k = cc
both_false false c later h k = k

-- no member after has the name of one before it
none_later : (name : List ℕ) (ms : List Member) → AllByRecursion (λ y. bytes_eq name y ≡ false) (names_of ms) → has_counter ms name ≡ false
none_later name [] h = refl
none_later name (m ∷ ms) h = both_false (bytes_eq name m.name) (is_counter (leaf_in m.kind)) (has_counter ms name) h.0 (none_later name ms h.1)

counter_behind : (name : List ℕ) (m : Member) (ms : List Member) (e : ℕ) (b : Bool) → bytes_eq m.name name ≡ b →
    IsDistinct bytes_eq (names_of (m ∷ ms)) → has_counter ms name ≡ true → HasFrom (end_past e m.offset m.kind) name ms → HasFrom e name (m ∷ ms)
counter_behind name m ms e true same apart later found =
    let equal = (bytes_eq-Decides m.name name).0 same in
    let head = IsDistinct-head bytes_eq m.name (names_of ms) apart in
    let none = none_later name ms (subst (λ (x : List ℕ). AllByRecursion (λ y. bytes_eq x y ≡ false) (names_of ms)) equal head) in
    cc
counter_behind name m ms e false same apart later found =
    (found.0, pass_over (bytes_eq m.name name) (spot_of (begin_of e m.offset) m.kind) (spot_named (end_past e m.offset m.kind) name ms) same ∙ found.1, found.2)

counter_found : (name : List ℕ) (ms : List Member) (e : ℕ) → PlacedList e ms → IsDistinct bytes_eq (names_of ms) → has_counter ms name ≡ true → HasFrom e name ms
counter_found name [] e placed apart h = cc
counter_found name (m ∷ ms) e placed apart h =
    elim (first_or_later (bytes_eq name m.name) (is_counter (leaf_in m.kind)) (has_counter ms name) h) [
      | inl first ↦ here name m ms e placed ((bytes_eq-Decides m.name name).1 (sym ((bytes_eq-Decides name m.name).0 first.0))) (counter_of m.kind first.1)
      | inr later ↦ counter_behind name m ms e (bytes_eq m.name name) refl apart later
          (counter_found name ms (end_past e m.offset m.kind) placed.2 (IsDistinct-tail bytes_eq m.name (names_of ms) apart) later)
    ]

-- ---- headers, dimensions and data

-- members that lie one after another, under names that differ
record Parts (ms : List Member) : Type 0 where
  placed : PlacedList 0 ms
  apart : IsDistinct bytes_eq (names_of ms)

has_number : (ms : List Member) (name : List ℕ) → Parts ms → has_counter ms name ≡ true → HasCounter ms name
has_number ms name parts h = counter_found name ms 0 parts.placed parts.apart h

-- the leaf of a length
length_of : (kind : Kind) (body : Option LeafOf) (offset : Option ℕ) → IsKindFrom 0 kind → are_length_and_body (leaf_in kind) body offset ≡ true →
    IsLengthInOrder (unwrap_or (leaf_in kind) no_length)
length_of (Leaf l) None offset made h = cc
length_of (Leaf l) (Some b) offset made h =
    let rest = is_body_primitive b.prim && b.length == 0 && unwrap_or offset (prim_width l.prim) == prim_width l.prim in
    let counter = both_true (is_counter_primitive l.prim) (l.length == 1) (both_true (is_counter (Some l)) rest h).0 in
    let single = eqb-true l.length 1 counter.1 in
    record {
      leaf = record { null = made.null; low = made.low; high = made.high; range = made.range; least = omega arith; most = made.most; shape = made.shape; presence = made.presence };
      single = single;
      small = small_primitive l.prim counter.0;
    }
length_of (Enum l names) body offset made h = cc
length_of (Set p names) body offset made h = cc
length_of (Const c) body offset made h = cc
length_of (Comp' n row) body offset made h = cc

length_found : (ms : List Member) → KindsList 0 ms → is_data ms ≡ true → IsLengthInOrder (length_in ms)
length_found [] made h = cc
length_found (m ∷ []) made h = cc
length_found (m ∷ (v ∷ [])) made h =
    let names = both_true (bytes_eq (codes "length") m.name && bytes_eq (codes "varData") v.name) (unwrap_or m.offset 0 == 0 && are_length_and_body (leaf_in m.kind) (leaf_in v.kind) v.offset) h in
    let body = both_true (unwrap_or m.offset 0 == 0) (are_length_and_body (leaf_in m.kind) (leaf_in v.kind) v.offset) names.1 in
    length_of m.kind (leaf_in v.kind) v.offset made.0 body.1
length_found (m ∷ (v ∷ (w ∷ ms))) made h = cc

both_numbers : (ms : List Member) (one other : List ℕ) → Parts ms → has_both ms one other ≡ true → HasCounter ms one × HasCounter ms other
both_numbers ms one other parts h =
    let each = both_true (has_counter ms one) (has_counter ms other) h in
    (has_number ms one parts each.0, has_number ms other parts each.1)

header_by : (ms : List Member) → IsNarrow (Comp ms) → Parts ms → is_header ms ≡ true → IsHeader ms
header_by ms narrow parts h =
    let four = both_true (length ms == 4) (has_both ms (codes "blockLength") (codes "templateId") && has_both ms (codes "schemaId") (codes "version")) h in
    let each = both_true (has_both ms (codes "blockLength") (codes "templateId")) (has_both ms (codes "schemaId") (codes "version")) four.1 in
    let first = both_numbers ms (codes "blockLength") (codes "templateId") parts each.0 in
    let second = both_numbers ms (codes "schemaId") (codes "version") parts each.1 in
    record { narrow = narrow; block = first.0; template = first.1; schema = second.0; version = second.1 }

dimension_by : (ms : List Member) → IsNarrow (Comp ms) → Parts ms → is_dimension ms ≡ true → IsDimension ms
dimension_by ms narrow parts h =
    let two = both_true (length ms == 2) (has_both ms (codes "blockLength") (codes "numInGroup")) h in
    let both = both_numbers ms (codes "blockLength") (codes "numInGroup") parts two.1 in
    record { narrow = narrow; block = both.0; count = both.1 }

module _ (types : List TypesItem) (accepted : AreAccepted types) (name : List ℕ) where
  parts_of : Parts (members_named types name)
  parts_of =
      record {
        placed = (members_fit types accepted name).each.placed;
        apart = IsDistinct-from_AllPairs {eq = bytes_eq} bytes_eq-Decides (names_of (members_named types name)) (members_made types accepted name).differ;
      }

  narrow_of : IsNarrow (Comp (members_named types name))
  narrow_of = (members_fits (members_named types name) (members_fit types accepted name)).narrow

  pub header_is : is_header (members_named types name) ≡ true → IsHeader (members_named types name)
  header_is h = header_by (members_named types name) narrow_of parts_of h

  pub dimension_is : is_dimension (members_named types name) ≡ true → IsDimension (members_named types name)
  dimension_is h = dimension_by (members_named types name) narrow_of parts_of h

  pub length_is : is_data (members_named types name) ≡ true → IsLengthInOrder (length_in (members_named types name))
  length_is h = length_found (members_named types name) (members_made types accepted name).kinds h
