-- A number of entries that is admitted is one of four bytes.
use Rattle.std.proofs.Common.{◌≡◌, ◌<◌, ◌^◌, ℕ, Bool, true, false, cond, List, [], ◌∷◌, Option, Some, None, ℤ, pos, refl, sym, ap, ◌∙◌, subst, arith}
use Rattle.std.specs.Prelude.{◌&&◌, slice_get, int_le, codes}
use Rattle.std.specs.Option.{option_and_then, option_map_or}
use Rattle.std.specs.List.{AllByRecursion}
use Rattle.std.specs.Str.{bytes_eq}
use Rattle.std.proofs.lemmas.Bool.Decides.{nat_tests}
use Rattle.std.proofs.lemmas.Int.{ints}
use Rattle.sbe_types.specs.declared.kind.Kind.{Kind, Leaf, Enum, Set, Const, Comp, Comp'}
use Rattle.sbe_types.specs.declared.kind.Member.{Member}
use Rattle.sbe_types.specs.declared.kind.Primitive.{Primitive}
use Rattle.sbe_types.specs.declared.kind.Primitive.TheVariants.{Char, I8, I16, I32, I64, U8, U16, U32, U64}
use Rattle.sbe_types.specs.declared.schema.WireSchema.{WireSchema}
use Rattle.sbe_types.specs.Places.{begin_of, end_past}
use Rattle.sbe_types.specs.Shown.{admits}
use Rattle.sbe_wire.specs.Named.{Spot, spot_of, spot_named, is_admitted}
use Rattle.schema_rules.specs.Ranges.{is_number_of}
use Rattle.schema_facts.specs.CheckedLevels.{HasKinds, HasDimensionKind}
use Rattle.schema_facts.specs.InOrder.{IsKindFrom, IsLeafFrom, IsCompositeInOrder}
use Rattle.schema_facts.specs.IsChecked.{IsChecked}
use Rattle.schema_facts.specs.Levels.{Node, all_nodes}
use Rattle.schema_facts.specs.Measured.{IsSmall}
use Rattle.schema_facts.proofs.KindLists.{made_members}
use Rattle.layout_tables.specs.Parts.{dim_at}
use Rattle.layout_tables.specs.declared.rows.DimRow.{DimRow}
use Rattle.layout_tables.specs.Rowed.{DimIs}
use Rattle.var_data.proofs.DataRows.{at_each}

some_is : {A : Type 0} {x y : A} → ◌≡◌ {A = Option A} (Some x) (Some y) → x ≡ y
some_is h = cc

pub below : (prim : Primitive) (n : ℕ) (high : ℤ) → IsSmall prim → is_number_of prim high ≡ true → int_le (pos n) high ≡ true → n < 2 ^ 32
below U8 n high small h k = grind (arith, ints, nat_tests, h, k)
below U16 n high small h k = grind (arith, ints, nat_tests, h, k)
below U32 n high small h k = grind (arith, ints, nat_tests, h, k)
below U64 n high small h k = absurd small
below Char n high small h k = absurd small
below I8 n high small h k = absurd small
below I16 n high small h k = absurd small
below I32 n high small h k = absurd small
below I64 n high small h k = absurd small

second : (a b : Bool) → (a && b) ≡ true → b ≡ true
second true true h = refl
second true false h = absurd cc
second false true h = refl
second false false h = absurd cc

leaf_of : (place : ℕ) (kind : Kind) (spot : Spot) → IsKindFrom 0 kind → spot_of place kind ≡ Some spot → IsLeafFrom 0 spot.leaf
leaf_of place (Leaf l) spot h is = subst (λ (s : Spot). IsLeafFrom 0 s.leaf) (some_is is) h
leaf_of place (Enum l names) spot h is = absurd cc
leaf_of place (Set p names) spot h is = absurd cc
leaf_of place (Const c) spot h is = absurd cc
leaf_of place (Comp' n members) spot h is = absurd cc

first_named : (t : Bool) (place : ℕ) (kind : Kind) (rest : Option Spot) (spot : Spot) → IsKindFrom 0 kind → (rest ≡ Some spot → IsLeafFrom 0 spot.leaf) → cond t (spot_of place kind) rest ≡ Some spot → IsLeafFrom 0 spot.leaf
first_named true place kind rest spot h f is = leaf_of place kind spot h is
first_named false place kind rest spot h f is = f is

leaf_named : (e : ℕ) (name : List ℕ) (ms : List Member) (spot : Spot) → AllByRecursion (λ (m : Member). IsKindFrom 0 m.kind) ms → spot_named e name ms ≡ Some spot → IsLeafFrom 0 spot.leaf
leaf_named e name [] spot h is = absurd cc
leaf_named e name (m ∷ ms) spot h is =
    first_named (bytes_eq m.name name) (begin_of e m.offset) m.kind (spot_named (end_past e m.offset m.kind) name ms) spot h.0 (λ k. leaf_named (end_past e m.offset m.kind) name ms spot h.1 k) is

dim_order : (o : Option Node) (dim : List Member) → option_and_then (λ (x : Node). x.dim) o ≡ Some dim → (this : Node) × (o ≡ Some this) × (this.dim ≡ Some dim)
dim_order None dim h = absurd cc
dim_order (Some this) dim h = (this, refl, h)

pub count_small : (schema : WireSchema) (n many : ℕ) (spot : DimRow) (dim : List Member) → IsChecked schema → dim_at schema n ≡ Some dim → DimIs spot dim → is_admitted dim (codes "numInGroup") many ≡ true → many < 2 ^ 32
count_small schema n many spot dim h at row admitted =
    let this = dim_order (slice_get (all_nodes schema) n) dim at in
    let kinds : HasKinds this.0 = at_each HasKinds (all_nodes schema) n this.0 h.kinds.levels this.1 in
    let order : IsCompositeInOrder (Comp dim) = subst HasDimensionKind this.2 kinds.dim in
    let leaf = leaf_named 0 (codes "numInGroup") dim _ (made_members 0 dim order.parts).kinds row.count.named in
    let told : admits spot.count.leaf (pos many) ≡ true = sym (ap (λ o. option_map_or (λ (s : Spot). admits s.leaf (pos many)) o false) row.count.named) ∙ admitted in
    below spot.count.leaf.prim many spot.count.leaf.high row.count.counts.small leaf.high (second (int_le spot.count.leaf.low (pos many)) (int_le (pos many) spot.count.leaf.high) told)
