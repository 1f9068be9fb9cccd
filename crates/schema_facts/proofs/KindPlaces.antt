-- The parts of an accepted kind lie one after another, and end within the largest place.
use Rattle.std.proofs.Common.{◌≡◌, ℕ, ◌+◌, ◌*◌, ◌≤◌, Bool, true, false, List, [], ◌∷◌, Option, Some, None, refl, sym, subst, ◌∙◌, arith}
use Rattle.std.specs.Prelude.{◌&&◌, not, nat_lt, if◌then◌else◌}
use Rattle.std.specs.List.{AllByRecursion}
use Rattle.std.proofs.lemmas.Bool.{ltb-false}
use Rattle.sbe_types.specs.declared.limits.TheConstants.{PLACE_LIMIT, LENGTH_LIMIT}
use Rattle.sbe_types.specs.InForm.{IsWithin}
use Rattle.sbe_types.specs.Numbers.{prim_width}
use Rattle.sbe_types.specs.Places.{width, is_const, begin_of, end_past, members_end}
use Rattle.sbe_types.specs.declared.kind.Primitive.{Primitive}
use Rattle.sbe_types.specs.declared.kind.Primitive.TheVariants.{Char, I8, I16, I32, I64, U8, U16, U32, U64}
use Rattle.sbe_types.specs.declared.kind.Presence.{Presence}
use Rattle.sbe_types.specs.declared.kind.Presence.TheVariants.{Required, Optional, Constant}
use Rattle.sbe_types.specs.declared.kind.Kind.{Kind, Comp}
use Rattle.sbe_types.specs.declared.kind.Member.{Member}
use Rattle.sbe_types.specs.declared.tree.TypeEl.{TypeEl}
use Rattle.sbe_types.specs.declared.tree.EnumEl.{EnumEl}
use Rattle.sbe_types.specs.declared.tree.SetEl.{SetEl}
use Rattle.sbe_types.specs.declared.tree.TypesItem.{TypesItem}
use Rattle.sbe_wire.specs.Placed.{BeginsBehind, IsPlacedKind}
use Rattle.schema_rules.specs.declared.facts.Fact.{Fact}
use Rattle.schema_rules.specs.declared.encodings.Encoding.{Encoding}
use Rattle.schema_rules.specs.Names.{integral}
use Rattle.schema_rules.specs.Kinds.{Use, effective, type_over, type_in, type_kind, enum_over, enum_in, enum_kind, set_in, set_kind, encoding_named, composite_with, first_optional}
use Rattle.schema_rules.specs.Facts.{counted}
use Rattle.schema_rules.specs.CompositeRules.{begins_early, most_bytes}
use Rattle.schema_facts.specs.Measured.{largest, IsNarrow}
use Rattle.schema_facts.proofs.KindLists.{width_comp, PlacedList, placed_comp, NarrowList, narrow_comp}
use Rattle.schema_facts.proofs.KindOptional.{first_end, first_placed, narrow_first, with_is}
use Rattle.schema_facts.proofs.FactKinds.{Tells}

-- a kind whose parts lie one after another and end within the largest place
pub record Fits (kind : Kind) : Type 0 where
  pub placed : IsPlacedKind kind
  pub narrow : IsNarrow kind
  pub width : width kind ≤ PLACE_LIMIT

-- ---- placed members end within the place where the last ends

past_from : (fixed : Bool) (e b w : ℕ) → (fixed ≡ false → e ≤ b) → e ≤ (if fixed then e else b + w)
past_from true e b w h = omega arith
past_from false e b w h = let after = h refl in omega arith

pub ends_grow : (ms : List Member) (e : ℕ) → PlacedList e ms → e ≤ members_end e ms
ends_grow [] e h = omega arith
ends_grow (m ∷ ms) e h =
    let first = past_from (is_const m.kind) e (begin_of e m.offset) (width m.kind) h.0 in
    let later = ends_grow ms (end_past e m.offset m.kind) h.2 in
    omega (arith, first, later)

ends_within : (fixed : Bool) (e b w last : ℕ) → (if fixed then e else b + w) ≤ last → last ≤ largest → fixed ≡ false → b + w ≤ largest
ends_within true e b w last h small fixed = cc
ends_within false e b w last h small fixed = omega arith

narrow_by : (ms : List Member) (e : ℕ) → PlacedList e ms → AllByRecursion (λ (m : Member). IsNarrow m.kind) ms → members_end e ms ≤ largest → NarrowList e ms
narrow_by [] e placed each h = tt
narrow_by (m ∷ ms) e placed each h = (
  each.0,
  ends_within (is_const m.kind) e (begin_of e m.offset) (width m.kind) (members_end (end_past e m.offset m.kind) ms) (ends_grow ms (end_past e m.offset m.kind) placed.2) h,
  narrow_by ms (end_past e m.offset m.kind) placed.2 each.1 h,
)

-- members after e, each of which fits
pub record FitsList (e : ℕ) (ms : List Member) : Type 0 where
  pub placed : PlacedList e ms
  pub narrow : AllByRecursion (λ (m : Member). IsNarrow m.kind) ms

pub comp_fits : (ms : List Member) → FitsList 0 ms → members_end 0 ms ≤ PLACE_LIMIT → Fits (Comp ms)
comp_fits ms each small =
    record {
      placed = placed_comp ms each.placed;
      narrow = narrow_comp ms (narrow_by ms 0 each.placed each.narrow small);
      width = subst (λ (n : ℕ). n ≤ PLACE_LIMIT) (sym (width_comp ms)) small;
    }

first_fits : (ms : List Member) → FitsList 0 ms → FitsList 0 (first_optional ms)
first_fits [] h = h
first_fits (m ∷ ms) h = record { placed = first_placed (m ∷ ms) h.placed; narrow = (narrow_first m h.narrow.0, h.narrow.1) }

-- members of a composite that fits
pub record FitsMembers (ms : List Member) : Type 0 where
  pub each : FitsList 0 ms
  pub width : members_end 0 ms ≤ PLACE_LIMIT

first_fit : (ms : List Member) → FitsMembers ms → FitsMembers (first_optional ms)
first_fit ms h = record { each = first_fits ms h.each; width = subst (λ (n : ℕ). n ≤ PLACE_LIMIT) (sym (first_end ms)) h.width }

pub members_fits : (ms : List Member) → FitsMembers ms → Fits (Comp ms)
members_fits ms h = comp_fits ms h.each h.width

pub with_fits : (presence : Option Presence) (ms : List Member) → FitsMembers ms → Fits (composite_with presence ms)
with_fits = with_is FitsMembers first_fit Fits members_fits

-- ---- kinds that are no composites

few_bytes : (prim : Primitive) → prim_width prim ≤ 8
few_bytes Char = omega arith
few_bytes I8 = omega arith
few_bytes I16 = omega arith
few_bytes I32 = omega arith
few_bytes I64 = omega arith
few_bytes U8 = omega arith
few_bytes U16 = omega arith
few_bytes U32 = omega arith
few_bytes U64 = omega arith

leaf_small : (bytes n : ℕ) → bytes ≤ 8 → n ≤ LENGTH_LIMIT → bytes * n ≤ PLACE_LIMIT
leaf_small bytes n few h = grind arith

type_by : (types : List TypesItem) (own : Use) (t : TypeEl) (prim : Primitive) (p : Presence) → t.length ≤ LENGTH_LIMIT → Fits (type_over types own t prim p)
type_by types own t prim Required h = let small = leaf_small (prim_width prim) t.length (few_bytes prim) h in record { placed = tt; narrow = small; width = small }
type_by types own t prim Optional h = let small = leaf_small (prim_width prim) t.length (few_bytes prim) h in record { placed = tt; narrow = small; width = small }
type_by types own t prim Constant h = record { placed = tt; narrow = tt; width = omega arith }

type_found : (types : List TypesItem) (own : Use) (t : TypeEl) (o : Option Primitive) → t.length ≤ LENGTH_LIMIT → Fits (type_in types own t o)
type_found types own t None h = record { placed = tt; narrow = tt; width = omega arith }
type_found types own t (Some prim) h = type_by types own t prim (effective own.presence t.presence) h

pub type_fits : (types : List TypesItem) (own : Use) (t : TypeEl) → t.length ≤ LENGTH_LIMIT → Fits (type_kind types own t)
type_fits types own t h = type_found types own t (integral t.primitive_type) h

prim_small : (prim : Primitive) → prim_width prim ≤ PLACE_LIMIT
prim_small prim = let few = few_bytes prim in omega arith

enum_by : (types : List TypesItem) (own : Use) (e : EnumEl) (encoding : Encoding) (p : Presence) → Fits (enum_over types own e encoding p)
enum_by types own e encoding Required = record { placed = tt; narrow = tt; width = prim_small encoding.leaf.prim }
enum_by types own e encoding Optional = record { placed = tt; narrow = tt; width = prim_small encoding.leaf.prim }
enum_by types own e encoding Constant = record { placed = tt; narrow = tt; width = omega arith }

enum_found : (types : List TypesItem) (own : Use) (e : EnumEl) (o : Option Encoding) → Fits (enum_in types own e o)
enum_found types own e None = record { placed = tt; narrow = tt; width = omega arith }
enum_found types own e (Some encoding) = enum_by types own e encoding (effective own.presence encoding.presence)

pub enum_fits : (types : List TypesItem) (own : Use) (e : EnumEl) → Fits (enum_kind types own e)
enum_fits types own e = enum_found types own e (encoding_named types e.encoding_type)

set_found : (s : SetEl) (o : Option Encoding) → Fits (set_in s o)
set_found s None = record { placed = tt; narrow = tt; width = omega arith }
set_found s (Some encoding) = record { placed = tt; narrow = tt; width = prim_small encoding.leaf.prim }

pub set_fits : (types : List TypesItem) (s : SetEl) → Fits (set_kind types s)
set_fits types s = set_found s (encoding_named types s.encoding_type)

-- ---- a member begins after those before it

reached_is : (r e b : ℕ) → counted r ≡ counted e → b ≤ PLACE_LIMIT → r ≤ b → e ≤ b
reached_is r e b h small le = omega arith

begins : (fixed : Bool) (r e b : ℕ) → counted r ≡ counted e → b ≤ PLACE_LIMIT → not fixed && nat_lt b r ≡ false → fixed ≡ false → e ≤ b
begins true r e b h small early f = cc
begins false r e b h small early f = reached_is r e b h small (ltb-false b r early)

pub begins_behind : (r e : ℕ) (offset : Option ℕ) (fact : Fact) (kind : Kind) → counted r ≡ counted e → Tells fact kind → IsWithin offset →
    begins_early r offset fact ≡ false → BeginsBehind e offset kind
begins_behind r e None fact kind h tells small early = λ f. omega arith
begins_behind r e (Some b) fact kind h tells small early = λ f. begins fact.is_fixed r e b h small early (tells.fixed ∙ f)

pub small_is : (w v : ℕ) → counted w ≡ counted v → nat_lt most_bytes w ≡ false → v ≤ PLACE_LIMIT
small_is w v h small = let le = ltb-false most_bytes w small in omega arith
