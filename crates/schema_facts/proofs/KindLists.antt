-- A composite over the list of its members: its width, leaves and height are told by the list, and what is so of its row is
-- so of the list.
use Rattle.std.proofs.Common.{◌≡◌, ℕ, suc, ◌+◌, ◌≤◌, max, List, [], ◌∷◌, length, map, refl, ap, sym, subst, ◌∙◌, arith}
use Rattle.std.specs.Prelude.{◌≢◌, ⊤, AllPairs}
use Rattle.std.specs.List.{AllByRecursion}
use Rattle.std.proofs.lemmas.List.{length-map}
use Rattle.sbe_types.specs.InForm.{IsName}
use Rattle.sbe_types.specs.Places.{width, end_past}
use Rattle.sbe_types.specs.declared.kind.Kind.{Kind, Leaf, Enum, Set, Const, Comp, Comp', Row_of-Member, end_of-Member, more_of-Member, items-the_row-Member, items_hidden-the_row-Member-0}
use Rattle.sbe_types.specs.declared.kind.Member.{Member}
use Rattle.sbe_types.specs.declared.limits.TheConstants.{MEMBER_LIMIT}
use Rattle.sbe_wire.specs.Placed.{BeginsBehind, IsPlacedKind, IsPlacedRow}
use Rattle.sbe_types.proofs.KindRows.{row_in}
pub use Rattle.sbe_types.proofs.KindRows.{width_comp}
use Rattle.schema_facts.specs.Measured.{EndsWithin, IsNarrow, IsNarrowRow}
use Rattle.schema_facts.specs.InOrder.{leaves, leaves_in, height, height_of, names_in, IsKindFrom, AreKindsFrom}

-- ---- width, leaves and height

-- the leaves of members
abbrev pub list_leaves : List Member → ℕ
list_leaves [] = 0
list_leaves (m ∷ ms) = leaves m.kind + list_leaves ms

-- the greatest height of members
abbrev pub list_height : List Member → ℕ
list_height [] = 0
list_height (m ∷ ms) = max (height m.kind) (list_height ms)

leaves_row : (n : _) (row : Row_of-Member n) → leaves_in row ≡ list_leaves (items-the_row-Member n row)
leaves_row n end_of-Member = refl
leaves_row n (more_of-Member name offset kind rest) = ap (λ k. leaves kind + k) (leaves_row _ rest)

height_row : (n : _) (row : Row_of-Member n) → height_of row ≡ list_height (items-the_row-Member n row)
height_row n end_of-Member = refl
height_row n (more_of-Member name offset kind rest) = ap (max (height kind)) (height_row _ rest)

pub leaves_comp : (ms : List Member) → leaves (Comp ms) ≡ list_leaves ms
leaves_comp ms = let row = row_in (Comp ms) in leaves_row row.0 row.1 ∙ ap list_leaves (items_hidden-the_row-Member-0 ms)

pub height_comp : (ms : List Member) → height (Comp ms) ≡ suc (list_height ms)
height_comp ms = let row = row_in (Comp ms) in ap suc (height_row row.0 row.1 ∙ ap list_height (items_hidden-the_row-Member-0 ms))

-- ---- no leaf is empty

abbrev mutual
  -- no leaf of the kind is empty
  pub IsFull : Kind → Type 0
  IsFull (Leaf l) = 1 ≤ l.length
  IsFull (Enum l names) = ⊤
  IsFull (Set p names) = ⊤
  IsFull (Const c) = ⊤
  IsFull (Comp' n members) = IsFullRow members

  -- nor of the kinds of members
  pub IsFullRow : {n : _} → Row_of-Member n → Type 0
  IsFullRow end_of-Member = ⊤
  IsFullRow (more_of-Member name offset kind rest) = IsFull kind × IsFullRow rest

-- no leaf of members is empty
abbrev pub AreFull : List Member → Type 0
AreFull ms = AllByRecursion (λ (m : Member). IsFull m.kind) ms

full_row : (n : _) (row : Row_of-Member n) → AreFull (items-the_row-Member n row) → IsFullRow row
full_row n end_of-Member h = tt
full_row n (more_of-Member name offset kind rest) h = (h.0, full_row _ rest h.1)

full_list : (n : _) (row : Row_of-Member n) → IsFullRow row → AreFull (items-the_row-Member n row)
full_list n end_of-Member h = tt
full_list n (more_of-Member name offset kind rest) h = (h.0, full_list _ rest h.1)

pub full_comp : (ms : List Member) → AreFull ms → IsFull (Comp ms)
full_comp ms h = let row = row_in (Comp ms) in full_row row.0 row.1 (subst AreFull (sym (items_hidden-the_row-Member-0 ms)) h)

pub full_members : (ms : List Member) → IsFull (Comp ms) → AreFull ms
full_members ms h = let row = row_in (Comp ms) in subst AreFull (items_hidden-the_row-Member-0 ms) (full_list row.0 row.1 h)

-- ---- places

-- members after e lie one after another
abbrev pub PlacedList : ℕ → List Member → Type 0
PlacedList e [] = ⊤
PlacedList e (m ∷ ms) = BeginsBehind e m.offset m.kind × IsPlacedKind m.kind × PlacedList (end_past e m.offset m.kind) ms

placed_row : (n : _) (row : Row_of-Member n) (e : ℕ) → PlacedList e (items-the_row-Member n row) → IsPlacedRow e row
placed_row n end_of-Member e h = tt
placed_row n (more_of-Member name offset kind rest) e h = (h.0, h.1, placed_row _ rest (end_past e offset kind) h.2)

placed_list : (n : _) (row : Row_of-Member n) (e : ℕ) → IsPlacedRow e row → PlacedList e (items-the_row-Member n row)
placed_list n end_of-Member e h = tt
placed_list n (more_of-Member name offset kind rest) e h = (h.0, h.1, placed_list _ rest (end_past e offset kind) h.2)

pub placed_comp : (ms : List Member) → PlacedList 0 ms → IsPlacedKind (Comp ms)
placed_comp ms h = let row = row_in (Comp ms) in placed_row row.0 row.1 0 (subst (PlacedList 0) (sym (items_hidden-the_row-Member-0 ms)) h)

pub placed_members : (ms : List Member) → IsPlacedKind (Comp ms) → PlacedList 0 ms
placed_members ms h = let row = row_in (Comp ms) in subst (PlacedList 0) (items_hidden-the_row-Member-0 ms) (placed_list row.0 row.1 0 h)

-- members after e end within the largest place
abbrev pub NarrowList : ℕ → List Member → Type 0
NarrowList e [] = ⊤
NarrowList e (m ∷ ms) = IsNarrow m.kind × EndsWithin e m.offset m.kind × NarrowList (end_past e m.offset m.kind) ms

narrow_row : (n : _) (row : Row_of-Member n) (e : ℕ) → NarrowList e (items-the_row-Member n row) → IsNarrowRow e row
narrow_row n end_of-Member e h = tt
narrow_row n (more_of-Member name offset kind rest) e h = (h.0, h.1, narrow_row _ rest (end_past e offset kind) h.2)

narrow_list : (n : _) (row : Row_of-Member n) (e : ℕ) → IsNarrowRow e row → NarrowList e (items-the_row-Member n row)
narrow_list n end_of-Member e h = tt
narrow_list n (more_of-Member name offset kind rest) e h = (h.0, h.1, narrow_list _ rest (end_past e offset kind) h.2)

pub narrow_comp : (ms : List Member) → NarrowList 0 ms → IsNarrow (Comp ms)
narrow_comp ms h = let row = row_in (Comp ms) in narrow_row row.0 row.1 0 (subst (NarrowList 0) (sym (items_hidden-the_row-Member-0 ms)) h)

pub narrow_members : (ms : List Member) → IsNarrow (Comp ms) → NarrowList 0 ms
narrow_members ms h = let row = row_in (Comp ms) in subst (NarrowList 0) (items_hidden-the_row-Member-0 ms) (narrow_list row.0 row.1 0 h)

-- ---- parts

-- the names of members
abbrev pub names_of : List Member → List (List ℕ)
names_of ms = map (λ (m : Member). m.name) ms

-- each of the kinds of members is in order
abbrev pub KindsList : ℕ → List Member → Type 0
KindsList least ms = AllByRecursion (λ (m : Member). IsKindFrom least m.kind) ms

-- members of which each part is in order
pub record MadeOf (least : ℕ) (ms : List Member) : Type 0 where
  pub few : length ms ≤ MEMBER_LIMIT
  pub names : AllByRecursion IsName (names_of ms)
  pub differ : AllPairs (λ a b. a ≢ b) (names_of ms)
  pub kinds : KindsList least ms

names_row : (n : _) (row : Row_of-Member n) → names_of (items-the_row-Member n row) ≡ names_in row
names_row n end_of-Member = refl
names_row n (more_of-Member name offset kind rest) = ap (λ (names : List (List ℕ)). name ∷ names) (names_row _ rest)

kinds_row : (least : ℕ) (n : _) (row : Row_of-Member n) → KindsList least (items-the_row-Member n row) → AreKindsFrom least row
kinds_row least n end_of-Member h = tt
kinds_row least n (more_of-Member name offset kind rest) h = (h.0, kinds_row least _ rest h.1)

kinds_list : (least : ℕ) (n : _) (row : Row_of-Member n) → AreKindsFrom least row → KindsList least (items-the_row-Member n row)
kinds_list least n end_of-Member h = tt
kinds_list least n (more_of-Member name offset kind rest) h = (h.0, kinds_list least _ rest h.1)

pub comp_made : (least : ℕ) (ms : List Member) → MadeOf least ms → IsKindFrom least (Comp ms)
comp_made least ms h =
    let row = row_in (Comp ms) in
    let same = ap names_of (sym (items_hidden-the_row-Member-0 ms)) ∙ names_row row.0 row.1 in
    let long : length (names_of ms) ≡ length ms = length-map ms (λ (m : Member). m.name) in
    record {
      few = omega (arith, h.few, long, ap length same);
      names = subst (AllByRecursion IsName) same h.names;
      names_differ = subst (AllPairs (λ a b. a ≢ b)) same h.differ;
      kinds = kinds_row least row.0 row.1 (subst (KindsList least) (sym (items_hidden-the_row-Member-0 ms)) h.kinds);
    }

pub made_members : (least : ℕ) (ms : List Member) → IsKindFrom least (Comp ms) → MadeOf least ms
made_members least ms h =
    let row = row_in (Comp ms) in
    let same = sym (names_row row.0 row.1) ∙ ap names_of (items_hidden-the_row-Member-0 ms) in
    let long : length (names_of ms) ≡ length ms = length-map ms (λ (m : Member). m.name) in
    record {
      few = omega (arith, h.few, long, ap length same);
      names = subst (AllByRecursion IsName) same h.names;
      differ = subst (AllPairs (λ a b. a ≢ b)) same h.names_differ;
      kinds = subst (KindsList least) (items_hidden-the_row-Member-0 ms) (kinds_list least row.0 row.1 h.kinds);
    }
