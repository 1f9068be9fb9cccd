-- What the bytes of a field show, in a block that lies at a place of the body.
use Rattle.std.proofs.Common.{◌≡◌, ◌≤◌, ◌<◌, ◌+◌, ◌-◌, ℕ, zero, suc, Bool, true, false, cond, List, [], ◌∷◌, length, take, drop, Option, Some, None, Result, Ok, Err, refl, sym, ap, ◌∙◌, subst, arith, length-take, length-drop}
use Rattle.std.specs.Prelude.{slice_get, map, nat_le}
use Rattle.std.specs.Bool.{MatchBool}
use Rattle.std.proofs.lemmas.Bool.{le-leb}
use Rattle.std.specs.Option.{option_map, option_and_then, IsSome}
use Rattle.sbe_types.specs.declared.kind.Kind.{Kind, Leaf, Enum, Set, Const, Comp, Comp'}
use Rattle.sbe_types.specs.declared.kind.Member.{Member}
use Rattle.sbe_types.specs.declared.kind.Order.{Order}
use Rattle.sbe_types.specs.declared.schema.Field.{Field}
use Rattle.sbe_types.specs.declared.message.Block.{Block, out-Block}
use Rattle.sbe_types.specs.declared.message.Value.{Value}
use Rattle.sbe_types.specs.declared.message.Value.TheVariants as value
use Rattle.sbe_types.specs.Places.{width, is_const, begin_of, end_past, members_end, member_place, field_place, bytes_at}
use Rattle.sbe_types.specs.Shows.{Shows}
use Rattle.sbe_wire.specs.declared.mode.Mode.{Mode}
use Rattle.sbe_wire.specs.Faults.{Fault}
use Rattle.sbe_wire.specs.Lays.{FieldsLay}
use Rattle.sbe_wire.specs.Reading.{Reader, and_then, and_check, nothing, fields_read, Tail, block_of as block_made, entry_read}
use Rattle.sbe_wire.specs.Versions.{is_alive}
use Rattle.sbe_wire.proofs.Blocks.{fields_judges}
use Rattle.sbe_wire.proofs.Combine.{ok_is, bind_ok, later_ok}
use Rattle.sbe_wire.proofs.PlaceLemmas.{each_from}
use Rattle.schema_facts.specs.InOrder.{IsKindInOrder}
use Rattle.schema_facts.proofs.KindLists.{PlacedList, placed_members, width_comp}
use Rattle.schema_facts.proofs.KindMembers.{members_kinds}
use Rattle.var_data.proofs.DataRows.{at_each}
use Rattle.layout_tables.specs.declared.rows.FieldRow.{FieldRow}
use Rattle.field_values.specs.Reports.{all_elements, elements_in}
use Rattle.flyweight_view.specs.declared.plan.Plan.{Plan}
use Rattle.flyweight_view.specs.declared.plan.Slot.{Slot}
use Rattle.flyweight_view.specs.declared.plan.Span.{Span}
use Rattle.body_walk.specs.inner.Fields.{IsFieldRow, AreFieldRows}
use Rattle.flyweight_view.specs.inner.Planned.{fields_of, tail_of, block_of, planned_block, values_at, bytes_of, IsPlannedBlock, IsMembersPlan}
use Rattle.flyweight_view.specs.TypedBlocks.{member_field}
use Rattle.flyweight_view.specs.inner.Slots.{SlotIs, SlotShows}
use Rattle.body_walk.proofs.MembersReady.{ends_behind}

-- ---- a block that is read

step_ok : {X Y : Type 0} (b : List ℕ) (r : Result (X × List ℕ) Fault) (q : X → Reader Y) (y : Y × List ℕ) → and_then b r q ≡ Ok y → (p : X × List ℕ) × (r ≡ Ok p) × (q p.0 p.1 ≡ Ok y)
step_ok b (Err f) q y h = cc
step_ok b (Ok p) q y h = (p, refl, later_ok (length b - length p.1) (q p.0 p.1) y h)

judged_bytes : {X : Type 0} (t : Bool) (k : ℕ) (b : List ℕ) (q : List ℕ → Result X Fault) (f : Fault) (x : X × List ℕ) → and_check q (cond t (Ok (take k b, drop k b)) (Err f)) ≡ Ok x → q (take k b) ≡ Ok x.0
judged_bytes true k b q f x h =
    let found = bind_ok (q (take k b)) _ x h in
    found.1 ∙ ap Ok (ap (λ z. z.0) (ok_is found.2))
judged_bytes false k b q f x h = cc

-- the fields of an entry that is read
entry_fields : (tail : Reader Tail) (mode : Mode) (fields : List Field) (k : ℕ) (b : List ℕ) (r : Block × List ℕ) → entry_read tail mode fields k b ≡ Ok r →
    fields_read mode 0 0 fields (take k b) ≡ Ok (out-Block r.0).fields
entry_fields tail mode fields k b r h =
    let one = step_ok b _ _ r h in
    let two = step_ok one.0.1 (tail one.0.1) (λ t. nothing (block_made one.0.0 t)) r one.2 in
    let block : block_made one.0.0 two.0.0 ≡ r.0 = ap (λ (z : Block × List ℕ). z.0) (ok_is two.2) in
    let read = judged_bytes (nat_le k (length b)) k b (fields_read mode 0 0 fields) _ one.0 one.1 in
    read ∙ ap (λ (x : Block). Ok (out-Block x).fields) block

module _ (s : Span) (p : Plan) (seen : IsPlannedBlock s p) where
  pub long_bytes : length (bytes_of s) ≡ s.size
  long_bytes = let near = seen.near in simp (length-take, length-drop) (omega arith)

  pub fields_lie : FieldsLay s.mode 0 (fields_of p) (values_at s p) (bytes_of s)
  fields_lie =
      let read = entry_fields (tail_of s.mode p) s.mode (fields_of p) s.size (drop s.at s.body.now) (block_of (planned_block s p), seen.reads.0) seen.reads.1 in
      (fields_judges s.mode 0 0 0 (fields_of p) (omega arith) seen.placed).sound (bytes_of s) (values_at s p) (omega (arith, seen.reaches, long_bytes)) read

  item_there : {X : Type 0} (xs : List X) (i : ℕ) → i < length xs → (x : X) × (slice_get xs i ≡ Some x)
  item_there [] i h = absurd (omega (arith, h))
  item_there (x ∷ xs) zero h = (x, refl)
  item_there (x ∷ xs) (suc i) h = item_there xs i (omega (arith, h))

  within : {X : Type 0} (xs : List X) (i : ℕ) (x : X) → slice_get xs i ≡ Some x → i < length xs
  within [] i x h = cc
  within (y ∷ xs) zero x h = omega arith
  within (y ∷ xs) (suc i) x h = let rest = within xs i x h in omega (arith, rest)

  -- the bytes at a field's place show the value
  abbrev ShownAt : ℕ → Field → Value → Type 0
  ShownAt i f v = Shows s.mode.order s.mode.known f.kind v (bytes_at (field_place 0 (fields_of p) i) (width f.kind) (bytes_of s))

  shown_by : (i : ℕ) (slot : Slot) (is : SlotIs s (fields_of p) i slot) (v : Value) → MatchBool (is_alive s.mode.version is.field.since) (ShownAt i is.field v) (v ≡ value.Absent) → slot.alive ≡ true →
      Shows s.mode.order s.mode.known slot.kind.now v slot.bytes.now
  shown_by i slot is v lies alive =
      let there : ShownAt i is.field v = subst (λ t. MatchBool t (ShownAt i is.field v) (v ≡ value.Absent)) (sym is.alive ∙ alive) lies in
      subst (λ b. Shows s.mode.order s.mode.known slot.kind.now v b) (sym (is.bytes alive))
      (subst (λ k. Shows s.mode.order s.mode.known k v (bytes_at (field_place 0 (fields_of p) i) (width is.field.kind) (bytes_of s))) (sym is.kind) there)

  -- the value of a field by its slot
  pub slot_value : (i : ℕ) (slot : Slot) → SlotIs s (fields_of p) i slot → (v : Value) × (slice_get (values_at s p) i ≡ Some v) × SlotShows s.mode slot v
  slot_value i slot is =
      let each = each_from s.mode (bytes_of s) 0 (fields_of p) (values_at s p) fields_lie in
      let found = item_there (values_at s p) i (omega (arith, each.0, within (fields_of p) i is.field is.there)) in
      let lies = each.1 i is.field found.0 is.there found.1 in (
        found.0,
        found.1,
        record {
          shows = λ alive. shown_by i slot is found.0 lies alive;
          dead = λ dead. subst (λ t. MatchBool t (ShownAt i is.field found.0) (found.0 ≡ value.Absent)) (sym is.alive ∙ dead) lies;
        },
      )

-- bytes that show a value are as many as the kind is wide
pub shows_wide : (order : Order) (known : Bool) (kind : Kind) (v : Value) (b : List ℕ) → Shows order known kind v b → length b ≡ width kind
shows_wide order known (Leaf l) v b h = h.0
shows_wide order known (Enum l names) v b h = h.0
shows_wide order known (Set p names) v b h = h.0
shows_wide order known (Const c) v b h = ap length h.0
shows_wide order known (Comp' n members) v b h = h.0

-- ---- the field of a row

pub row_here : (version n i : ℕ) (fs : List Field) (rs : List FieldRow) (f : Field) (r : FieldRow) → AreFieldRows version n fs rs → slice_get fs i ≡ Some f → slice_get rs i ≡ Some r → IsFieldRow version n f r
row_here version n i [] rs f r h at there = cc
row_here version n i (g ∷ fs) [] f r h at there = absurd h
row_here version n zero (g ∷ fs) (q ∷ rs) f r h at there =
    let field : g ≡ f = cc in
    let row : q ≡ r = cc in
    subst (λ x. IsFieldRow version n f x) row (subst (λ x. IsFieldRow version n x q) field h.0)
row_here version n (suc i) (g ∷ fs) (q ∷ rs) f r h at there = row_here version n i fs rs f r h.1 at there

-- a constant has no place
pub const_place : (e i : ℕ) (fs : List Field) (f : Field) → slice_get fs i ≡ Some f → is_const f.kind ≡ true → field_place e fs i ≡ None
const_place e i [] f at h = cc
const_place e zero (g ∷ fs) f at h =
    let same : g ≡ f = cc in
    ap (λ t. cond t None (Some (begin_of e g.offset))) (ap (λ (x : Field). is_const x.kind) same ∙ h)
const_place e (suc i) (g ∷ fs) f at h = const_place (end_past e g.offset g.kind) i fs f at h

-- ---- members

pub places_same : (e i : ℕ) (ms : List Member) → field_place e (map member_field ms) i ≡ member_place e ms i
places_same e i [] = refl
places_same e zero (m ∷ ms) = refl
places_same e (suc i) (m ∷ ms) = places_same (end_past e m.offset m.kind) i ms

pub member_here : (e n i : ℕ) (ms : List Member) (m : Member) → PlacedList e ms → members_end e ms ≤ n → slice_get ms i ≡ Some m → is_const m.kind ≡ false →
    (place : ℕ) × (member_place e ms i ≡ Some place) × (place + width m.kind ≤ n)
member_here e n i [] m placed ends at h = cc
member_here e n zero (x ∷ ms) m placed ends at h =
    let same : x ≡ m = cc in
    let fixed : is_const x.kind ≡ false = ap (λ (y : Member). is_const y.kind) same ∙ h in
    let past : end_past e x.offset x.kind ≡ begin_of e x.offset + width x.kind = ap (λ t. cond t e (begin_of e x.offset + width x.kind)) fixed in
    let after = ends_behind (end_past e x.offset x.kind) ms placed.2 in
    let wide : width x.kind ≡ width m.kind = ap (λ (y : Member). width y.kind) same in
    (begin_of e x.offset, ap (λ t. cond t None (Some (begin_of e x.offset))) fixed, omega (arith, past, after, ends, wide))
member_here e n (suc i) (x ∷ ms) m placed ends at h = member_here (end_past e x.offset x.kind) n i ms m placed.2 ends at h

-- ---- what is told of a value

abbrev pub ValueOf : Span → Plan → ℕ → Slot → Type 0
ValueOf s p i slot = (v : Value) × (slice_get (values_at s p) i ≡ Some v) × SlotShows s.mode slot v

pub told_of : {X : Type 0} (f : Value → X) (s : Span) (p : Plan) (i : ℕ) (slot : Slot) (x : X) → (at : ValueOf s p i slot) → f at.0 ≡ x → option_map f (slice_get (values_at s p) i) ≡ Some x
told_of f s p i slot x at h = ap (option_map f) at.1 ∙ ap Some h

pub none_there : (X : Type 0) → IsSome {T = X} None → ⊥
none_there X h = cc

-- a field of which something is told is alive
pub alive_of : {X : Type 0} (f : Value → Option X) (s : Span) (p : Plan) (i : ℕ) (slot : Slot) → f value.Absent ≡ None → (at : ValueOf s p i slot) → IsSome (option_and_then f (slice_get (values_at s p) i)) →
    (slot.alive ≡ true) × IsSome (f at.0)
alive_of {X = X} f s p i slot none at some = (alive slot.alive refl, there)
  where
    there : IsSome (f at.0)
    there = subst (λ o. IsSome (option_and_then f o)) at.1 some

    alive : (t : Bool) → slot.alive ≡ t → t ≡ true
    alive true e = refl
    alive false e = absurd (none_there X (subst IsSome (ap f (at.2.dead e) ∙ none) there))

pub array_of : (s : Span) (p : Plan) (i j : ℕ) (slot : Slot) → (at : ValueOf s p i slot) → j < length (all_elements (slice_get (values_at s p) i)) → (slot.alive ≡ true) × (j < length (elements_in at.0))
array_of s p i j slot at more = (alive slot.alive refl, there)
  where
    there : j < length (elements_in at.0)
    there = subst (λ o. j < length (all_elements o)) at.1 more

    alive : (t : Bool) → slot.alive ≡ t → t ≡ true
    alive true e = refl
    alive false e = absurd (omega (arith, there, ap (λ v. length (elements_in v)) (at.2.dead e)))

-- ---- the bytes of a slot

pub slot_bytes : (t : Bool) (fields : List Field) (i place : ℕ) (f : Field) (b : List ℕ) → is_const f.kind ≡ t → slice_get fields i ≡ Some f → (is_const f.kind ≡ false → field_place 0 fields i ≡ Some place) →
    cond t [] (take (width f.kind) (drop place b)) ≡ bytes_at (field_place 0 fields i) (width f.kind) b
slot_bytes true fields i place f b is at there = ap (λ o. bytes_at o (width f.kind) b) (sym (const_place 0 i fields f at is))
slot_bytes false fields i place f b is at there = ap (λ o. bytes_at o (width f.kind) b) (sym (there is))

pub field_of_member : (ms : List Member) (i : ℕ) (m : Member) → slice_get ms i ≡ Some m → slice_get (map member_field ms) i ≡ Some (member_field m)
field_of_member [] i m at = cc
field_of_member (x ∷ ms) zero m at = let same : x ≡ m = cc in ap (λ y. Some (member_field y)) same
field_of_member (x ∷ ms) (suc i) m at = field_of_member ms i m at

pub member_order : (ms : List Member) (i : ℕ) (m : Member) → IsKindInOrder (Comp ms) → slice_get ms i ≡ Some m → IsKindInOrder m.kind
member_order ms i m order at = at_each (λ (m : Member). IsKindInOrder m.kind) ms i m (members_kinds ms order) at

-- where a member lies that is no constant
pub record MemberPlace (ms : List Member) (n i : ℕ) (m : Member) : Type 0 where
  pub place : ℕ
  pub there : member_place 0 ms i ≡ Some place
  pub within : place + width m.kind ≤ n

pub placed_member : (ms : List Member) (n i : ℕ) (m : Member) → IsMembersPlan ms n → slice_get ms i ≡ Some m → is_const m.kind ≡ false → MemberPlace ms n i m
placed_member ms n i m plan at moves =
    let found = member_here 0 n i ms m (placed_members ms plan.order.within.placed) (omega (arith, plan.wide, width_comp ms)) at moves in
    record { place = found.0; there = found.1; within = found.2 }

pub some_same : {X : Type 0} (x y : X) → Some x ≡ Some y → x ≡ y
some_same x y h = cc

-- a member stands at each version
pub zero_alive : (version : ℕ) → is_alive version 0 ≡ true
zero_alive version = le-leb 0 version (omega arith)
