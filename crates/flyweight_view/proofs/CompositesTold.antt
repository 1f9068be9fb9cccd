-- A composite as a block of its own: its members are read at the composite's place.
use Rattle.std.proofs.Common.{◌≡◌, ◌≤◌, ◌+◌, ℕ, Bool, true, false, cond, List, [], length, take, drop, Option, Some, None, Ok, Err, refl, sym, ap, ◌∙◌, subst, arith}
use Rattle.std.proofs.Math.Seq.{take-length}
use Rattle.std.proofs.lemmas.Bool.{le-leb}
use Rattle.std.specs.Prelude.{map, nat_le, slice_get, pos, ⊤}
use Rattle.std.specs.Option.{IsSome}
use Rattle.sbe_types.specs.declared.kind.Kind.{Kind, Comp, items_hidden-the_row-Member-0}
use Rattle.sbe_types.specs.declared.kind.Member.{Member}
use Rattle.sbe_types.specs.declared.message.Block.{Block}
use Rattle.sbe_types.specs.declared.message.Value.{Value, items_hidden-the_row-Value-0}
use Rattle.sbe_types.specs.declared.schema.Field.{Field}
use Rattle.sbe_types.specs.Shows.{Shows}
use Rattle.sbe_wire.specs.declared.mode.Mode.{Mode}
use Rattle.sbe_wire.specs.declared.codes.FCode.TheVariants as code
use Rattle.sbe_wire.specs.Faults.{fault_at}
use Rattle.sbe_wire.specs.Lays.{FieldsLay}
use Rattle.sbe_wire.specs.Placed.{ArePlaced}
use Rattle.sbe_wire.specs.Reading.{◌>>=◌, and_then, and_check, then_read, nothing, fields_read, block_read, block_of as block_made, entry_read}
use Rattle.sbe_wire.specs.Versions.{floor}
use Rattle.sbe_wire.proofs.Blocks.{fields_judges}
use Rattle.schema_facts.specs.InOrder.{IsKindInOrder}
use Rattle.schema_facts.proofs.KindLists.{PlacedList, placed_members, width_comp}
use Rattle.sbe_types.proofs.KindRows.{row_in}
use Rattle.flyweight_view.specs.declared.plan.Plan.{Plan}
use Rattle.flyweight_view.specs.declared.plan.Plan.TheVariants as plan
use Rattle.flyweight_view.specs.declared.plan.Slot.{Slot}
use Rattle.flyweight_view.specs.declared.plan.Span.{Span}
use Rattle.flyweight_view.specs.inner.Planned.{fields_of, block_of, typed_by, typed_at, values_at, IsPlannedBlock, IsMembersPlan}
use Rattle.flyweight_view.specs.TypedBlocks.{member_field, typed_members, members_of, values_in, typed_composite, typed_field}
use Rattle.flyweight_view.specs.inner.Slots.{SlotIs}
use Rattle.flyweight_view.proofs.MembersTold.{members_lie, members_placed, members_reach}
use Rattle.flyweight_view.proofs.SlotsTold.{ValueOf, none_there}

-- ---- a block with nothing after it

-- a block of those fields, without groups and data
abbrev pub fields_only : List Value → Block
fields_only values = record { fields = values; groups = []; parts = [] }

only_block : (mode : Mode) (fields : List Field) (k : ℕ) (b : List ℕ) (values : List Value) → nat_le k (length b) ≡ true → fields_read mode 0 0 fields (take k b) ≡ Ok values →
    block_read mode fields k b ≡ Ok (values, drop k b)
only_block mode fields k b values long read =
    ap (λ t. and_check (fields_read mode 0 0 fields) (cond t (Ok (take k b, drop k b)) (Err (fault_at code.Truncated 0 (pos k))))) long
    ∙ ap (λ r. r >>= (λ y. Ok (y, drop k b))) read

only_entry : (mode : Mode) (fields : List Field) (k : ℕ) (b : List ℕ) (values : List Value) → nat_le k (length b) ≡ true → fields_read mode 0 0 fields (take k b) ≡ Ok values →
    entry_read (nothing ([], [])) mode fields k b ≡ Ok (fields_only values, drop k b)
only_entry mode fields k b values long read =
    ap (λ r. and_then b r (λ vs. then_read (nothing ([], [])) (λ t. nothing (block_made vs t)))) (only_block mode fields k b values long read)

-- ---- the block of a composite's members

module _ (s : Span) (ms : List Member) (v : Value) (from : s.at ≡ 0) (all : s.size ≡ length s.body.now) (order : IsKindInOrder (Comp ms)) (shows : Shows s.mode.order s.mode.known (Comp ms) v s.body.now) where
  after : PlacedList 0 ms
  after = placed_members ms order.within.placed

  placed : ArePlaced 0 (map member_field ms)
  placed = members_placed 0 ms after

  reaches : floor s.mode.version (map member_field ms) ≤ s.size
  reaches = omega (arith, members_reach s.mode.version 0 0 ms after (omega arith), width_comp ms, shows.0, all)

  lie : FieldsLay s.mode 0 (map member_field ms) shows.1.0 s.body.now
  lie =
      let row = row_in (Comp ms) in
      subst (λ l. FieldsLay s.mode 0 (map member_field l) shows.1.0 s.body.now) (items_hidden-the_row-Member-0 ms)
      (members_lie s.mode 0 row.0 row.1 shows.1.0 s.body.now shows.1.2)

  told : entry_read (nothing ([], [])) s.mode (map member_field ms) s.size (drop s.at s.body.now) ≡ Ok (fields_only shows.1.0, drop s.size (drop s.at s.body.now))
  told =
      let whole : drop s.at s.body.now ≡ s.body.now = ap (λ n. drop n s.body.now) from in
      let bytes : take s.size (drop s.at s.body.now) ≡ s.body.now = ap (take s.size) whole ∙ ap (λ n. take n s.body.now) all ∙ take-length s.body.now in
      let read = (fields_judges s.mode 0 0 0 (map member_field ms) (omega arith) placed).complete s.body.now shows.1.0 lie in
      only_entry s.mode (map member_field ms) s.size (drop s.at s.body.now) shows.1.0 (le-leb s.size (length (drop s.at s.body.now)) (omega (arith, all, ap length whole)))
      (ap (fields_read s.mode 0 0 (map member_field ms)) bytes ∙ read)

  members_plan : IsMembersPlan ms s.size
  members_plan = record { order = order; wide = all ∙ shows.0 }

  near : s.at + s.size ≤ length s.body.now
  near = omega (arith, from, all)

  -- what is seen of the composite's value
  seen_value : typed_composite (members_of (Comp ms)) (values_in v) ≡ Some (typed_members ms shows.1.0)
  seen_value =
      ap (λ l. typed_composite (Some l) (values_in v)) (items_hidden-the_row-Member-0 ms)
      ∙ ap (λ x. typed_composite (Some ms) (values_in x)) shows.1.1
      ∙ ap (λ l. Some (typed_members ms l)) (items_hidden-the_row-Value-0 shows.1.0)

-- the members of a plan
abbrev pub list_in : Plan → List Member
list_in (plan.Members members) = members.now
list_in (plan.Level layout number level) = []

-- the plan is that of a composite's members
abbrev pub IsList : Plan → Type 0
IsList (plan.Members members) = ⊤
IsList (plan.Level layout number level) = ⊥

pub seen_composite : (s : Span) (p : Plan) (v : Value) → IsList p → s.at ≡ 0 → s.size ≡ length s.body.now → IsKindInOrder (Comp (list_in p)) → Shows s.mode.order s.mode.known (Comp (list_in p)) v s.body.now →
    IsPlannedBlock s p
seen_composite s (plan.Level layout number level) v is from all order shows = absurd is
seen_composite s (plan.Members members) v is from all order shows =
    let read = told s members.now v from all order shows in
    record {
      plan_is = members_plan s members.now v from all order shows;
      placed = placed s members.now v from all order shows;
      reaches = reaches s members.now v from all order shows;
      near = near s members.now v from all order shows;
      reads = (drop s.size (drop s.at s.body.now), read ∙ ap (λ r. Ok (block_of r, drop s.size (drop s.at s.body.now))) (sym read));
    }

pub value_composite : (s : Span) (p : Plan) (v : Value) → IsList p → s.at ≡ 0 → s.size ≡ length s.body.now → IsKindInOrder (Comp (list_in p)) → Shows s.mode.order s.mode.known (Comp (list_in p)) v s.body.now →
    typed_composite (members_of (Comp (list_in p))) (values_in v) ≡ Some (typed_at s p)
value_composite s (plan.Level layout number level) v is from all order shows = absurd is
value_composite s (plan.Members members) v is from all order shows =
    seen_value s members.now v from all order shows
    ∙ ap (λ r. Some (typed_by (plan.Members members) (block_of r))) (sym (told s members.now v from all order shows))

-- ---- a field that is a composite

some_members : (o : Option (List Member)) (w : Option (List Value)) → IsSome (typed_composite o w) → IsSome o
some_members None w h = cc
some_members (Some ms) w h = refl

some_values : (o : Option (List Member)) (w : Option (List Value)) → IsSome (typed_composite o w) → IsSome w
some_values None w h = cc
some_values (Some ms) None h = cc
some_values (Some ms) (Some vs) h = refl

module _ (s : Span) (p : Plan) (i : ℕ) (slot : Slot) (is : SlotIs s (fields_of p) i slot) (at : ValueOf s p i slot) where
  there : IsSome (typed_field (slice_get (fields_of p) i) (slice_get (values_at s p) i)) → IsSome (typed_composite (members_of is.field.kind) (values_in at.0))
  there some = subst (λ o. IsSome (typed_field o (Some at.0))) is.there (subst (λ o. IsSome (typed_field (slice_get (fields_of p) i) o)) at.1 some)

  alive_if : (t : Bool) → slot.alive ≡ t → IsSome (values_in at.0) → t ≡ true
  alive_if true e some = refl
  alive_if false e some = absurd (none_there (List Value) (subst IsSome (ap values_in (at.2.dead e)) some))

  pub composite_alive : IsSome (typed_field (slice_get (fields_of p) i) (slice_get (values_at s p) i)) → slot.alive ≡ true
  composite_alive some = alive_if slot.alive refl (some_values (members_of is.field.kind) (values_in at.0) (there some))

  pub composite_kind : IsSome (typed_field (slice_get (fields_of p) i) (slice_get (values_at s p) i)) → IsSome (members_of slot.kind.now)
  composite_kind some = subst (λ k. IsSome (members_of k)) (sym is.kind) (some_members (members_of is.field.kind) (values_in at.0) (there some))

  pub composite_field : (k : Kind) → slot.kind.now ≡ k → typed_field (slice_get (fields_of p) i) (slice_get (values_at s p) i) ≡ typed_composite (members_of k) (values_in at.0)
  composite_field k kind =
      ap (λ o. typed_field o (slice_get (values_at s p) i)) is.there
      ∙ ap (typed_field (Some is.field)) at.1
      ∙ ap (λ x. typed_composite (members_of x) (values_in at.0)) (sym is.kind ∙ kind)
