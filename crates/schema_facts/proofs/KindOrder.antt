-- The kinds of accepted fields, and the composites that the wire counts by, are in order.
use Rattle.std.proofs.Common.{◌≡◌, ℕ, ◌+◌, ◌≤◌, false, min, max, List, [], Option, Some, None, ap, sym, subst, ◌∙◌, arith}
use Rattle.std.specs.Prelude.{◌==◌, Ok, ◌*◌}
use Rattle.std.proofs.lemmas.Bool.{ltb-false}
use Rattle.std.proofs.lemmas.Bool.Decides.{nat_tests}
use Rattle.sbe_types.specs.Numbers.{prim_width}
use Rattle.sbe_types.specs.declared.kind.Primitive.{Primitive}
use Rattle.sbe_types.specs.declared.kind.Presence.{Presence}
use Rattle.sbe_types.specs.declared.kind.Presence.TheVariants.{Required, Optional, Constant}
use Rattle.sbe_types.specs.declared.kind.Kind.{Kind, Leaf, Enum, Set, Const, Comp, Comp', Row_of-Member, end_of-Member, more_of-Member}
use Rattle.sbe_types.specs.declared.kind.Member.{Member}
use Rattle.sbe_types.specs.declared.tree.TypeEl.{TypeEl}
use Rattle.sbe_types.specs.declared.tree.EnumEl.{EnumEl}
use Rattle.sbe_types.specs.declared.tree.SetEl.{SetEl}
use Rattle.sbe_types.specs.declared.tree.FieldEl.{FieldEl}
use Rattle.sbe_types.specs.declared.tree.MemberItem.{MemberItem, Row_of-MemberItem, end_of-MemberItem, more_of-MemberItem}
use Rattle.sbe_types.specs.declared.tree.MemberItem as part
use Rattle.sbe_types.specs.declared.tree.CompositeEl.{CompositeEl}
use Rattle.sbe_types.specs.declared.tree.TypesItem.{TypesItem}
use Rattle.sbe_types.specs.declared.tree.TypesItem.TheVariants as item
use Rattle.schema_rules.specs.declared.facts.Fact.{Fact}
use Rattle.schema_rules.specs.declared.encodings.Encoding.{Encoding}
use Rattle.schema_rules.specs.Judging.{first_of}
use Rattle.schema_rules.specs.Names.{plain_type, integral, declared_as}
use Rattle.schema_rules.specs.Kinds.{unresolved, Use, use_of, effective, encoding_named, type_over, type_in, enum_over, enum_in, set_in, composite_with, members_of, found_kind, kind_through, kind_named, field_kind, found_members, members_named}
use Rattle.schema_rules.specs.Facts.{counted, no_members, row_fact, members_fact, simple_fact, type_fact_in, enum_fact_in, set_fact_in, fact_named, fact_of}
use Rattle.schema_rules.specs.CompositeRules.{Inside, MembersBefore, no_member, with_one, row_check, member_check, last_rules, most_leaves, most_composites}
use Rattle.schema_rules.specs.PartRules.{Scope, PartsBefore, field_rules, field_check}
use Rattle.schema_facts.specs.InOrder.{AreAccepted, leaves, height, IsKindFrom, AreKindsFrom, IsKindWithin, IsKindInOrder, IsCompositeInOrder}
use Rattle.schema_facts.proofs.KindLists.{leaves_comp, height_comp, IsFull, IsFullRow, comp_made}
use Rattle.schema_facts.proofs.FactKinds.{Tells, composite_tells}
use Rattle.schema_facts.proofs.FieldEnds.{with_tells, field_tells}
use Rattle.schema_facts.proofs.KindDepth.{ref_within}
use Rattle.schema_facts.proofs.KindPassed.{all_pass, then_ok, inside_passed, member_passed, row_passed, after_all, row_of, composite_row_fact, declared_inside, composite_passed}
use Rattle.schema_facts.proofs.KindDeclared.{Good, declared_good, named_by}
use Rattle.schema_facts.proofs.KindPlaces.{Fits, members_fits}
use Rattle.schema_facts.proofs.KindFits.{named_tells, used_same, field_fits, members_fit}
use Rattle.schema_facts.proofs.KindMade.{field_made, members_made}

-- ---- the height of a composite

type_low : (own : Option Presence) (t : TypeEl) (o : Option Primitive) → (type_fact_in own t o).height ≤ 0
type_low own t None = omega arith
type_low own t (Some prim) = by_presence (effective own t.presence) where
  by_presence : (p : Presence) → (simple_fact (t.length == 0) p (prim_width prim * t.length)).height ≤ 0
  by_presence Required = omega arith
  by_presence Optional = omega arith
  by_presence Constant = omega arith

enum_low : (own : Option Presence) (o : Option Encoding) → (enum_fact_in own o).height ≤ 0
enum_low own None = omega arith
enum_low own (Some e) = by_presence (effective own e.presence) where
  by_presence : (p : Presence) → (simple_fact false p (prim_width e.leaf.prim)).height ≤ 0
  by_presence Required = omega arith
  by_presence Optional = omega arith
  by_presence Constant = omega arith

set_low : (o : Option Encoding) → (set_fact_in o).height ≤ 0
set_low None = omega arith
set_low (Some e) = omega arith

below_four : (around : ℕ) → around ≤ 4 → around == 4 ≡ false → around ≤ 3
below_four around few other = grind (arith, nat_tests)

one_higher : (around a f : ℕ) → around + a ≤ 5 → around + (1 + f) ≤ 5 → around + counted (max a (1 + f)) ≤ 5
one_higher around a f h k = omega arith

module _ (types : List TypesItem) where
  abbrev at : ℕ → Inside
  at around = record { types = types; around = around }

  mutual
    row_high : (around : ℕ) (before after : MembersBefore) (n : _) (row : Row_of-MemberItem n) → around ≤ 4 → around + before.all.height ≤ 5 →
        row_check (at around) before row ≡ Ok after → around + after.all.height ≤ 5
    row_high around before after n end_of-MemberItem few low h =
        let same : before ≡ after = cc in
        subst (λ (b : MembersBefore). around + b.all.height ≤ 5) same low
    row_high around before after n (more_of-MemberItem m rest) few low h =
        let passed = row_passed (at around) before after m _ rest h in
        row_high around (with_one types before m) after _ rest few
        (one_higher around before.all.height (fact_of types m).height low (member_high around before m few passed.judged)) passed.later

    member_high : (around : ℕ) (before : MembersBefore) (m : MemberItem) → around ≤ 4 → member_check (at around) before m ≡ Ok tt → around + (1 + (fact_of types m).height) ≤ 5
    member_high around before (part.Type t) few h = let low = type_low None t (integral t.primitive_type) in omega arith
    member_high around before (part.Enum e) few h = let low = enum_low None (encoding_named types e.encoding_type) in omega arith
    member_high around before (part.Set s) few h = let low = set_low (encoding_named types s.encoding_type) in omega arith
    member_high around before (part.Ref r) few h =
        let each = all_pass (last_rules (at around) (part.Ref r)) (member_passed (at around) before (part.Ref r) h).last in
        let low = ref_within around (fact_named types r.type_name).height few each.0 in
        omega arith
    member_high around before (part.Composite' name offset since n row) few h =
        let passed = inside_passed (at around) before (part.Composite' name offset since n row) h in
        let less = below_four around few passed.low in
        let high = row_high (min (around + 1) 5) no_member passed.after _ row (omega arith) (omega arith) passed.members in
        let same = after_all (at (min (around + 1) 5)) no_member passed.after _ row passed.members in
        let equal : (row_fact types (fact_named types) no_members row).height ≡ passed.after.all.height = ap (λ (f : Fact). f.height) same in
        omega arith

  -- ---- how large a kind is

  -- a kind has no more leaves and no more composites than it may
  pub record Sized (kind : Kind) : Type 0 where
    pub leaves : leaves kind ≤ most_leaves
    pub height : height kind ≤ most_composites

  type_sized : (own : Use) (t : TypeEl) (o : Option Primitive) → Sized (type_in types own t o)
  type_sized own t None = record { leaves = omega arith; height = omega arith }
  type_sized own t (Some prim) = by_presence (effective own.presence t.presence) where
    by_presence : (p : Presence) → Sized (type_over types own t prim p)
    by_presence Required = record { leaves = omega arith; height = omega arith }
    by_presence Optional = record { leaves = omega arith; height = omega arith }
    by_presence Constant = record { leaves = omega arith; height = omega arith }

  enum_sized : (own : Use) (e : EnumEl) (o : Option Encoding) → Sized (enum_in types own e o)
  enum_sized own e None = record { leaves = omega arith; height = omega arith }
  enum_sized own e (Some encoding) = by_presence (effective own.presence encoding.presence) where
    by_presence : (p : Presence) → Sized (enum_over types own e encoding p)
    by_presence Required = record { leaves = omega arith; height = omega arith }
    by_presence Optional = record { leaves = omega arith; height = omega arith }
    by_presence Constant = record { leaves = omega arith; height = omega arith }

  set_sized : (s : SetEl) (o : Option Encoding) → Sized (set_in s o)
  set_sized s None = record { leaves = omega arith; height = omega arith }
  set_sized s (Some encoding) = record { leaves = omega arith; height = omega arith }

  sized_by : (fact : Fact) (kind : Kind) → Tells fact kind → fact.leaves ≤ 256 → fact.height ≤ 4 → Sized kind
  sized_by fact kind tells few low =
      let leaves = tells.leaves in
      let high = tells.high in
      record { leaves = omega arith; height = omega arith }

  used_tells : (c : CompositeEl) → Good types (item.Composite c) → Tells (members_fact types (fact_named types) no_members c.children) (Comp (members_of types (kind_named types) c.children))
  used_tells c good =
      subst (λ (ms : List Member). Tells (members_fact types (fact_named types) no_members c.children) (Comp ms)) (sym (used_same types c good))
      (composite_tells types (fact_named types) (kind_through 5 types) (named_tells types) c)

  record Few (fact : Fact) : Type 0 where
    leaves : fact.leaves ≤ 256
    height : fact.height ≤ 4

  composite_few : (c : CompositeEl) → Good types (item.Composite c) → Few (members_fact types (fact_named types) no_members c.children)
  composite_few c good =
      let passed = composite_passed types c good.judged in
      let same = after_all (declared_inside types) no_member passed.after _ (row_of c).1 passed.members in
      let leaves = ltb-false 256 passed.after.all.leaves passed.leaves in
      let height = row_high 1 no_member passed.after _ (row_of c).1 (omega arith) (omega arith) passed.members in
      subst Few (sym same ∙ composite_row_fact types (fact_named types) c) (record { leaves = leaves; height = omega arith })

  composite_sized : (presence : Option Presence) (c : CompositeEl) → Good types (item.Composite c) → Sized (composite_with presence (members_of types (kind_named types) c.children))
  composite_sized presence c good =
      let few = composite_few c good in
      let fact = members_fact types (fact_named types) no_members c.children in
      let ms = members_of types (kind_named types) c.children in
      sized_by fact (composite_with presence ms) (with_tells fact presence ms (used_tells c good)) few.leaves few.height

  -- ---- fields, and what the wire counts by

  no_kind_sized : Sized unresolved
  no_kind_sized = record { leaves = omega arith; height = omega arith }

  declared_sized : AreAccepted types → (own : Use) (name : List ℕ) (t : TypesItem) → declared_as types name ≡ Some t → Sized (found_kind types (kind_named types) own (Some t))
  declared_sized accepted own name (item.Type t) found = type_sized own t (integral t.primitive_type)
  declared_sized accepted own name (item.Enum e) found = enum_sized own e (encoding_named types e.encoding_type)
  declared_sized accepted own name (item.Set s) found = set_sized s (encoding_named types s.encoding_type)
  declared_sized accepted own name (item.Composite c) found = composite_sized own.presence c (declared_good types accepted name (item.Composite c) found)

  pub field_sized : AreAccepted types → (f : FieldEl) → Sized (field_kind types f)
  field_sized accepted f =
      named_by (λ o. Sized (found_kind types (kind_named types) (use_of f) o)) no_kind_sized (λ word primitive. type_sized (use_of f) (plain_type word primitive) (integral primitive))
      types f.type_name (declared_sized accepted (use_of f) f.type_name)

  none_sized : Sized (Comp [])
  none_sized =
      let leaves = leaves_comp [] in
      let height = height_comp [] in
      record { leaves = omega arith; height = omega arith }

  declared_members : AreAccepted types → (name : List ℕ) (t : TypesItem) → declared_as types name ≡ Some t → Sized (Comp (found_members types (Some t)))
  declared_members accepted name (item.Type t) found = none_sized
  declared_members accepted name (item.Enum e) found = none_sized
  declared_members accepted name (item.Set s) found = none_sized
  declared_members accepted name (item.Composite c) found = composite_sized None c (declared_good types accepted name (item.Composite c) found)

  pub members_sized : AreAccepted types → (name : List ℕ) → Sized (Comp (members_named types name))
  members_sized accepted name = named_by (λ o. Sized (Comp (found_members types o))) none_sized (λ word primitive. none_sized) types name (declared_members accepted name)

-- ---- a kind as a whole

pub within_of : (types : List TypesItem) (kind : Kind) → Fits kind → Sized types kind → IsKindWithin kind
within_of types kind fits sized = record { leaves = sized.leaves; height = sized.height; placed = fits.placed; narrow = fits.narrow; width = fits.width }

mutual
  full_parts : (k : Kind) → IsKindFrom 0 k → IsFull k → IsKindFrom 1 k
  full_parts (Leaf l) h full =
      record { null = h.null; low = h.low; high = h.high; range = h.range; least = full; most = h.most; shape = h.shape; presence = h.presence }
  full_parts (Enum l names) h full = h
  full_parts (Set p names) h full = h
  full_parts (Const c) h full = h
  full_parts (Comp' n row) h full = record { few = h.few; names = h.names; names_differ = h.names_differ; kinds = full_row _ row h.kinds full }

  full_row : (n : _) (row : Row_of-Member n) → AreKindsFrom 0 row → IsFullRow row → AreKindsFrom 1 row
  full_row n end_of-Member h full = tt
  full_row n (more_of-Member name offset kind rest) h full = (full_parts kind h.0 full.0, full_row _ rest h.1 full.1)

-- the kind of an accepted field
pub field_in_order : (types : List TypesItem) → AreAccepted types → (reached : ℕ) (f : FieldEl) →
    first_of (field_rules types reached f) ≡ Ok tt → IsKindInOrder (field_kind types f)
field_in_order types accepted reached f h =
    let each = all_pass (field_rules types reached f) h in
    record {
      parts = full_parts (field_kind types f) (field_made types accepted f) ((field_tells types f).full each.1.1.1.1.0);
      within = within_of types (field_kind types f) (field_fits types accepted f) (field_sized types accepted f);
    }

pub judged_in_order : (scope : Scope) (before : PartsBefore) (f : FieldEl) → AreAccepted scope.types →
    field_check scope before f ≡ Ok tt → IsKindInOrder (field_kind scope.types f)
judged_in_order scope before f accepted h =
    field_in_order scope.types accepted before.all.reached f (then_ok (first_of (field_rules scope.types before.all.reached f)) _ tt h).1

-- the composite that a name stands for
pub members_in_order : (types : List TypesItem) → AreAccepted types → (name : List ℕ) → IsCompositeInOrder (Comp (members_named types name))
members_in_order types accepted name =
    record {
      parts = comp_made 0 (members_named types name) (members_made types accepted name);
      within = within_of types (Comp (members_named types name)) (members_fits (members_named types name) (members_fit types accepted name)) (members_sized types accepted name);
    }
