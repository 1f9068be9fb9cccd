-- Each part of an accepted kind is in order.
use Rattle.std.proofs.Common.{◌≡◌, ◌≤◌, ℕ, zero, suc, ◌+◌, Bool, true, false, min, List, [], ◌∷◌, length, ap, Option, Some, None, refl, subst, arith}
use Rattle.std.specs.Prelude.{◌||◌, Ok, option_map}
use Rattle.std.specs.List.{AllByRecursion}
use Rattle.std.specs.Str.{bytes_eq}
use Rattle.std.proofs.lemmas.Slice.Eq.{bytes_eq-Decides}
use Rattle.sbe_types.specs.InForm.{IsName, IsMemberInForm, AreMembersInForm, count_members}
use Rattle.sbe_types.specs.declared.kind.Primitive.TheVariants.{U8}
use Rattle.sbe_types.specs.declared.kind.Kind.{Kind}
use Rattle.sbe_types.specs.declared.kind.Member.{Member}
use Rattle.sbe_types.specs.declared.limits.TheConstants.{MEMBER_LIMIT}
use Rattle.sbe_types.specs.declared.tree.FieldEl.{FieldEl}
use Rattle.sbe_types.specs.declared.tree.MemberItem.{MemberItem, Row_of-MemberItem, end_of-MemberItem, more_of-MemberItem}
use Rattle.sbe_types.specs.declared.tree.MemberItem as part
use Rattle.sbe_types.specs.declared.tree.CompositeEl.{CompositeEl}
use Rattle.sbe_types.specs.declared.tree.TypesItem.{TypesItem}
use Rattle.sbe_types.specs.declared.tree.TypesItem.TheVariants as item
use Rattle.schema_rules.specs.Judging.{first_of}
use Rattle.sbe_types.specs.declared.tree.PrimitiveType.{PrimitiveType}
use Rattle.schema_rules.specs.Names.{plain_type, declared_as, is_among}
use Rattle.schema_rules.specs.Kinds.{unresolved, type_kind, Use, use_of, as_declared, member_name, member_kind, row_members, members_of, item_kind, found_kind, plain_kind, kind_or_plain, kind_through, kind_named, field_kind, found_members, members_named}
use Rattle.schema_rules.specs.TypeRules.{type_rules}
use Rattle.schema_rules.specs.CompositeRules.{Inside, MembersBefore, no_member, with_one, row_check, member_check}
use Rattle.schema_facts.specs.InOrder.{AreAccepted, IsKindFrom}
use Rattle.schema_facts.proofs.KindPassed.{inside_passed, member_passed, row_passed, row_of, composite_row_kind, composite_row_form, composite_passed, then_ok}
use Rattle.schema_facts.proofs.KindLists.{MadeOf, comp_made, names_of, KindsList}
use Rattle.schema_facts.proofs.KindOptional.{with_made}
use Rattle.schema_facts.proofs.KindDeclared.{declared_good, plain_by, named_by}
use Rattle.schema_facts.proofs.KindListed.{is_twice, all_apart}
use Rattle.schema_facts.proofs.KindNumbers.{good_type, plain_good}
use Rattle.schema_facts.proofs.KindParts.{type_parts, enum_parts, set_parts}

-- ---- members

name_form : (m : MemberItem) → IsMemberInForm m → IsName (member_name m)
name_form (part.Type t) h = h.name
name_form (part.Enum e) h = h.name
name_form (part.Set s) h = h.name
name_form (part.Ref r) h = h.name
name_form (part.Composite' name offset since n row) h = h.0

none_of : (a b : Bool) → a ≡ false → b ≡ false → a || b ≡ false
none_of true b h k = h
none_of false b h k = k

-- members after others of these names
record MadeBehind (earlier : List (List ℕ)) (ms : List Member) : Type 0 where
  names : AllByRecursion IsName (names_of ms)
  once : is_twice bytes_eq bytes_eq-Decides earlier (names_of ms) ≡ false
  kinds : KindsList 0 ms

made_of : (ms : List Member) → length ms ≤ MEMBER_LIMIT → MadeBehind [] ms → MadeOf 0 ms
made_of ms few h = record { few = few; names = h.names; differ = all_apart bytes_eq bytes_eq-Decides [] (names_of ms) h.once; kinds = h.kinds }

module _ (types : List TypesItem) (accepted : AreAccepted types) where
  abbrev at : ℕ → Inside
  at around = record { types = types; around = around }

  -- ---- how many members there are

  row_many : (kinds : List ℕ → Kind) (n : _) (row : Row_of-MemberItem n) → length (row_members types kinds row) ≡ count_members row
  row_many kinds n end_of-MemberItem = refl
  row_many kinds n (more_of-MemberItem m rest) = ap suc (row_many kinds _ rest)

  members_many : (kinds : List ℕ → Kind) (ms : List MemberItem) → length (members_of types kinds ms) ≡ length ms
  members_many kinds [] = refl
  members_many kinds (m ∷ ms) = ap suc (members_many kinds ms)

  module _ (kinds : List ℕ → Kind) (known : (name : List ℕ) → IsKindFrom 0 (kinds name)) where
    mutual
      row_made : (around : ℕ) (before after : MembersBefore) (n : _) (row : Row_of-MemberItem n) → AreMembersInForm row →
          row_check (at around) before row ≡ Ok after → MadeBehind before.names (row_members types kinds row)
      row_made around before after n end_of-MemberItem form h = record { names = tt; once = refl; kinds = tt }
      row_made around before after n (more_of-MemberItem m rest) form h =
          let passed = row_passed (at around) before after m _ rest h in
          let later = row_made around (with_one types before m) after _ rest form.1 passed.later in
          record {
            names = (name_form m form.0, later.names);
            once = none_of (is_among before.names (member_name m)) _ passed.found.name later.once;
            kinds = (member_made around before m form.0 passed.judged, later.kinds);
          }

      member_made : (around : ℕ) (before : MembersBefore) (m : MemberItem) → IsMemberInForm m → member_check (at around) before m ≡ Ok tt →
          IsKindFrom 0 (member_kind types kinds m)
      member_made around before (part.Type t) form h =
          type_parts types accepted as_declared t 0 (λ prim is. good_type types true prim t is (member_passed (at around) before (part.Type t) h).first form.primitives) (omega arith)
      member_made around before (part.Enum e) form h = enum_parts types accepted as_declared e 0 (member_passed (at around) before (part.Enum e) h).first form
      member_made around before (part.Set s) form h = set_parts types accepted s 0 (member_passed (at around) before (part.Set s) h).first form
      member_made around before (part.Ref r) form h = known r.type_name
      member_made around before (part.Composite' name offset since n row) form h =
          let passed = inside_passed (at around) before (part.Composite' name offset since n row) h in
          comp_made 0 (row_members types kinds row) (made_of (row_members types kinds row) (omega (arith, form.2, row_many kinds _ row)) (row_made (min (around + 1) 5) no_member passed.after _ row form.3 passed.members))

    pub composite_made : (name : List ℕ) (c : CompositeEl) → declared_as types name ≡ Some (item.Composite c) → MadeOf 0 (members_of types kinds c.children)
    composite_made name c declared =
        let good = declared_good types accepted name (item.Composite c) declared in
        let passed = composite_passed types c good.judged in
        subst (MadeOf 0) (composite_row_kind types kinds c)
        (made_of (row_members types kinds (row_of c).1) (omega (arith, good.form.count, members_many kinds c.children, ap length (composite_row_kind types kinds c))) (row_made 1 no_member passed.after _ (row_of c).1 (composite_row_form c good.form.members) passed.members))

    -- what a declared type stands for
    item_made : (own : Use) (name : List ℕ) (t : TypesItem) → declared_as types name ≡ Some t → IsKindFrom 0 (item_kind types kinds own t)
    item_made own name (item.Type t) declared =
        let good = declared_good types accepted name (item.Type t) declared in
        type_parts types accepted own t 0 (λ prim is. good_type types false prim t is (then_ok (first_of (type_rules types false t)) _ tt good.judged).1 good.form.primitives) (omega arith)
    item_made own name (item.Enum e) declared =
        let good = declared_good types accepted name (item.Enum e) declared in
        enum_parts types accepted own e 0 good.judged good.form
    item_made own name (item.Set s) declared =
        let good = declared_good types accepted name (item.Set s) declared in
        set_parts types accepted s 0 good.judged good.form
    item_made own name (item.Composite c) declared = with_made 0 own.presence (members_of types kinds c.children) (composite_made name c declared)

  -- ---- names

  plain_made : (own : Use) (word : List ℕ) (primitive : PrimitiveType) → IsKindFrom 0 (type_kind types own (plain_type word primitive))
  plain_made own word primitive = type_parts types accepted own (plain_type word primitive) 0 (plain_good word primitive) (omega arith)

  no_kind_made : IsKindFrom 0 unresolved
  no_kind_made = (U8, refl)

  either_made : (kinds : List ℕ → Kind) → ((name : List ℕ) → IsKindFrom 0 (kinds name)) → (name : List ℕ) (o : Option TypesItem) → declared_as types name ≡ o →
      IsKindFrom 0 (kind_or_plain types (option_map (item_kind types kinds as_declared) o) name)
  either_made kinds known name None found = plain_by (λ o. IsKindFrom 0 (plain_kind types o)) no_kind_made (plain_made as_declared) name
  either_made kinds known name (Some t) found = item_made kinds known as_declared name t found

  no_more_made : (name : List ℕ) (o : Option TypesItem) → IsKindFrom 0 (kind_or_plain types (option_map (λ t. unresolved) o) name)
  no_more_made name None = plain_by (λ o. IsKindFrom 0 (plain_kind types o)) no_kind_made (plain_made as_declared) name
  no_more_made name (Some t) = no_kind_made

  through_made : (n : ℕ) (name : List ℕ) → IsKindFrom 0 (kind_through n types name)
  through_made zero name = no_more_made name (declared_as types name)
  through_made (suc n) name = either_made (kind_through n types) (through_made n) name (declared_as types name) refl

  named_made : (name : List ℕ) → IsKindFrom 0 (kind_named types name)
  unfolding kind_named
  named_made name = through_made 4 name

  -- ---- fields, and what the wire counts by

  pub field_made : (f : FieldEl) → IsKindFrom 0 (field_kind types f)
  field_made f =
      named_by (λ o. IsKindFrom 0 (found_kind types (kind_named types) (use_of f) o)) no_kind_made (plain_made (use_of f)) types f.type_name
      (λ t found. item_made (kind_named types) named_made (use_of f) f.type_name t found)

  none_made : MadeOf 0 []
  none_made = record { few = omega arith; names = tt; differ = λ i j d below within. absurd (omega arith); kinds = tt }

  declared_made : (name : List ℕ) (t : TypesItem) → declared_as types name ≡ Some t → MadeOf 0 (found_members types (Some t))
  declared_made name (item.Type t) found = none_made
  declared_made name (item.Composite c) found = composite_made (kind_named types) named_made name c found
  declared_made name (item.Enum e) found = none_made
  declared_made name (item.Set s) found = none_made

  pub members_made : (name : List ℕ) → MadeOf 0 (members_named types name)
  members_made name = named_by (λ o. MadeOf 0 (found_members types o)) none_made (λ word primitive. none_made) types name (declared_made name)
