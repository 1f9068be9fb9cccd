-- The kinds that accepted parts use are placed and narrow.
use Rattle.std.proofs.Common.{◌≡◌, ℕ, zero, suc, ◌+◌, ◌≤◌, ◌<◌, min, List, [], Option, Some, None, refl, ap, sym, subst, ◌∙◌, arith}
use Rattle.std.specs.Prelude.{Ok, option_map}
use Rattle.sbe_types.specs.declared.limits.TheConstants.{PLACE_LIMIT}
use Rattle.sbe_types.specs.InForm.{IsWithin, IsMemberInForm, AreMembersInForm}
use Rattle.sbe_types.specs.Places.{end_past, members_end}
use Rattle.sbe_types.specs.declared.kind.Member.{Member}
use Rattle.sbe_types.specs.declared.tree.FieldEl.{FieldEl}
use Rattle.sbe_types.specs.declared.tree.MemberItem.{MemberItem, Row_of-MemberItem, end_of-MemberItem, more_of-MemberItem}
use Rattle.sbe_types.specs.declared.tree.MemberItem as part
use Rattle.sbe_types.specs.declared.tree.CompositeEl.{CompositeEl}
use Rattle.sbe_types.specs.declared.tree.TypesItem.{TypesItem}
use Rattle.sbe_types.specs.declared.tree.TypesItem.TheVariants as item
use Rattle.schema_rules.specs.declared.facts.Fact.{Fact}
use Rattle.sbe_types.specs.declared.tree.PrimitiveType.{PrimitiveType}
use Rattle.schema_rules.specs.Names.{plain_type, declared_as, type_named}
use Rattle.schema_rules.specs.Kinds.{unresolved, type_kind, Use, use_of, as_declared, member_offset, member_kind, row_members, members_of, composite_with, item_kind, found_kind, plain_kind, kind_or_plain, kind_through, kind_named, field_kind, found_members, members_named}
use Rattle.schema_rules.specs.Facts.{counted, no_members, member_fact, item_fact, declared_or_plain, fact_through, fact_named}
use Rattle.schema_rules.specs.CompositeRules.{Inside, MembersBefore, no_member, with_one, row_check, member_check}
use Rattle.schema_facts.proofs.FactKinds.{Tells, past_tells, none_reaches, row_reaches, member_tells, through_tells}
use Rattle.schema_facts.specs.InOrder.{AreAccepted}
use Rattle.schema_facts.proofs.KindPassed.{inside_passed, row_passed, after_all, row_of, composite_row_fact, composite_row_kind, composite_row_form, declared_inside, composite_passed}
use Rattle.schema_facts.proofs.KindDepth.{RowRefs, MemberRefs, row_refs, IsLow, row_low, IsBelow, row_below, SameNamed, row_same, settled, low_settled}
use Rattle.schema_facts.proofs.KindDeclared.{Good, declared_good, plain_by, named_by}
use Rattle.schema_facts.proofs.KindPlaces.{Fits, FitsList, comp_fits, FitsMembers, members_fits, with_fits, type_fits, enum_fits, set_fits, begins_behind, small_is}

pub named_tells : (types : List TypesItem) (name : List ℕ) → Tells (fact_named types name) (kind_through 5 types name)
unfolding fact_named
named_tells types name = through_tells 5 types name

-- ---- members

place_form : (m : MemberItem) → IsMemberInForm m → IsWithin (member_offset m)
place_form (part.Type t) h = h.place
place_form (part.Enum e) h = h.place
place_form (part.Set s) h = h.place
place_form (part.Ref r) h = h.place
place_form (part.Composite' name offset since n row) h = h.1

module _ (types : List TypesItem) where
  -- the composites around are so many
  abbrev at : ℕ → Inside
  at around = record { types = types; around = around }

  -- what the name stands for fits
  pub record FitsNamed (name : List ℕ) : Type 0 where
    pub fits : Fits (kind_through 5 types name)

  row_end : (around : ℕ) (after : MembersBefore) (n : _) (row : Row_of-MemberItem n) → row_check (at around) no_member row ≡ Ok after →
      counted after.all.width ≡ counted (members_end 0 (row_members types (kind_through 5 types) row))
  row_end around after n row h =
      let same = after_all (at around) no_member after _ row h in
      let reach = row_reaches types (fact_named types) (kind_through 5 types) (named_tells types) _ row no_members 0 0 0 none_reaches in
      ap (λ (f : Fact). counted f.width) (sym same) ∙ reach.wide

  mutual
    row_fits : (around : ℕ) (before after : MembersBefore) (n : _) (row : Row_of-MemberItem n) (e : ℕ) → AreMembersInForm row → RowRefs FitsNamed row →
        row_check (at around) before row ≡ Ok after → counted before.all.width ≡ counted e → FitsList e (row_members types (kind_through 5 types) row)
    row_fits around before after n end_of-MemberItem e form refs h reach = record { placed = tt; narrow = tt }
    row_fits around before after n (more_of-MemberItem m rest) e form refs h reach =
        let passed = row_passed (at around) before after m _ rest h in
        let tells = member_tells types (fact_named types) (kind_through 5 types) (named_tells types) m in
        let fits = member_fits around before m form.0 refs.0 passed.judged in
        let later = row_fits around (with_one types before m) after _ rest (end_past e (member_offset m) (member_kind types (kind_through 5 types) m)) form.1 refs.1 passed.later
        (past_tells before.all.width e (member_offset m) (member_fact types (fact_named types) m) (member_kind types (kind_through 5 types) m) reach tells) in
        record {
          placed = (begins_behind before.all.width e (member_offset m) (member_fact types (fact_named types) m) (member_kind types (kind_through 5 types) m) reach tells (place_form m form.0) passed.found.offset, fits.placed, later.placed);
          narrow = (fits.narrow, later.narrow);
        }

    member_fits : (around : ℕ) (before : MembersBefore) (m : MemberItem) → IsMemberInForm m → MemberRefs FitsNamed m → member_check (at around) before m ≡ Ok tt →
        Fits (member_kind types (kind_through 5 types) m)
    member_fits around before (part.Type t) form refs h = type_fits types as_declared t form.primitives
    member_fits around before (part.Enum e) form refs h = enum_fits types as_declared e
    member_fits around before (part.Set s) form refs h = set_fits types s
    member_fits around before (part.Ref r) form refs h = refs.fits
    member_fits around before (part.Composite' name offset since n row) form refs h =
        let passed = inside_passed (at around) before (part.Composite' name offset since n row) h in
        comp_fits (row_members types (kind_through 5 types) row)
        (row_fits (min (around + 1) 5) no_member passed.after _ row 0 form.3 refs passed.members refl)
        (small_is passed.after.all.width (members_end 0 (row_members types (kind_through 5 types) row)) (row_end (min (around + 1) 5) passed.after _ row passed.members) passed.width)

  -- ---- a declared composite

  pub composite_fits : (c : CompositeEl) → Good types (item.Composite c) → RowRefs FitsNamed (row_of c).1 → FitsMembers (members_of types (kind_through 5 types) c.children)
  composite_fits c good refs =
      let passed = composite_passed types c good.judged in
      let row = row_fits 1 no_member passed.after _ (row_of c).1 0 (composite_row_form c good.form.members) refs passed.members refl in
      let end = small_is passed.after.all.width (members_end 0 (row_members types (kind_through 5 types) (row_of c).1)) (row_end 1 passed.after _ (row_of c).1 passed.members) passed.width in
      let same = composite_row_kind types (kind_through 5 types) c in
      record { each = subst (FitsList 0) same row; width = subst (λ (ms : List Member). members_end 0 ms ≤ PLACE_LIMIT) same end }

  -- ---- names

  no_kind_fits : Fits unresolved
  no_kind_fits = record { placed = tt; narrow = tt; width = omega arith }

  plain_fits : (own : Use) (word : List ℕ) (primitive : PrimitiveType) → Fits (type_kind types own (plain_type word primitive))
  plain_fits own word primitive = type_fits types own (plain_type word primitive) (omega arith)

  either_fits : (accepted : AreAccepted types) (k : ℕ) (name : List ℕ) (o : Option TypesItem) → declared_as types name ≡ o → k ≤ 4294967295 →
      (declared_or_plain (option_map (item_fact types (fact_named types)) o) name).height < suc k →
      ((name : List ℕ) → IsBelow types (fact_named types) k name → FitsNamed name) →
      Fits (kind_or_plain types (option_map (item_kind types (kind_through 5 types) as_declared) o) name)
  either_fits accepted k name None found few low known = plain_by (λ o. Fits (plain_kind types o)) no_kind_fits (plain_fits as_declared) name
  either_fits accepted k name (Some (item.Type t)) found few low known = type_fits types as_declared t (declared_good types accepted name (item.Type t) found).form.primitives
  either_fits accepted k name (Some (item.Enum e)) found few low known = enum_fits types as_declared e
  either_fits accepted k name (Some (item.Set s)) found few low known = set_fits types s
  either_fits accepted k name (Some (item.Composite c)) found few low known =
      let high = subst (λ (f : Fact). f.height < suc k) (sym (composite_row_fact types (fact_named types) c)) low in
      let refs = row_refs (IsBelow types (fact_named types) k) FitsNamed known _ (row_of c).1 (row_below types (fact_named types) _ (row_of c).1 no_members k (omega arith) few high) in
      members_fits (members_of types (kind_through 5 types) c.children) (composite_fits c (declared_good types accepted name (item.Composite c) found) refs)

  one_more : (k : ℕ) → k ≤ 5 → (name : List ℕ) → (fact_named types name).height < k →
      ((declared_or_plain (option_map (item_fact types (fact_named types)) (declared_as types name)) name).height < k)
      × (kind_or_plain types (option_map (item_kind types (kind_through 5 types) as_declared) (declared_as types name)) name ≡ kind_through 5 types name)
  unfolding fact_named
  one_more k few name h =
      let more = settled types k 5 6 (omega arith) few (omega arith) name h in
      (subst (λ (f : Fact). f.height < k) (sym more.fact) h, more.kind)

  pub named_fits : AreAccepted types → (k : ℕ) → k ≤ 5 → (name : List ℕ) → (fact_named types name).height < k → FitsNamed name
  named_fits accepted zero few name h = absurd (omega arith)
  named_fits accepted (suc k) few name h =
      let more = one_more (suc k) few name h in
      record {
        fits = subst Fits more.1
            (either_fits accepted k name (declared_as types name) refl (omega arith) more.0 (λ other below. named_fits accepted k (omega arith) other below.height));
      }

  low_fits : AreAccepted types → (name : List ℕ) → IsLow types name → FitsNamed name
  low_fits accepted name low = let h = low.low in named_fits accepted 4 (omega arith) name (omega arith)

  -- ---- the members of a composite that a part uses

  low_same : (p : ℕ) → 4 ≤ p → (name : List ℕ) → IsLow types name → SameNamed types (fact_through 5 types) (fact_through p types) (kind_through 5 types) (kind_through p types) name
  low_same p least name low = let more = low_settled types p least name low in record { fact = more.fact; kind = more.kind }

  -- p names tell the members that five names tell
  names_same : (p : ℕ) → 4 ≤ p → (c : CompositeEl) → Good types (item.Composite c) → members_of types (kind_through p types) c.children ≡ members_of types (kind_through 5 types) c.children
  names_same p least c good =
      let passed = composite_passed types c good.judged in
      let low = row_low (declared_inside types) no_member passed.after _ (row_of c).1 (omega arith) passed.members in
      let same = row_same types (fact_through 5 types) (fact_through p types) (kind_through 5 types) (kind_through p types) _ (row_of c).1
      (row_refs (IsLow types) (SameNamed types (fact_through 5 types) (fact_through p types) (kind_through 5 types) (kind_through p types)) (low_same p least) _ (row_of c).1 low) no_members in
      sym (composite_row_kind types (kind_through p types) c) ∙ same.kind ∙ composite_row_kind types (kind_through 5 types) c

  pub used_same : (c : CompositeEl) → Good types (item.Composite c) → members_of types (kind_named types) c.children ≡ members_of types (kind_through 5 types) c.children
  unfolding kind_named
  used_same c good = names_same 4 (omega arith) c good

  -- more names change nothing of a composite's members
  pub more_members : (p : ℕ) → 4 ≤ p → (c : CompositeEl) → Good types (item.Composite c) → members_of types (kind_through p types) c.children ≡ members_of types (kind_named types) c.children
  more_members p least c good = names_same p least c good ∙ sym (used_same c good)

  pub used_fits : AreAccepted types → (c : CompositeEl) → Good types (item.Composite c) → FitsMembers (members_of types (kind_named types) c.children)
  used_fits accepted c good =
      let passed = composite_passed types c good.judged in
      let low = row_low (declared_inside types) no_member passed.after _ (row_of c).1 (omega arith) passed.members in
      let refs = row_refs (IsLow types) FitsNamed (low_fits accepted) _ (row_of c).1 low in
      subst FitsMembers (sym (used_same c good)) (composite_fits c good refs)

  -- ---- fields, and what the wire counts by

  declared_fits : AreAccepted types → (own : Use) (name : List ℕ) (t : TypesItem) → declared_as types name ≡ Some t → Fits (found_kind types (kind_named types) own (Some t))
  declared_fits accepted own name (item.Type t) found = type_fits types own t (declared_good types accepted name (item.Type t) found).form.primitives
  declared_fits accepted own name (item.Enum e) found = enum_fits types own e
  declared_fits accepted own name (item.Set s) found = set_fits types s
  declared_fits accepted own name (item.Composite c) found =
      with_fits own.presence (members_of types (kind_named types) c.children) (used_fits accepted c (declared_good types accepted name (item.Composite c) found))

  pub field_fits : AreAccepted types → (f : FieldEl) → Fits (field_kind types f)
  field_fits accepted f =
      named_by (λ o. Fits (found_kind types (kind_named types) (use_of f) o)) no_kind_fits (plain_fits (use_of f)) types f.type_name (declared_fits accepted (use_of f) f.type_name)

  none_fit : FitsMembers []
  none_fit = record { each = record { placed = tt; narrow = tt }; width = omega arith }

  declared_fit : AreAccepted types → (name : List ℕ) (t : TypesItem) → declared_as types name ≡ Some t → FitsMembers (found_members types (Some t))
  declared_fit accepted name (item.Type t) found = none_fit
  declared_fit accepted name (item.Enum e) found = none_fit
  declared_fit accepted name (item.Set s) found = none_fit
  declared_fit accepted name (item.Composite c) found = used_fits accepted c (declared_good types accepted name (item.Composite c) found)

  pub members_fit : AreAccepted types → (name : List ℕ) → FitsMembers (members_named types name)
  members_fit accepted name = named_by (λ o. FitsMembers (found_members types o)) none_fit (λ word primitive. none_fit) types name (declared_fit accepted name)

  -- ---- more names change nothing of a field

  declared_more : AreAccepted types → (p : ℕ) → 4 ≤ p → (own : Use) (name : List ℕ) (t : TypesItem) → declared_as types name ≡ Some t →
      found_kind types (kind_through p types) own (Some t) ≡ found_kind types (kind_named types) own (Some t)
  declared_more accepted p least own name (item.Type t) found = refl
  declared_more accepted p least own name (item.Enum e) found = refl
  declared_more accepted p least own name (item.Set s) found = refl
  declared_more accepted p least own name (item.Composite c) found =
      ap (composite_with own.presence) (more_members p least c (declared_good types accepted name (item.Composite c) found))

  pub field_more : AreAccepted types → (p : ℕ) → 4 ≤ p → (f : FieldEl) → found_kind types (kind_through p types) (use_of f) (type_named types f.type_name) ≡ field_kind types f
  field_more accepted p least f =
      named_by (λ o. found_kind types (kind_through p types) (use_of f) o ≡ found_kind types (kind_named types) (use_of f) o) refl (λ word primitive. refl) types f.type_name
      (declared_more accepted p least (use_of f) f.type_name)
