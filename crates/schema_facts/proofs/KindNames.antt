-- Four names reach all that an accepted kind has.
use Rattle.std.proofs.Common.{◌≡◌, ℕ, ◌+◌, ◌≤◌, Bool, true, false, List, Some, refl, ap, sym, subst, ◌∙◌, arith, inl, inr}
use Rattle.std.specs.Prelude.{◌⊎◌, ◌||◌, slice_get}
use Rattle.std.specs.List.{list_any}
use Rattle.std.specs.Str.{bytes_eq}
use Rattle.std.proofs.lemmas.Slice.Eq.{bytes_eq-Decides}
use Rattle.sbe_types.specs.declared.tree.MemberItem.{MemberItem, Row_of-MemberItem, end_of-MemberItem, more_of-MemberItem, items-the_row-MemberItem, items_hidden-the_row-MemberItem-0}
use Rattle.sbe_types.specs.declared.tree.MemberItem as part
use Rattle.sbe_types.specs.declared.tree.CompositeEl.{CompositeEl}
use Rattle.sbe_types.specs.declared.tree.FieldEl.{FieldEl}
use Rattle.sbe_types.specs.declared.tree.TypesItem.{TypesItem}
use Rattle.sbe_types.specs.declared.tree.TypesItem.TheVariants as item
use Rattle.schema_rules.specs.Names.{type_named}
use Rattle.schema_rules.specs.Kinds.{use_of, members_of, found_kind, kind_through, kind_named, field_kind}
use Rattle.schema_rules.specs.Chains.{member_has, row_has, composite_has}
use Rattle.schema_rules.specs.CompositeRules.{no_member}
use Rattle.schema_facts.specs.InOrder.{AreAccepted}
use Rattle.schema_facts.proofs.KindPassed.{row_of, declared_inside, composite_passed}
use Rattle.schema_facts.proofs.KindDepth.{MemberRefs, RowRefs, IsLow, row_low, low_settled}
use Rattle.schema_facts.proofs.KindDeclared.{good_at}
use Rattle.schema_facts.proofs.KindFits.{more_members, field_more}

-- ---- the names that a composite's refs have

either : (a b : Bool) → a || b ≡ true → (a ≡ true) ⊎ (b ≡ true)
either true b h = inl refl
either false b h = inr h

module _ (P : List ℕ → Type 0) (name : List ℕ) where
  mutual
    row_ref : (n : _) (row : Row_of-MemberItem n) → RowRefs P row → row_has (bytes_eq name) row ≡ true → P name
    row_ref n end_of-MemberItem refs h = cc
    row_ref n (more_of-MemberItem m rest) refs h =
        elim (either (member_has (bytes_eq name) m) (row_has (bytes_eq name) rest) h) [ inl here ↦ member_ref m refs.0 here | inr later ↦ row_ref _ rest refs.1 later ]

    member_ref : (m : MemberItem) → MemberRefs P m → member_has (bytes_eq name) m ≡ true → P name
    member_ref (part.Type t) refs h = cc
    member_ref (part.Enum e) refs h = cc
    member_ref (part.Set s) refs h = cc
    member_ref (part.Ref r) refs h = subst P (sym ((bytes_eq-Decides name r.type_name).0 h)) refs
    member_ref (part.Composite' name offset since n row) refs h = row_ref _ row refs h

has_row : (name_is : List ℕ → Bool) (n : _) (row : Row_of-MemberItem n) → row_has name_is row ≡ list_any (member_has name_is) (items-the_row-MemberItem n row)
has_row name_is n end_of-MemberItem = refl
has_row name_is n (more_of-MemberItem m rest) = ap (λ b. member_has name_is m || b) (has_row name_is _ rest)

composite_has_row : (name_is : List ℕ → Bool) (c : CompositeEl) → row_has name_is (row_of c).1 ≡ composite_has name_is c
composite_has_row name_is c = has_row name_is _ (row_of c).1 ∙ ap (list_any (member_has name_is)) (items_hidden-the_row-MemberItem-0 c.children)

-- ---- more names change nothing

same_kind : (types : List TypesItem) (p : ℕ) → 4 ≤ p → (name : List ℕ) → IsLow types name → kind_through p types name ≡ kind_through 4 types name
same_kind types p least name low = (low_settled types p least name low).kind ∙ sym (low_settled types 4 (omega arith) name low).kind

pub refs_more : (types : List TypesItem) (i n : ℕ) (c : CompositeEl) (name : List ℕ) → AreAccepted types → slice_get types i ≡ Some (item.Composite c) →
    composite_has (bytes_eq name) c ≡ true → kind_through (n + 4) types name ≡ kind_named types name
unfolding kind_named
refs_more types i n c name accepted found h =
    let passed = composite_passed types c (good_at types accepted i (item.Composite c) found).judged in
    let low = row_low (declared_inside types) no_member passed.after _ (row_of c).1 (omega arith) passed.members in
    same_kind types (n + 4) (omega arith) name (row_ref (IsLow types) name _ (row_of c).1 low (composite_has_row (bytes_eq name) c ∙ h))

pub members_more : (types : List TypesItem) (i n : ℕ) (c : CompositeEl) → AreAccepted types → slice_get types i ≡ Some (item.Composite c) →
    members_of types (kind_through (n + 4) types) c.children ≡ members_of types (kind_named types) c.children
members_more types i n c accepted found = more_members types (n + 4) (omega arith) c (good_at types accepted i (item.Composite c) found)

pub fields_more : (types : List TypesItem) (n : ℕ) (f : FieldEl) → AreAccepted types → found_kind types (kind_through (n + 4) types) (use_of f) (type_named types f.type_name) ≡ field_kind types f
fields_more types n f accepted = field_more types accepted (n + 4) (omega arith) f
