-- Composites lie at most four deep in one another, so four names reach all that a kind has.
use Rattle.std.proofs.Common.{◌≡◌, ℕ, zero, suc, ◌+◌, ◌≤◌, ◌<◌, max, true, false, List, ◌∷◌, Option, Some, None, refl, ap, sym, subst, ◌∙◌, arith}
use Rattle.std.specs.Prelude.{◌&&◌, nat_lt, option_map, Ok, ⊤}
use Rattle.std.proofs.lemmas.Bool.{lt-ltb, ltb-false}
use Rattle.sbe_types.specs.declared.tree.MemberItem.{MemberItem, Row_of-MemberItem, end_of-MemberItem, more_of-MemberItem}
use Rattle.sbe_types.specs.declared.tree.MemberItem as part
use Rattle.sbe_types.specs.declared.tree.CompositeEl.{CompositeEl}
use Rattle.sbe_types.specs.declared.tree.TypesItem.{TypesItem}
use Rattle.sbe_types.specs.declared.tree.TypesItem.TheVariants as item
use Rattle.sbe_types.specs.declared.kind.Kind.{Kind, Comp}
use Rattle.sbe_types.specs.declared.kind.Member.{Member}
use Rattle.schema_rules.specs.declared.facts.Fact.{Fact}
use Rattle.schema_rules.specs.Names.{declared_as}
use Rattle.schema_rules.specs.Kinds.{as_declared, member_name, member_offset, member_kind, row_members, item_kind, kind_or_plain, kind_through}
use Rattle.schema_rules.specs.Facts.{counted, no_members, with_member, member_fact, row_fact, item_fact, declared_or_plain, fact_through, fact_named}
use Rattle.schema_rules.specs.CompositeRules.{Inside, deeper, MembersBefore, no_member, with_one, row_check, member_check, is_too_high, last_rules}
use Rattle.schema_facts.proofs.KindPassed.{all_pass, inside_passed, member_passed, row_passed, row_of, composite_row_fact, composite_row_kind}

-- ---- the names that members refer to

abbrev mutual
  -- each name that a member refers to is so
  pub MemberRefs : (List ℕ → Type 0) → MemberItem → Type 0
  MemberRefs P (part.Type t) = ⊤
  MemberRefs P (part.Enum e) = ⊤
  MemberRefs P (part.Set s) = ⊤
  MemberRefs P (part.Ref r) = P r.type_name
  MemberRefs P (part.Composite' name offset since n row) = RowRefs P row

  -- and that members refer to
  pub RowRefs : (List ℕ → Type 0) → {n : _} → Row_of-MemberItem n → Type 0
  RowRefs P end_of-MemberItem = ⊤
  RowRefs P (more_of-MemberItem m rest) = MemberRefs P m × RowRefs P rest

module _ (P Q : List ℕ → Type 0) (from : (name : List ℕ) → P name → Q name) where
  mutual
    pub row_refs : (n : _) (row : Row_of-MemberItem n) → RowRefs P row → RowRefs Q row
    row_refs n end_of-MemberItem h = tt
    row_refs n (more_of-MemberItem m rest) h = (member_refs m h.0, row_refs _ rest h.1)

    pub member_refs : (m : MemberItem) → MemberRefs P m → MemberRefs Q m
    member_refs (part.Type t) h = tt
    member_refs (part.Enum e) h = tt
    member_refs (part.Set s) h = tt
    member_refs (part.Ref r) h = from r.type_name h
    member_refs (part.Composite' name offset since n row) h = row_refs _ row h

-- ---- what a passed member refers to

-- no more than three composites lie in what the name stands for
pub record IsLow (types : List TypesItem) (name : List ℕ) : Type 0 where
  pub low : (fact_named types name).height ≤ 3

-- a ref to a composite that isn't refused
kept_low : (around k : ℕ) → is_too_high around (suc k) ≡ false → around + suc k ≤ 4
kept_low around k h =
    let some : nat_lt 0 (suc k) ≡ true = lt-ltb 0 (suc k) (omega arith) in
    ltb-false 4 (around + suc k) (sym (ap (λ b. b && nat_lt 4 (around + suc k)) some) ∙ h)

-- a ref that isn't refused, where not too many composites are around it
pub ref_within : (around height : ℕ) → around ≤ 4 → is_too_high around height ≡ false → around + height ≤ 4
ref_within around zero few h = omega (arith, few)
ref_within around (suc k) few h = kept_low around k h

ref_low : (around height : ℕ) → 1 ≤ around → is_too_high around height ≡ false → height ≤ 3
ref_low around zero a h = omega arith
ref_low around (suc k) a h = let low = kept_low around k h in omega (arith, a, low)

mutual
  pub row_low : (inside : Inside) (before after : MembersBefore) (n : _) (row : Row_of-MemberItem n) → 1 ≤ inside.around →
      row_check inside before row ≡ Ok after → RowRefs (IsLow inside.types) row
  row_low inside before after n end_of-MemberItem a h = tt
  row_low inside before after n (more_of-MemberItem m rest) a h =
      let passed = row_passed inside before after m _ rest h in
      (member_low inside before m a passed.judged, row_low inside (with_one inside.types before m) after _ rest a passed.later)

  pub member_low : (inside : Inside) (before : MembersBefore) (m : MemberItem) → 1 ≤ inside.around →
      member_check inside before m ≡ Ok tt → MemberRefs (IsLow inside.types) m
  member_low inside before (part.Type t) a h = tt
  member_low inside before (part.Enum e) a h = tt
  member_low inside before (part.Set s) a h = tt
  member_low inside before (part.Ref r) a h =
      let each = all_pass (last_rules inside (part.Ref r)) (member_passed inside before (part.Ref r) h).last in
      record { low = ref_low inside.around (fact_named inside.types r.type_name).height a each.0 }
  member_low inside before (part.Composite' name offset since n row) a h =
      let passed = inside_passed inside before (part.Composite' name offset since n row) h in
      row_low (deeper inside) no_member passed.after _ row (omega arith) passed.members

-- ---- members by two ways to tell what names stand for

module _ (types : List TypesItem) (facts facts' : List ℕ → Fact) (kinds kinds' : List ℕ → Kind) where
  -- both ways tell the same of a name
  pub record SameNamed (name : List ℕ) : Type 0 where
    pub fact : facts' name ≡ facts name
    pub kind : kinds' name ≡ kinds name

  -- of members after others
  pub record SameRow (all : Fact) {n : _} (row : Row_of-MemberItem n) : Type 0 where
    pub fact : row_fact types facts' all row ≡ row_fact types facts all row
    pub kind : row_members types kinds' row ≡ row_members types kinds row

  -- and of a member
  pub record SameMember (m : MemberItem) : Type 0 where
    pub fact : member_fact types facts' m ≡ member_fact types facts m
    pub kind : member_kind types kinds' m ≡ member_kind types kinds m

  more_same : (all : Fact) (m : MemberItem) (n : _) (rest : Row_of-MemberItem n) → SameMember m → ((all : Fact) → SameRow all rest) → SameRow all (more_of-MemberItem m rest)
  more_same all m n rest one later =
      record {
        fact = ap (λ (f : Fact). row_fact types facts' (with_member all (member_offset m) f) rest) one.fact ∙ (later (with_member all (member_offset m) (member_fact types facts m))).fact;
        kind = ap (λ (k : Kind). record { name = member_name m; offset = member_offset m; kind = k } ∷ row_members types kinds' rest) one.kind
            ∙ ap (λ (ms : List Member). record { name = member_name m; offset = member_offset m; kind = member_kind types kinds m } ∷ ms) (later all).kind;
      }

  mutual
    pub row_same : (n : _) (row : Row_of-MemberItem n) → RowRefs SameNamed row → (all : Fact) → SameRow all row
    row_same n end_of-MemberItem h all = record { fact = refl; kind = refl }
    row_same n (more_of-MemberItem m rest) h all = more_same all m _ rest (member_same m h.0) (row_same _ rest h.1)

    pub member_same : (m : MemberItem) → MemberRefs SameNamed m → SameMember m
    member_same (part.Type t) h = record { fact = refl; kind = refl }
    member_same (part.Enum e) h = record { fact = refl; kind = refl }
    member_same (part.Set s) h = record { fact = refl; kind = refl }
    member_same (part.Ref r) h = record { fact = h.fact; kind = h.kind }
    member_same (part.Composite' name offset since n row) h =
        let same = row_same _ row h no_members in
        record { fact = same.fact; kind = ap (λ (ms : List Member). Comp ms) same.kind }

-- ---- the height of a composite is above those of its members

keeps_height : (a f : ℕ) → a ≤ 4294967296 → (a ≤ counted (max a (1 + f))) × (counted (max a (1 + f)) ≤ 4294967296)
keeps_height a f small = (omega arith, omega arith)

below_height : (a f r k : ℕ) → k ≤ 4294967295 → counted (max a (1 + f)) ≤ r → r < suc k → f < k
below_height a f r k small h less = omega arith

module _ (types : List TypesItem) (facts : List ℕ → Fact) where
  -- what the name stands for is lower than this
  pub record IsBelow (k : ℕ) (name : List ℕ) : Type 0 where
    pub height : (facts name).height < k

  row_above : (n : _) (row : Row_of-MemberItem n) (all : Fact) → all.height ≤ 4294967296 → all.height ≤ (row_fact types facts all row).height
  row_above n end_of-MemberItem all small = omega arith
  row_above n (more_of-MemberItem m rest) all small =
      let keeps = keeps_height all.height (member_fact types facts m).height small in
      let later = row_above _ rest (with_member all (member_offset m) (member_fact types facts m)) keeps.1 in
      let first = keeps.0 in
      omega (arith, first, later)

  mutual
    pub row_below : (n : _) (row : Row_of-MemberItem n) (all : Fact) (k : ℕ) → all.height ≤ 4294967296 → k ≤ 4294967295 →
        (row_fact types facts all row).height < suc k → RowRefs (IsBelow k) row
    row_below n end_of-MemberItem all k small few h = tt
    row_below n (more_of-MemberItem m rest) all k small few h =
        let keeps = keeps_height all.height (member_fact types facts m).height small in
        let later = row_above _ rest (with_member all (member_offset m) (member_fact types facts m)) keeps.1 in (
          member_below m k few (below_height all.height (member_fact types facts m).height (row_fact types facts (with_member all (member_offset m) (member_fact types facts m)) rest).height k few later h),
          row_below _ rest (with_member all (member_offset m) (member_fact types facts m)) k keeps.1 few h,
        )

    pub member_below : (m : MemberItem) (k : ℕ) → k ≤ 4294967295 → (member_fact types facts m).height < k → MemberRefs (IsBelow k) m
    member_below (part.Type t) k few h = tt
    member_below (part.Enum e) k few h = tt
    member_below (part.Set s) k few h = tt
    member_below (part.Ref r) k few h = record { height = h }
    member_below (part.Composite' name offset since n row) k few h = row_below _ row no_members k (omega arith) few (omega arith)

-- ---- more names change nothing

module _ (types : List TypesItem) where
  -- p names tell what n names tell
  pub record Settled (n p : ℕ) (name : List ℕ) : Type 0 where
    pub fact : fact_through p types name ≡ fact_through n types name
    pub kind : kind_through p types name ≡ kind_through n types name

  -- the same of what a declared type stands for
  record SettledBy (n p : ℕ) (o : Option TypesItem) (name : List ℕ) : Type 0 where
    fact : declared_or_plain (option_map (item_fact types (fact_through p types)) o) name ≡ declared_or_plain (option_map (item_fact types (fact_through n types)) o) name
    kind : kind_or_plain types (option_map (item_kind types (kind_through p types) as_declared) o) name ≡ kind_or_plain types (option_map (item_kind types (kind_through n types) as_declared) o) name

  to_same : (n p : ℕ) (name : List ℕ) → Settled n p name → SameNamed types (fact_through n types) (fact_through p types) (kind_through n types) (kind_through p types) name
  to_same n p name h = record { fact = h.fact; kind = h.kind }

  composite_settled : (n p : ℕ) (c : CompositeEl) (name : List ℕ) → RowRefs (Settled n p) (row_of c).1 → SettledBy n p (Some (item.Composite c)) name
  composite_settled n p c name h =
      let same = row_same types (fact_through n types) (fact_through p types) (kind_through n types) (kind_through p types) _ (row_of c).1
      (row_refs (Settled n p) (SameNamed types (fact_through n types) (fact_through p types) (kind_through n types) (kind_through p types)) (to_same n p) _ (row_of c).1 h) no_members in
      record {
        fact = sym (composite_row_fact types (fact_through p types) c) ∙ same.fact ∙ composite_row_fact types (fact_through n types) c;
        kind = ap (λ (ms : List Member). Comp ms) (sym (composite_row_kind types (kind_through p types) c) ∙ same.kind ∙ composite_row_kind types (kind_through n types) c);
      }

  either_settled : (k n p : ℕ) (o : Option TypesItem) (name : List ℕ) → k ≤ 4294967295 →
      (declared_or_plain (option_map (item_fact types (fact_through n types)) o) name).height < suc k →
      ((name : List ℕ) → IsBelow types (fact_through n types) k name → Settled n p name) → SettledBy n p o name
  either_settled k n p None name few h known = record { fact = refl; kind = refl }
  either_settled k n p (Some (item.Type t)) name few h known = record { fact = refl; kind = refl }
  either_settled k n p (Some (item.Enum e)) name few h known = record { fact = refl; kind = refl }
  either_settled k n p (Some (item.Set s)) name few h known = record { fact = refl; kind = refl }
  either_settled k n p (Some (item.Composite c)) name few h known =
      let high = subst (λ (f : Fact). f.height < suc k) (sym (composite_row_fact types (fact_through n types) c)) h in
      composite_settled n p c name
      (row_refs (IsBelow types (fact_through n types) k) (Settled n p) known _ (row_of c).1 (row_below types (fact_through n types) _ (row_of c).1 no_members k (omega arith) few high))

  -- as many names as the height tell all
  pub settled : (k n p : ℕ) → k ≤ 4294967295 → k ≤ n → k ≤ p → (name : List ℕ) → (fact_through n types name).height < k → Settled n p name
  settled zero n p few least most name h = absurd (omega arith)
  settled (suc k) zero p few least most name h = absurd (omega arith)
  settled (suc k) (suc n) zero few least most name h = absurd (omega arith)
  settled (suc k) (suc n) (suc p) few least most name h =
      let by = either_settled k n p (declared_as types name) name (omega arith) h (λ other below. settled k n p (omega arith) (omega arith) (omega arith) other below.height) in
      record { fact = by.fact; kind = by.kind }

  low_settled_by : (p : ℕ) → 4 ≤ p → (name : List ℕ) → (fact_through 5 types name).height ≤ 3 → Settled 5 p name
  low_settled_by p least name low = settled 4 5 p (omega arith) (omega arith) least name (omega arith)

  pub low_settled : (p : ℕ) → 4 ≤ p → (name : List ℕ) → IsLow types name → Settled 5 p name
  unfolding fact_named
  low_settled p least name low = low_settled_by p least name low.low
