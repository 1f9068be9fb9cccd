-- What a judgement that found all in order has found.
use Rattle.std.proofs.Common.{◌≡◌, ℕ, Bool, true, false, List, [], ◌∷◌, refl, ap, sym, subst, ◌∙◌}
use Rattle.std.specs.Prelude.{◌==◌, ◌||◌, nat_lt, codes, Ok, Err, ⊤}
use mathlib.Core.Former.{Count}
use Rattle.std.specs.List.{AllByRecursion}
use Rattle.sbe_types.specs.InForm.{IsMemberInForm, AreMembersInForm}
use Rattle.sbe_types.specs.declared.tree.MemberItem.{MemberItem, Row_of-MemberItem, end_of-MemberItem, more_of-MemberItem, items-the_row-MemberItem, items_hidden-the_row-MemberItem-0}
use Rattle.sbe_types.specs.declared.tree.MemberItem as part
use Rattle.sbe_types.specs.declared.tree.CompositeEl.{CompositeEl}
use Rattle.sbe_types.specs.declared.tree.TypesItem.{TypesItem}
use Rattle.sbe_types.specs.declared.kind.Kind.{Kind}
use Rattle.sbe_types.specs.declared.kind.Member.{Member}
use Rattle.schema_rules.specs.declared.codes.CCode.{CCode}
use Rattle.schema_rules.specs.declared.codes.CCode.TheVariants as rule
use Rattle.schema_rules.specs.declared.facts.Fact.{Fact}
use Rattle.schema_rules.specs.Judging.{CheckResult, ◌>>=◌, Rules, first_of, at_element}
use Rattle.schema_rules.specs.Names.{is_among}
use Rattle.schema_rules.specs.Kinds.{member_name, member_offset, member_kind, row_members, members_of}
use Rattle.schema_rules.specs.Facts.{no_members, with_member, member_fact, row_fact, members_fact, fact_named, fact_of}
use Rattle.schema_rules.specs.Chains.{is_endless}
use Rattle.schema_rules.specs.CompositeRules.{Inside, deeper, MembersBefore, no_member, with_one, begins_early, first_rules, member_rules, last_rules, composite_rules, entered, row_check, member_check, members_check, composite_check, most_bytes, most_leaves, most_composites}

-- ---- judgements

pub then_ok : {A B : Type 0} (a : CheckResult A) (f : A → CheckResult B) (y : B) → (a >>= f) ≡ Ok y → (x : A) × (a ≡ Ok x) × (f x ≡ Ok y)
then_ok (Ok x) f y h = (x, refl, h)
then_ok (Err e) f y h = cc

pub behind_ok : {A : Type 0} (front name : List ℕ) (j : CheckResult A) (x : A) → at_element front name j ≡ Ok x → j ≡ Ok x
behind_ok front name (Ok y) x h = h
behind_ok front name (Err e) x h = cc

-- none of the rules is broken
abbrev pub AllPass : Rules → Type 0
AllPass [] = ⊤
AllPass (r ∷ rs) = (r.1 ≡ false) × AllPass rs

one_passes : (code : CCode) (broken : Bool) (rules : Rules) → first_of ((code, broken) ∷ rules) ≡ Ok tt → (broken ≡ false) × (first_of rules ≡ Ok tt)
one_passes code true rules h = cc
one_passes code false rules h = (refl, h)

pub all_pass : (rules : Rules) → first_of rules ≡ Ok tt → AllPass rules
all_pass [] h = tt
all_pass (r ∷ rs) h = let one = one_passes r.0 r.1 rs h in (one.0, all_pass rs one.1)

pub neither : (a b : Bool) → a || b ≡ false → (a ≡ false) × (b ≡ false)
neither true b h = cc
neither false b h = (refl, h)

-- ---- one member

-- what the rules have found of a member
pub record Passed (inside : Inside) (before : MembersBefore) (m : MemberItem) : Type 0 where
  pub first : first_of (first_rules inside.types m) ≡ Ok tt
  pub offset : begins_early before.all.width (member_offset m) (fact_of inside.types m) ≡ false
  pub name : is_among before.names (member_name m) ≡ false
  pub last : first_of (last_rules inside m) ≡ Ok tt

pub entered_passed : (inside : Inside) (before : MembersBefore) (m : MemberItem) → entered inside before m ≡ Ok tt → Passed inside before m
entered_passed inside before m h =
    let first = then_ok (first_of (first_rules inside.types m)) _ tt h in
    let common = then_ok (first_of (member_rules inside.types before m)) _ tt first.2 in
    let each = all_pass (member_rules inside.types before m) common.1 in
    record { first = first.1; offset = each.0; name = each.1.0; last = common.2 }

-- a composite written inside another
pub record PassedInside (inside : Inside) {n : _} (row : Row_of-MemberItem n) : Type 0 where
  pub after : MembersBefore
  pub members : row_check (deeper inside) no_member row ≡ Ok after
  pub low : inside.around == most_composites ≡ false
  pub width : nat_lt most_bytes after.all.width ≡ false
  pub leaves : nat_lt most_leaves after.all.leaves ≡ false

-- a member that is a composite has passed as one
abbrev pub IsPassedInside : Inside → MemberItem → Type 0
IsPassedInside inside (part.Type t) = ⊤
IsPassedInside inside (part.Enum e) = ⊤
IsPassedInside inside (part.Set s) = ⊤
IsPassedInside inside (part.Ref r) = ⊤
IsPassedInside inside (part.Composite' name offset since n row) = PassedInside inside row

pub inside_passed : (inside : Inside) (before : MembersBefore) (m : MemberItem) → member_check inside before m ≡ Ok tt → IsPassedInside inside m
inside_passed inside before (part.Type t) h = tt
inside_passed inside before (part.Enum e) h = tt
inside_passed inside before (part.Set s) h = tt
inside_passed inside before (part.Ref r) h = tt
inside_passed inside before (part.Composite' name offset since n row) h =
    let first = then_ok (entered inside before (part.Composite' name offset since n row)) _ tt h in
    let members = then_ok (row_check (deeper inside) no_member row) _ tt first.2 in
    let each = all_pass (composite_rules inside.around members.0.all) members.2 in
    let sizes = neither (nat_lt most_bytes members.0.all.width) (nat_lt most_leaves members.0.all.leaves) each.1.0 in
    record { after = members.0; members = members.1; low = each.0; width = sizes.0; leaves = sizes.1 }

pub member_passed : (inside : Inside) (before : MembersBefore) (m : MemberItem) → member_check inside before m ≡ Ok tt → Passed inside before m
member_passed inside before (part.Type t) h = entered_passed inside before (part.Type t) h
member_passed inside before (part.Enum e) h = entered_passed inside before (part.Enum e) h
member_passed inside before (part.Set s) h = entered_passed inside before (part.Set s) h
member_passed inside before (part.Ref r) h = entered_passed inside before (part.Ref r) h
member_passed inside before (part.Composite' name offset since n row) h =
    entered_passed inside before (part.Composite' name offset since n row) (then_ok (entered inside before (part.Composite' name offset since n row)) _ tt h).1

-- ---- members

-- the first of members, and those after it
pub record PassedRow (inside : Inside) (before after : MembersBefore) (m : MemberItem) {n : _} (rest : Row_of-MemberItem n) : Type 0 where
  pub judged : member_check inside before m ≡ Ok tt
  pub found : Passed inside before m
  pub later : row_check inside (with_one inside.types before m) rest ≡ Ok after

pub row_passed : (inside : Inside) (before after : MembersBefore) (m : MemberItem) (n : _) (rest : Row_of-MemberItem n) →
    row_check inside before (more_of-MemberItem m rest) ≡ Ok after → PassedRow inside before after m rest
row_passed inside before after m n rest h =
    let first = then_ok (at_element (codes ".") (member_name m) (member_check inside before m)) _ after h in
    let judged = behind_ok (codes ".") (member_name m) (member_check inside before m) tt first.1 in
    record { judged = judged; found = member_passed inside before m judged; later = first.2 }

-- what stands before the last is the composite of all
pub after_all : (inside : Inside) (before after : MembersBefore) (n : _) (row : Row_of-MemberItem n) →
    row_check inside before row ≡ Ok after → row_fact inside.types (fact_named inside.types) before.all row ≡ after.all
after_all inside before after n end_of-MemberItem h =
    let same : before ≡ after = cc in
    ap (λ (b : MembersBefore). b.all) same
after_all inside before after n (more_of-MemberItem m rest) h =
    after_all inside (with_one inside.types before m) after _ rest (row_passed inside before after m _ rest h).later

-- ---- the members of a declared composite, as a row

abbrev row_in : MemberItem → (n : Count) × Row_of-MemberItem n
row_in (part.Composite' _ _ _ _ row) = (_, row)
row_in _ = (_, end_of-MemberItem)

-- the members of a composite as a row
abbrev pub row_of : (c : CompositeEl) → (n : Count) × Row_of-MemberItem n
row_of c = row_in (part.Composite c)

fact_row : (types : List TypesItem) (facts : List ℕ → Fact) (all : Fact) (n : _) (row : Row_of-MemberItem n) →
    row_fact types facts all row ≡ members_fact types facts all (items-the_row-MemberItem n row)
fact_row types facts all n end_of-MemberItem = refl
fact_row types facts all n (more_of-MemberItem m rest) = fact_row types facts (with_member all (member_offset m) (member_fact types facts m)) _ rest

pub composite_row_fact : (types : List TypesItem) (facts : List ℕ → Fact) (c : CompositeEl) →
    row_fact types facts no_members (row_of c).1 ≡ members_fact types facts no_members c.children
composite_row_fact types facts c = fact_row types facts no_members _ (row_of c).1 ∙ ap (members_fact types facts no_members) (items_hidden-the_row-MemberItem-0 c.children)

kind_row : (types : List TypesItem) (kinds : List ℕ → Kind) (n : _) (row : Row_of-MemberItem n) → row_members types kinds row ≡ members_of types kinds (items-the_row-MemberItem n row)
kind_row types kinds n end_of-MemberItem = refl
kind_row types kinds n (more_of-MemberItem m rest) =
    ap (λ (ms : List Member). record { name = member_name m; offset = member_offset m; kind = member_kind types kinds m } ∷ ms) (kind_row types kinds _ rest)

pub composite_row_kind : (types : List TypesItem) (kinds : List ℕ → Kind) (c : CompositeEl) →
    row_members types kinds (row_of c).1 ≡ members_of types kinds c.children
composite_row_kind types kinds c = kind_row types kinds _ (row_of c).1 ∙ ap (members_of types kinds) (items_hidden-the_row-MemberItem-0 c.children)

judged_row : (inside : Inside) (before : MembersBefore) (n : _) (row : Row_of-MemberItem n) →
    row_check inside before row ≡ members_check inside before (items-the_row-MemberItem n row)
judged_row inside before n end_of-MemberItem = refl
judged_row inside before n (more_of-MemberItem m rest) =
    ap (λ (r : CheckResult MembersBefore). at_element (codes ".") (member_name m) (member_check inside before m) >>= (λ _. r))
    (judged_row inside (with_one inside.types before m) _ rest)

form_row : (n : _) (row : Row_of-MemberItem n) → AllByRecursion IsMemberInForm (items-the_row-MemberItem n row) → AreMembersInForm row
form_row n end_of-MemberItem h = tt
form_row n (more_of-MemberItem m rest) h = (h.0, form_row _ rest h.1)

pub composite_row_form : (c : CompositeEl) → AllByRecursion IsMemberInForm c.children → AreMembersInForm (row_of c).1
composite_row_form c h = form_row _ (row_of c).1 (subst (AllByRecursion IsMemberInForm) (sym (items_hidden-the_row-MemberItem-0 c.children)) h)

-- ---- a declared composite

-- a declared composite is the only one around its members
abbrev pub declared_inside : List TypesItem → Inside
declared_inside types = record { types = types; around = 1 }

-- what the rules have found of it
pub record PassedComposite (types : List TypesItem) (c : CompositeEl) : Type 0 where
  pub after : MembersBefore
  pub members : row_check (declared_inside types) no_member (row_of c).1 ≡ Ok after
  pub width : nat_lt most_bytes after.all.width ≡ false
  pub leaves : nat_lt most_leaves after.all.leaves ≡ false

pub composite_passed : (types : List TypesItem) (c : CompositeEl) → composite_check types c ≡ Ok tt → PassedComposite types c
composite_passed types c h =
    let first = then_ok (first_of ((rule.Cycle, is_endless types c) ∷ [])) _ tt h in
    let members = then_ok (members_check (declared_inside types) no_member c.children) _ tt first.2 in
    let each = all_pass (composite_rules 0 members.0.all) members.2 in
    let sizes = neither (nat_lt most_bytes members.0.all.width) (nat_lt most_leaves members.0.all.leaves) each.1.0 in
    record {
      after = members.0;
      members = judged_row (declared_inside types) no_member _ (row_of c).1 ∙ ap (members_check (declared_inside types) no_member) (items_hidden-the_row-MemberItem-0 c.children) ∙ members.1;
      width = sizes.0;
      leaves = sizes.1;
    }
