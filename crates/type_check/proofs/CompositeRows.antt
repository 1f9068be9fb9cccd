-- A composite that is judged inside another, over the list of its members.
use Rattle.std.proofs.Common.{◌≡◌, ℕ, List, refl, ap, ◌∙◌}
use Rattle.std.specs.Prelude.{codes, Ok, Err}
use mathlib.Core.Former.{Count}
use Rattle.sbe_types.specs.declared.tree.MemberItem.{MemberItem, Row_of-MemberItem, end_of-MemberItem, more_of-MemberItem, items-the_row-MemberItem, items_hidden-the_row-MemberItem-0}
use Rattle.sbe_types.specs.declared.tree.MemberItem as part
use Rattle.sbe_types.specs.declared.tree.CompositeEl.{CompositeEl}
use Rattle.schema_rules.specs.declared.facts.Fact.{Fact}
use Rattle.schema_rules.specs.Judging.{CheckResult, ◌>>=◌, first_of, at_element}
use Rattle.schema_rules.specs.Kinds.{member_name}
use Rattle.schema_rules.specs.CompositeRules.{Inside, deeper, MembersBefore, no_member, with_one, composite_rules, entered, row_check, member_check, members_check}
use Rattle.type_check.specs.CompositeCheck.{made_of, inner_check}

abbrev row_in : MemberItem → (n : Count) × Row_of-MemberItem n
row_in (part.Composite' _ _ _ _ row) = (_, row)
row_in _ = (_, end_of-MemberItem)

row_list : (inside : Inside) (before : MembersBefore) (n : _) (row : Row_of-MemberItem n) →
    row_check inside before row ≡ members_check inside before (items-the_row-MemberItem n row)
row_list inside before n end_of-MemberItem = refl
row_list inside before n (more_of-MemberItem m rest) =
    ap (λ (r : CheckResult MembersBefore). at_element (codes ".") (member_name m) (member_check inside before m) >>= (λ _. r))
    (row_list inside (with_one inside.types before m) _ rest)

made_then : (r : CheckResult MembersBefore) (f : Fact → CheckResult (Unit {0})) → (r >>= (λ members. f members.all)) ≡ (made_of r >>= f)
made_then (Ok members) f = refl
made_then (Err e) f = refl

pub inner_seen : (inside : Inside) (before : MembersBefore) (c : CompositeEl) → entered inside before (part.Composite c) ≡ Ok tt →
    member_check inside before (part.Composite c) ≡ inner_check inside c.children
inner_seen inside before c first =
    let row = row_in (part.Composite c) in
    let rules : Fact → CheckResult (Unit {0}) = λ all. first_of (composite_rules inside.around all) in
    ap (λ (r : CheckResult (Unit {0})). r >>= (λ _. row_check (deeper inside) no_member row.1 >>= (λ members. rules members.all))) first
    ∙ ap (λ (r : CheckResult MembersBefore). r >>= (λ members. rules members.all))
    (row_list (deeper inside) no_member row.0 row.1 ∙ ap (members_check (deeper inside) no_member) (items_hidden-the_row-MemberItem-0 c.children))
    ∙ made_then (members_check (deeper inside) no_member c.children) rules
