-- Composites by their lists.
use Rattle.std.proofs.Common.{◌≡◌, ℕ, List, ◌∷◌, Ok, refl, ap, ◌∙◌}
use mathlib.Core.Former.{Count}
use Rattle.serde_json.specs.Data.{Data, Members}
use Rattle.sbe_types.specs.declared.kind.Kind.{Kind, Comp, Comp', Row_of-Member, end_of-Member, more_of-Member, items-the_row-Member, items_hidden-the_row-Member-0}
use Rattle.sbe_types.specs.declared.kind.Member.{Member}
use Rattle.sbe_types.specs.declared.message.Value.{Value}
use Rattle.line_values.specs.Refusals.{Reading, ◌>>=◌}
use Rattle.line_values.specs.Values.{row_names, composite_in, kind_in, row_in, value_in}
use Rattle.line_values.specs.Code.{member_list_names, member_list_read}

member_names_end : {n : _} (ms : Row_of-Member n) → row_names ms ≡ member_list_names (items-the_row-Member _ ms)
member_names_end end_of-Member = refl
member_names_end (more_of-Member name offset kind rest) = ap (λ ns. name ∷ ns) (member_names_end rest)

members_end : {n : _} (ms : Row_of-Member n) (found : Members) → row_in ms found ≡ member_list_read (items-the_row-Member _ ms) found
unfolding kind_in member_list_read
members_end end_of-Member found = refl
members_end (more_of-Member name offset kind rest) found = ap (λ r. value_in name kind found >>= (λ v. r >>= (λ vs. Ok (v ∷ vs)))) (members_end rest found)

same_composite : (a b : List (List ℕ)) (f g : Members → Reading (List Value)) (d : Data) → a ≡ b → ((x : Members) → f x ≡ g x) → composite_in a f d ≡ composite_in b g d
same_composite a b f g d h k = λ i. composite_in (h i) (λ x. k x i) d

-- the row of a composite
abbrev row_of : Kind → (n : Count) × Row_of-Member n
row_of (Comp' _ row) = (_, row)
row_of _ = (_, end_of-Member)

pub composite_opens : (ms : List Member) (d : Data) → kind_in (Comp ms) d ≡ composite_in (member_list_names ms) (member_list_read ms) d
unfolding kind_in
composite_opens ms d =
    let row = row_of (Comp ms) in
    let shown = items_hidden-the_row-Member-0 ms in
    same_composite _ _ _ _ d (member_names_end row.1 ∙ ap member_list_names shown) (λ found. members_end row.1 found ∙ ap (λ l. member_list_read l found) shown)
