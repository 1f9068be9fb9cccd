-- What is read so far, in front of what is read of the rest.
use Rattle.std.proofs.Common.{◌≡◌, ℕ, ◌+◌, ◌<◌, List, [], ◌∷◌, ◌++◌, length, drop, get_or, Ok, Err, refl, sym, ap, ◌∙◌, append_assoc}
use Rattle.serde_json.specs.Data.{Members}
use Rattle.sbe_types.specs.declared.kind.Member.{Member}
use Rattle.sbe_types.specs.declared.message.Value.{Value}
use Rattle.line_values.specs.Refusals.{Reading, ◌>>=◌}
use Rattle.line_values.specs.Values.{value_in}
use Rattle.line_values.specs.Code.{member_list_read}
use Rattle.line_values.proofs.NameSteps.{there}

abbrev pub with_front : {A : Type 0} → List A → Reading (List A) → Reading (List A)
with_front front read = read >>= (λ xs. Ok (front ++ xs))

pub front_more : {A : Type 0} (front : List A) (x : A) (r : Reading (List A)) → with_front (front ++ x ∷ []) r ≡ with_front front (r >>= (λ ys. Ok (x ∷ ys)))
front_more front x (Ok ys) = ap Ok (append_assoc front (x ∷ []) ys)
front_more front x (Err e) = refl

pub members_more : (ms : List Member) (found : Members) (front : List Value) (i : ℕ) (m : Member) (v : Value) → i < length ms → m ≡ get_or ms i m → value_in m.name m.kind found ≡ Ok v
    → with_front (front ++ v ∷ []) (member_list_read (drop (i + 1) ms) found) ≡ with_front front (member_list_read (drop i ms) found)
unfolding member_list_read
members_more ms found front i m v h is read =
    front_more front v _ ∙ ap (with_front front) (sym (ap (λ xs. member_list_read xs found) (there ms i m h is) ∙ ap (λ o. o >>= (λ x. member_list_read (drop (i + 1) ms) found >>= (λ xs. Ok (x ∷ xs)))) read))
