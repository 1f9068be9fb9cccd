-- What is read so far of a level, in front of what is read of the rest.
use Rattle.std.proofs.Common.{◌≡◌, ℕ, ◌+◌, ◌<◌, List, [], ◌∷◌, ◌++◌, length, drop, get_or, Ok, sym, ap, ◌∙◌}
use Rattle.serde_json.specs.Data.{Members}
use Rattle.sbe_types.specs.declared.schema.Field.{Field}
use Rattle.sbe_types.specs.declared.schema.DataField.{DataField}
use Rattle.sbe_types.specs.declared.schema.Group.{Group}
use Rattle.sbe_types.specs.declared.message.Value.{Value}
use Rattle.sbe_types.specs.declared.message.DataVal.{DataVal}
use Rattle.sbe_types.specs.declared.message.GroupVal.{GroupVal}
use Rattle.line_values.specs.Refusals.{◌>>=◌}
use Rattle.line_values.specs.Values.{value_in}
use Rattle.line_values.proofs.NameSteps.{there}
use Rattle.line_values.proofs.ListSteps.{with_front, front_more}
use Rattle.line_reading.specs.Lines.{fields_read, data_read, parts_read, group_read}
use Rattle.line_reading.specs.Code.{group_list_read}

pub fields_more : (fs : List Field) (found : Members) (front : List Value) (i : ℕ) (f : Field) (v : Value) → i < length fs → f ≡ get_or fs i f → value_in f.name f.kind found ≡ Ok v
    → with_front (front ++ v ∷ []) (fields_read (drop (i + 1) fs) found) ≡ with_front front (fields_read (drop i fs) found)
unfolding fields_read
fields_more fs found front i f v h is read =
    front_more front v _ ∙ ap (with_front front) (sym (ap (λ xs. fields_read xs found) (there fs i f h is) ∙ ap (λ o. o >>= (λ x. fields_read (drop (i + 1) fs) found >>= (λ xs. Ok (x ∷ xs)))) read))

pub parts_more : (ps : List DataField) (found : Members) (front : List DataVal) (i : ℕ) (p : DataField) (v : DataVal) → i < length ps → p ≡ get_or ps i p → data_read p found ≡ Ok v
    → with_front (front ++ v ∷ []) (parts_read (drop (i + 1) ps) found) ≡ with_front front (parts_read (drop i ps) found)
unfolding parts_read
parts_more ps found front i p v h is read =
    front_more front v _ ∙ ap (with_front front) (sym (ap (λ xs. parts_read xs found) (there ps i p h is) ∙ ap (λ o. o >>= (λ x. parts_read (drop (i + 1) ps) found >>= (λ xs. Ok (x ∷ xs)))) read))

pub groups_more : (gs : List Group) (found : Members) (front : List GroupVal) (i : ℕ) (g : Group) (v : GroupVal) → i < length gs → g ≡ get_or gs i g → group_read g found ≡ Ok v
    → with_front (front ++ v ∷ []) (group_list_read (drop (i + 1) gs) found) ≡ with_front front (group_list_read (drop i gs) found)
unfolding group_list_read
groups_more gs found front i g v h is read =
    front_more front v _ ∙ ap (with_front front) (sym (ap (λ xs. group_list_read xs found) (there gs i g h is) ∙ ap (λ o. o >>= (λ x. group_list_read (drop (i + 1) gs) found >>= (λ xs. Ok (x ∷ xs)))) read))
