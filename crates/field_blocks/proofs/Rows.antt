-- The row of a part.
use Rattle.std.proofs.Common.{◌≡◌, ◌<◌, ◌≤◌, ◌+◌, ℕ, zero, suc, true, false, List, [], ◌∷◌, drop, get_or, length, map, option_map, slice_get, Option, Some, None, refl, sym, ap, ◌∙◌, subst, arith, ℤ}
use Rattle.std.specs.Prelude.{IfSome, MatchOption}
use Rattle.id_tables.specs.Places.{place_of}
use Rattle.sbe_types.specs.declared.message.Value.{Value}
use Rattle.bridge_rules.proofs.BoolLemmas.{true_false}
use Rattle.bridge_rules.proofs.OptionLemmas.{some_is, none_some}
use Rattle.bridge_rules.specs.Members.{and_then, number_or_null, text_in}
use Rattle.bridge_terms.specs.Gathering.{text_at, value_found}
use Rattle.bridge_terms.specs.Parts.{part_at}
use Rattle.bridge_terms.specs.PlanFacts.{IsPlaced}
use Rattle.bridge_terms.specs.Plans.{Plan, Slot, is_in, tags}
use Rattle.text_values.specs.declared.row.TextValue.{TextValue}
use Rattle.text_values.specs.declared.value.ReadValue.{ReadValue}
use Rattle.text_values.specs.Read.{value_of_read}
use Rattle.text_values.specs.Rows.{Reads}
use Rattle.field_judge.specs.declared.field.AppField.{AppField}
use Rattle.field_judge.specs.declared.level.BackGroup.{BackGroup}
use Rattle.field_judge.specs.declared.level.BackLevel.{BackLevel}
use Rattle.field_judge.specs.declared.level.BackPart.TheVariants as part
use Rattle.field_judge.specs.declared.level.BackRow.{BackRow}
use Rattle.field_judge.specs.Heads.{head_tag, heads, located, part_from, slot_head, group_head, Head, IsHeadRow}
use Rattle.field_judge.proofs.Finding.{not_there}
use Rattle.field_judge.proofs.Locating.{head_at, head_in, head_row, one_place}
use Rattle.field_judge.proofs.Rows.{as_many}
use Rattle.field_judge.proofs.SliceLemmas.{drop_got}
use Rattle.field_blocks.specs.Found.{parts_in, AreFound, AreRowsOf}

-- the place of a part's tag is the part's
pub part_place : (p : Plan) (k : ℕ) (h : Head) (o : Option ℕ) → IsPlaced p → slice_get (heads p) k ≡ Some h → o ≡ place_of (head_tag h) (tags p) → o ≡ Some k
part_place p k h None placed at is = true_false (head_in p k h at) (not_there (head_tag h) (tags p) 0 (sym is))
part_place p k h (Some j) placed at is =
    let other = head_at p (head_tag h) j (sym is) in
    ap Some (one_place p j k other.0 h placed other.1 at other.2)

-- as many rows as tags
pub many_rows : (levels : List BackLevel) (p : Plan) (back : BackLevel) → AreRowsOf levels p back → length back.tags ≡ length back.rows
many_rows levels p back is = ap length is.level.tags ∙ as_many levels p back.rows is.level.rows

-- the place that a level has for the tag of a part
pub own_place : (levels : List BackLevel) (p : Plan) (back : BackLevel) (k id : ℕ) (h : Head) (o : Option ℕ) → AreRowsOf levels p back → slice_get (heads p) k ≡ Some h → id ≡ head_tag h
    → (length back.tags ≡ length back.rows → o ≡ place_of id back.tags) → o ≡ Some k
own_place levels p back k id h o is at same place =
    part_place p k h o is.numbered.placed at (place (many_rows levels p back is) ∙ ap (λ n. place_of n back.tags) same ∙ ap (place_of (head_tag h)) is.level.tags)

-- the row there is that of the part
pub own_row : (levels : List BackLevel) (p : Plan) (back : BackLevel) (j k : ℕ) (h : Head) (r : BackRow) → AreRowsOf levels p back → slice_get (heads p) k ≡ Some h → j ≡ k
    → slice_get back.rows j ≡ Some r → IsHeadRow levels h r
own_row levels p back j k h r is at same there = head_row levels p back.rows k h r is.numbered is.level.rows at (ap (slice_get back.rows) (sym same) ∙ there)

value_is : {v w : TextValue} → part.Value v ≡ part.Value w → v ≡ w
value_is h = cc

pub group_is : {b c : BackGroup} → part.Group b ≡ part.Group c → b ≡ c
group_is h = cc

pub value_group : {v : TextValue} {b : BackGroup} {Z : Type 0} → part.Value v ≡ part.Group b → Z
value_group h = absurd (never h)
  where
    never : {v : TextValue} {b : BackGroup} → part.Value v ≡ part.Group b → ⊥
    never k = cc

-- the row of a field or data reads its texts
pub slot_reads : (levels : List BackLevel) (s : Slot) (r : BackRow) (v : TextValue) → IsHeadRow levels (slot_head s) r → r.part ≡ part.Value v → Reads v s.rule
slot_reads levels s r v is here = subst (λ w. Reads w s.rule) (value_is (sym is.is ∙ here)) is.reads

-- the text of a part's field is that of its part
pub text_is : (p : Plan) (s : Slot) (fields : List AppField) (place : ℕ) (text : Option (List ℕ)) → located (slot_head s) fields place ≡ part_at s.tag (parts_in p fields)
    → text ≡ and_then (located (slot_head s) fields place) (λ x. Some x.text) → text_at s.tag (parts_in p fields) ≡ text
text_is p s fields place text located_is is = ap (λ o. and_then o (λ x. Some x.text)) (sym located_is) ∙ sym is

-- the text of the field before a place
pub before_is : (fields : List AppField) (place j : ℕ) (h : Head) (f : AppField) → place ≡ suc j → slice_get fields j ≡ Some f → Some f.text.now ≡ and_then (located h fields place) (λ x. Some x.text)
before_is fields place j h f is at =
    ap (λ fs. Some (part_from h fs).text) (sym (drop_got fields j f at)) ∙ ap (λ n. and_then (located h fields n) (λ x. Some x.text)) (sym is)

pub none_before : (fields : List AppField) (place : ℕ) (h : Head) → place ≡ 0 → ◌≡◌ {A = Option (List ℕ)} None (and_then (located h fields place) (λ x. Some x.text))
none_before fields place h is = ap (λ n. and_then (located h fields n) (λ x. Some x.text)) (sym is)

-- ---- what was read

pub number_text : (o : Option ℤ) → ◌≡◌ {A = Option (List ℕ)} None (text_in (number_or_null o))
number_text None = refl
number_text (Some n) = refl

-- a value that is found is what was read
pub seen_is : (read : ReadValue) (o : Option ReadValue) (found : Value) → o ≡ Some read → Some found ≡ option_map value_of_read o → found ≡ value_of_read read
seen_is read o found is h = some_is (h ∙ ap (option_map value_of_read) is)

-- nothing was found where nothing was read
pub none_seen : {Z : Type 0} (o : Option ReadValue) (found : Value) → o ≡ None → Some found ≡ option_map value_of_read o → Z
none_seen o found is h = none_some (sym (h ∙ ap (option_map value_of_read) is))

-- ---- answers taken apart

pub none_row : {X Z : Type 0} (o : Option X) (P : X → Type 0) → o ≡ None → MatchOption o ⊥ P → Z
none_row None P is h = absurd h
none_row (Some x) P is h = none_some (sym is)

pub some_row : {X : Type 0} (o : Option X) (P : X → Type 0) (x : X) → o ≡ Some x → MatchOption o ⊥ P → P x
some_row None P x is h = none_some is
some_row (Some y) P x is h = subst P (some_is is) h

pub some_held : {X : Type 0} (o : Option X) (P : X → Type 0) (x : X) → o ≡ Some x → IfSome o P → P x
some_held o P x is h = subst (λ o. IfSome o P) is h
