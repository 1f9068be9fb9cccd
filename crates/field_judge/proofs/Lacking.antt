-- What a row lacks.
use Rattle.std.proofs.Common.{◌≡◌, ◌<◌, ◌≤◌, ◌+◌, ℕ, zero, suc, List, [], ◌∷◌, take, drop, length, slice_get, Option, Some, None, option_map, refl, sym, ap, ◌∙◌, subst, arith}
use Rattle.tagvalue_codec.specs.Fields.{Field}
use Rattle.bridge_rules.specs.Values.{missing_by}
use Rattle.bridge_terms.specs.Parts.{pieces_of, run_of}
use Rattle.bridge_terms.specs.Plans.{Plan, Repeat, Slot}
use Rattle.bridge_terms.specs.WayBack.{Refusal, first, group_missing, if_unset, slot_missing}
use Rattle.text_values.specs.declared.row.TextValue.{TextValue}
use Rattle.text_values.specs.declared.value.ReadValue.{ReadValue}
use Rattle.text_values.specs.Read.{value_of_read}
use Rattle.text_values.specs.Rows.{Reads}
use Rattle.field_judge.specs.declared.field.AppField.{AppField}
use Rattle.field_judge.specs.declared.level.BackGroup.{BackGroup}
use Rattle.field_judge.specs.declared.level.BackLevel.{BackLevel}
use Rattle.field_judge.specs.declared.level.BackPart.TheVariants as part
use Rattle.field_judge.specs.declared.level.BackRow.{BackRow}
use Rattle.field_judge.specs.Fields.{fields_of}
use Rattle.field_judge.specs.Heads.{head_missing, head_owns, located, part_from, piece_missing, slot_head, group_head, Head, IsHeadRow}
use Rattle.field_judge.specs.Levels.{owned_by, IsLevel, IsNumbered}
use Rattle.field_judge.proofs.RunLemmas.{same_run}
use Rattle.field_judge.proofs.SliceLemmas.{drop_got}

-- a field or data that has a field lacks nothing
pub there_is : (s : Slot) (fields : List AppField) (place : ℕ) → 0 < place → slot_missing s.tag s.rule (located (slot_head s) fields place) ≡ None
there_is s fields zero some = absurd (none some)
  where
    none : 0 < 0 → ⊥
    none h = omega (arith, h)
there_is s fields (suc j) some = refl

-- one without a field lacks it, unless it has a value then
pub unset_is : (s : Slot) (fields : List AppField) (place tag : ℕ) (o : Option ReadValue) (told : Option Refusal) → place ≡ 0 → tag ≡ s.tag → missing_by s.rule ≡ option_map value_of_read o
    → if_unset tag (option_map value_of_read o) ≡ told → told ≡ slot_missing s.tag s.rule (located (slot_head s) fields place)
unset_is s fields place tag o told none same missing_is h =
    sym h ∙ ap (λ t. if_unset t (option_map value_of_read o)) same ∙ ap (if_unset s.tag) (sym missing_is) ∙ ap (λ k. slot_missing s.tag s.rule (located (slot_head s) fields k)) (sym none)

value_is : {v w : TextValue} → part.Value v ≡ part.Value w → v ≡ w
value_is h = cc

group_is : {b c : BackGroup} → part.Group b ≡ part.Group c → b ≡ c
group_is h = cc

not_both : {v : TextValue} {b : BackGroup} {Z : Type 0} → part.Value v ≡ part.Group b → Z
not_both h = absurd (never h)
  where
    never : {v : TextValue} {b : BackGroup} → part.Value v ≡ part.Group b → ⊥
    never k = cc

pub value_lacks : (levels : List BackLevel) (r : BackRow) (v : TextValue) (fields : List AppField) (place : ℕ) (told : Option Refusal) (h : Head) → r.part ≡ part.Value v → IsHeadRow levels h r
    → ((s : Slot) (fields : List AppField) → Reads v s.rule → r.tag ≡ s.tag → told ≡ slot_missing s.tag s.rule (located (slot_head s) fields place)) → told ≡ head_missing h (located h fields place)
value_lacks levels r v fields place told (slot_head s) here is tells = tells s fields (subst (λ w. Reads w s.rule) (value_is (sym is.is ∙ here)) is.reads) is.tag
value_lacks levels r v fields place told (group_head g inner) here is tells = not_both (sym here ∙ is.2.is)

pub count_lacks : (levels : List BackLevel) (r : BackRow) (b : BackGroup) (fields : List AppField) (place : ℕ) (told : Option Refusal) (h : Head) → r.part ≡ part.Group b → IsHeadRow levels h r → place ≡ 0
    → ((g : Repeat) (piece : List Field → Option Refusal) → b.count ≡ g.count → r.tag ≡ g.tag → told ≡ group_missing g piece None) → told ≡ head_missing h (located h fields place)
count_lacks levels r b fields place told (slot_head s) here is none tells = not_both (sym is.is ∙ here)
count_lacks levels r b fields place told (group_head g inner) here is none tells =
    let same : is.0 ≡ b = group_is (sym is.2.is ∙ here) in
    tells g (piece_missing inner) (ap (λ c. c.count) (sym same) ∙ is.2.count) is.2.tag
    ∙ ap (λ k. head_missing (group_head g inner) (located (group_head g inner) fields k)) (sym none)

pub some_place : (fields : List AppField) (place : ℕ) → 0 < place → place ≤ length fields → (j : ℕ) × (f : AppField) × (place ≡ suc j) × (slice_get fields j ≡ Some f)
some_place fields zero some within = absurd (none some)
  where
    none : 0 < 0 → ⊥
    none h = omega (arith, h)
some_place [] (suc j) some within = absurd (none within)
  where
    none : suc j ≤ 0 → ⊥
    none h = omega (arith, h)
some_place (f ∷ fs) (suc zero) some within = (0, f, refl, refl)
some_place (f ∷ fs) (suc (suc j)) some within =
    let more = some_place fs (suc j) (omega arith) (omega (arith, within)) in
    (suc more.0, more.1, ap suc more.2, more.3)

pub group_lacks : (levels : List BackLevel) (r : BackRow) (b : BackGroup) (fields rest run : List AppField) (place n : ℕ) (told : Option Refusal) (h : Head) → r.part ≡ part.Group b → IsHeadRow levels h r
    → 0 < place → place ≤ length fields → rest ≡ drop place fields → run ≡ take n rest → fields_of (take n rest) ≡ run_of (owned_by b.owned) 0 (fields_of rest)
    → ((inner : Plan) (own : BackLevel) → slice_get levels b.level ≡ Some own → IsLevel levels inner own → IsNumbered inner → told ≡ first (piece_missing inner) (pieces_of b.delimiter (fields_of run)).pieces)
    → told ≡ head_missing h (located h fields place)
group_lacks levels r b fields rest run place n told (slot_head s) here is some within rest_is run_is runs tells = not_both (sym is.is ∙ here)
group_lacks levels r b fields rest run place n told (group_head g inner) here is some within rest_is run_is runs tells =
    let same : is.0 ≡ b = group_is (sym is.2.is ∙ here) in
    let at = some_place fields place some within in
    let owned : b.owned ≡ g.owned = ap (λ c. c.owned) (sym same) ∙ is.2.owned in
    tells inner is.1 (ap (λ (c : BackGroup). slice_get levels c.level) (sym same) ∙ is.3) is.4 is.5
    ∙ ap (λ d. first (piece_missing inner) (pieces_of d (fields_of run)).pieces) (ap (λ c. c.delimiter) (sym same) ∙ is.2.delimiter)
    ∙ ap (λ run. first (piece_missing inner) (pieces_of g.delimiter run).pieces)
    (ap fields_of run_is ∙ runs ∙ (same_run (owned_by b.owned) (head_owns (group_head g inner)) 0 0 (λ tag. ap (λ os. owned_by os 0 tag) owned) (fields_of rest)).0
    ∙ ap (λ ys. run_of (head_owns (group_head g inner)) 0 (fields_of ys)) (rest_is ∙ ap (λ k. drop k fields) (at.2 ∙ next at.0)))
    ∙ ap (λ ys. group_missing g (piece_missing inner) (Some (part_from (group_head g inner) ys))) (sym (drop_got fields at.0 at.1 at.3))
    ∙ ap (λ k. head_missing (group_head g inner) (located (group_head g inner) fields k)) (sym at.2)
  where
    next : (j : ℕ) → suc j ≡ j + 1
    next j = omega arith
