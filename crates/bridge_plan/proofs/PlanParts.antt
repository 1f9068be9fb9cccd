-- Each part of a covered level has one place in its plan.
use Rattle.std.proofs.Common.{◌≡◌, ◌⊎◌, inl, inr, ℕ, ◌<◌, ◌≤◌, ◌+◌, suc, Bool, true, false, cond, arith, List, [], ◌∷◌, ◌++◌, map, length, Option, Some, None, refl, sym, ap, ◌∙◌, subst}
use Rattle.std.specs.Prelude.{◌&&◌, ◌==◌, is_some, ⊤}
use Rattle.std.proofs.lemmas.Bool.{eqb-true, eqb-false, eq-eqb}
use Rattle.std.proofs.lemmas.List.{length-map}
use denote.Hole.Carrier as carrier
use Rattle.sbe_types.specs.declared.kind.Leaf.{Leaf as LeafOf}
use Rattle.sbe_types.specs.declared.message.Value.{Value}
use Rattle.sbe_types.specs.declared.message.Value as value
use Rattle.sbe_types.specs.declared.schema.Level as levels
use Rattle.sbe_types.specs.declared.schema.Field.{Field}
use Rattle.sbe_types.specs.declared.schema.DataField.{DataField}
use Rattle.sbe_types.specs.declared.schema.Group.{Group, Group'}
use Rattle.sbe_types.specs.declared.schema.Level.{Level, Level', Row_of-Group, end_of-Group, more_of-Group, items-the_row-Group, items_shown-the_row-Group-0, out-Level}
use Rattle.reference_graph.specs.Expansion.{Structure, ended, plain, counted, structure_tags}
use Rattle.bridge_rules.specs.Rules.{Rule}
use Rattle.bridge_rules.specs.Members.{and_then}
use Rattle.bridge_rules.specs.Good.{Good}
use Rattle.bridge_rules.specs.Datatypes.{Datatype, whole_number, decimal_number, character, text, boolean, timestamp, time_of_day, calendar_day, month_of_year, raw, code_set, character_set, unbridged}
use Rattle.bridge_rules.specs.Table.{rule_of, data_rule}
use Rattle.bridge_rules.proofs.OptionLemmas.{some_is, none_some, and_then_is, and_then_some, and_first, and_second}
use Rattle.bridge_rules.proofs.BoolLemmas.{true_false, either, or_left, or_right, or_false, second_of, not_true, same_self, if_true, if_false}
use Rattle.bridge_terms.specs.Plans.{Plan, Slot, Repeat, Place, Each, done, single, group, in_fields, in_data, is_in}
use Rattle.bridge_terms.specs.Blocks.{field_number, data_number, field_places, data_places, group_places, HasAll, IsComplete, AreComplete, AreApart, IsSeparate, AreSeparate, IsHeld, HoldsData, IsPlanOf}
use Rattle.bridge_plan.specs.Mappings.{Mapping, datatype_of, is_plain, inner_of, delimiter_of}
use Rattle.bridge_plan.specs.Covers.{is_free, is_covered, is_delimiter, length_tags, data_tags, inner_or, fields_uncovered, data_uncovered, uncovered, groups_uncovered, group_uncovered, group_tag, field_slot, data_slot, or_slot, slot_of, group_of, groups_in, level_in, count_leaf, slot_before, repeat_of, repeat_before, group_before, plan_of}
use Rattle.bridge_plan.specs.StructureFacts.{IsDistinct, EachGroup, HasCount}
use Rattle.bridge_plan.proofs.Planning.{in_left, in_right}
use Rattle.bridge_plan.proofs.Covered.{path_none, group_none, is_there, covered_none, IsCoveredGroup, level_parts, IsCoveredEntry, covered_entries, each_turned, each_both}

-- ---- numbers of tags

-- The tag is number j of these, of which the first is number i.
abbrev pub IsAt : ℕ → ℕ → ℕ → List ℕ → Type 0
IsAt tag j i [] = ⊥
IsAt tag j i (x ∷ xs) = ((j ≡ i) × (x ≡ tag)) ⊎ IsAt tag j (suc i) xs

from_on : (tag j i : ℕ) (xs : List ℕ) → IsAt tag j i xs → i ≤ j
from_on tag j i [] h = absurd h
from_on tag j i (x ∷ xs) (inl is) = omega (arith, is.0)
from_on tag j i (x ∷ xs) (inr later) = omega (arith, from_on tag j (suc i) xs later)

before_end : (tag j i : ℕ) (xs : List ℕ) → IsAt tag j i xs → j < i + length xs
before_end tag j i [] h = absurd h
before_end tag j i (x ∷ xs) (inl is) = omega (arith, is.0)
before_end tag j i (x ∷ xs) (inr later) = omega (arith, before_end tag j (suc i) xs later)

one_tag : (t u j i : ℕ) (xs : List ℕ) → IsAt t j i xs → IsAt u j i xs → t ≡ u
one_tag t u j i [] h k = absurd h
one_tag t u j i (x ∷ xs) (inl a) (inl b) = sym a.1 ∙ b.1
one_tag t u j i (x ∷ xs) (inl a) (inr b) = absurd (omega (arith, a.0, from_on u j (suc i) xs b))
one_tag t u j i (x ∷ xs) (inr a) (inl b) = absurd (omega (arith, b.0, from_on t j (suc i) xs a))
one_tag t u j i (x ∷ xs) (inr a) (inr b) = one_tag t u j (suc i) xs a b

after_first : (i j : ℕ) → i ≤ j → (i == j) ≡ false → suc i ≤ j
after_first i j h n = omega (arith, h, eqb-false i j n)

some_tag : (j i : ℕ) (xs : List ℕ) → i ≤ j → j < i + length xs → (tag : ℕ) × IsAt tag j i xs
some_tag j i [] low high = absurd (omega (arith, low, high))
some_tag j i (x ∷ xs) low high = elim (either (i == j)) [
  | inl t ↦ (x, inl (sym (eqb-true i j t), refl))
  | inr f ↦ let more = some_tag j (suc i) xs (after_first i j low f) (omega (arith, high)) in (more.0, inr more.1)
]

-- ---- the ids of a level's parts

abbrev pub field_ids : Level → List ℕ
field_ids level = map (λ (f : Field). f.id) (out-Level level).fields

abbrev pub data_ids : Level → List ℕ
data_ids level = map (λ (d : DataField). d.id) (out-Level level).parts

abbrev pub group_ids : Level → List ℕ
group_ids level = map group_tag (groups_in level)

pub groups_same : (level : Level) → (out-Level level).groups ≡ groups_in level
unfolding levels.out-Level carrier.out
groups_same (Level' name id semantic since block_length fields n groups parts) = items_shown-the_row-Group-0 n groups

-- ---- what is found has its number

abbrev slot_by : ℕ → ℕ → Rule → Slot
slot_by tag i rule = record { tag = tag; place = in_fields i; rule = rule }

abbrev data_by : ℕ → ℕ → Rule → Slot
data_by tag i rule = record { tag = tag; place = in_data i; rule = rule }

abbrev field_found : Mapping → ℕ → ℕ → Field → Option Slot
field_found m tag i f = and_then (rule_of f.kind (datatype_of m tag)) (λ rule. Some (slot_by tag i rule))

abbrev data_found : Mapping → ℕ → ℕ → DataField → Option Slot
data_found m tag i d = and_then (data_rule d (datatype_of m tag)) (λ rule. Some (data_by tag i rule))

field_numbered : (m : Mapping) (tag i : ℕ) (fs : List Field) (slot : Slot) → field_slot m tag i fs ≡ Some slot → (j : ℕ) × (slot.place ≡ in_fields j) × IsAt tag j i (map (λ (f : Field). f.id) fs)
field_numbered m tag i [] slot h = none_some h
field_numbered m tag i (f ∷ fs) slot h = elim (either (f.id == tag)) [
  | inl t ↦
      let is = and_then_is (rule_of f.kind (datatype_of m tag)) (λ (rule : Rule). Some (slot_by tag i rule)) slot (sym (if_true (f.id == tag) (field_found m tag i f) (field_slot m tag (suc i) fs) t) ∙ h) in
      (i, ap (λ (s : Slot). s.place) (sym (some_is is.2)), inl (refl, eqb-true f.id tag t))
  | inr n ↦
      let more = field_numbered m tag (suc i) fs slot (sym (if_false (f.id == tag) (field_found m tag i f) (field_slot m tag (suc i) fs) n) ∙ h) in
      (more.0, more.1, inr more.2)
]

-- a slot of data has its number, and good values of it are texts
record IsDataSlot (tag i : ℕ) (ids : List ℕ) (slot : Slot) : Type 0 where
  number : ℕ
  place : slot.place ≡ in_data number
  at : IsAt tag number i ids
  holds : (v : Value) → Good slot.rule v → (bytes : List ℕ) × (v ≡ value.Text bytes)

data_texts : (d : DataField) (kind : Datatype) (rule : Rule) → data_rule d kind ≡ Some rule → (v : Value) → Good rule v → (bytes : List ℕ) × (v ≡ value.Text bytes)
data_texts d raw rule h = subst (λ r. (v : Value) → Good r v → (bytes : List ℕ) × (v ≡ value.Text bytes)) (some_is h) (λ v good. (good.0, good.1))
data_texts d text rule h = subst (λ r. (v : Value) → Good r v → (bytes : List ℕ) × (v ≡ value.Text bytes)) (some_is h) (λ v good. (good.0, good.1))
data_texts d whole_number rule h = none_some h
data_texts d decimal_number rule h = none_some h
data_texts d character rule h = none_some h
data_texts d boolean rule h = none_some h
data_texts d timestamp rule h = none_some h
data_texts d time_of_day rule h = none_some h
data_texts d calendar_day rule h = none_some h
data_texts d month_of_year rule h = none_some h
data_texts d (code_set cs) rule h = none_some h
data_texts d (character_set cs) rule h = none_some h
data_texts d unbridged rule h = none_some h

data_numbered : (m : Mapping) (tag i : ℕ) (ds : List DataField) (slot : Slot) → data_slot m tag i ds ≡ Some slot → IsDataSlot tag i (map (λ (d : DataField). d.id) ds) slot
data_numbered m tag i [] slot h = none_some h
data_numbered m tag i (d ∷ ds) slot h = elim (either (d.id == tag)) [
  | inl t ↦
      let is = and_then_is (data_rule d (datatype_of m tag)) (λ (rule : Rule). Some (data_by tag i rule)) slot (sym (if_true (d.id == tag) (data_found m tag i d) (data_slot m tag (suc i) ds) t) ∙ h) in
      record {
        number = i;
        place = ap (λ (s : Slot). s.place) (sym (some_is is.2));
        at = inl (refl, eqb-true d.id tag t);
        holds = subst (λ (s : Slot). (v : Value) → Good s.rule v → (bytes : List ℕ) × (v ≡ value.Text bytes)) (some_is is.2) (data_texts d (datatype_of m tag) is.0 is.1);
      }
  | inr n ↦
      let more = data_numbered m tag (suc i) ds slot (sym (if_false (d.id == tag) (data_found m tag i d) (data_slot m tag (suc i) ds) n) ∙ h) in
      record { number = more.number; place = more.place; at = inr more.at; holds = more.holds }
]

pub group_numbered : (tag i : ℕ) (gs : List Group) (found : ℕ × Group) → group_of tag i gs ≡ Some found → IsAt tag found.0 i (map group_tag gs)
group_numbered tag i [] found h = none_some h
group_numbered tag i (g ∷ gs) found h = elim (either (group_tag g == tag)) [
  | inl t ↦
      let is : (i, g) ≡ found = some_is (sym (if_true (group_tag g == tag) (Some (i, g)) (group_of tag (suc i) gs) t) ∙ h) in
      inl (ap (λ (x : ℕ × Group). x.0) (sym is), eqb-true (group_tag g) tag t)
  | inr n ↦ inr (group_numbered tag (suc i) gs found (sym (if_false (group_tag g == tag) (Some (i, g)) (group_of tag (suc i) gs) n) ∙ h))
]

-- the place is that of the part with the tag
abbrev pub HasPlace : Level → ℕ → Place → Type 0
HasPlace level tag (in_fields j) = IsAt tag j 0 (field_ids level)
HasPlace level tag (in_data j) = IsAt tag j 0 (data_ids level)

-- a slot has its place, and good values of data are texts
pub record IsSlotOf (level : Level) (tag : ℕ) (slot : Slot) : Type 0 where
  pub place : HasPlace level tag slot.place
  pub holds : (v : Value) → Good slot.rule v → IsHeld slot.place v

pub slot_numbered : (m : Mapping) (tag : ℕ) (level : Level) (slot : Slot) → slot_of m tag level ≡ Some slot → IsSlotOf level tag slot
slot_numbered m tag level slot h = by_field (field_slot m tag 0 (out-Level level).fields) refl h
  where
    by_field : (o : Option Slot) → field_slot m tag 0 (out-Level level).fields ≡ o → or_slot o (data_slot m tag 0 (out-Level level).parts) ≡ Some slot → IsSlotOf level tag slot
    by_field (Some s) is k =
        let own = field_numbered m tag 0 (out-Level level).fields slot (is ∙ k) in
        record { place = subst (HasPlace level tag) (sym own.1) own.2; holds = λ v good. subst (λ p. IsHeld p v) (sym own.1) tt }
    by_field None is k =
        let own = data_numbered m tag 0 (out-Level level).parts slot k in
        record { place = subst (HasPlace level tag) (sym own.place) own.at; holds = λ v good. subst (λ p. IsHeld p v) (sym own.place) (own.holds v good) }

-- what a group's repeat says of its place and level
pub repeat_is : (tag place : ℕ) (inner : Structure) (x : Group) (g : Repeat) → repeat_of tag place inner x ≡ Some g → (g.place ≡ place) × (g.level ≡ level_in x)
repeat_is tag place inner x g h = by_delimiter (delimiter_of inner) (count_leaf x) h
  where
    by_delimiter : (d : Option ℕ) (c : Option LeafOf) →
        and_then d (λ delimiter. and_then c (λ count. Some (record { tag = tag; level = level_in x; place = place; delimiter = delimiter; count = count; owned = structure_tags inner }))) ≡ Some g →
        (g.place ≡ place) × (g.level ≡ level_in x)
    by_delimiter None c k = none_some k
    by_delimiter (Some d) None k = none_some k
    by_delimiter (Some d) (Some c) k = (ap (λ (r : Repeat). r.place) (sym (some_is k)), ap (λ (r : Repeat). r.level) (sym (some_is k)))

-- ---- plans part by part

-- what holds at the end of a structure, and then at each part before it
pub record Steps (m : Mapping) (K : Structure → Group → Type 0) (Q : Structure → Level → Plan → Type 0) : Type 0 where
  pub at_end : (level : Level) → Q ended level done
  pub no_slot : (tag : ℕ) (rest : Structure) (level : Level) (p : Plan) → slot_of m tag level ≡ None → Q rest level p → Q (plain tag rest) level p
  pub a_slot : (tag : ℕ) (rest : Structure) (level : Level) (p : Plan) (slot : Slot) → slot_of m tag level ≡ Some slot → Q rest level p → Q (plain tag rest) level (single slot p)
  pub no_group : (tag : ℕ) (inner rest : Structure) (level : Level) (p : Plan) → ((found : ℕ × Group) → group_of tag 0 (groups_in level) ≡ Some found → repeat_of tag found.0 inner found.1 ≡ None) →
      Q rest level p → Q (counted tag inner rest) level p
  pub a_group : (tag : ℕ) (inner rest : Structure) (level : Level) (p : Plan) (found : ℕ × Group) (g : Repeat) → group_of tag 0 (groups_in level) ≡ Some found → repeat_of tag found.0 inner found.1 ≡ Some g →
      K inner found.1 → Q inner (level_in found.1) (plan_of m inner (level_in found.1)) → Q rest level p → Q (counted tag inner rest) level (group g (plan_of m inner (level_in found.1)) p)

repeat_step : (m : Mapping) (K : Structure → Group → Type 0) (Q : Structure → Level → Plan → Type 0) → Steps m K Q → (tag : ℕ) (inner rest : Structure) (level : Level) (p : Plan) (found : ℕ × Group) →
    group_of tag 0 (groups_in level) ≡ Some found → (o : Option Repeat) → repeat_of tag found.0 inner found.1 ≡ o → K inner found.1 → Q inner (level_in found.1) (plan_of m inner (level_in found.1)) → Q rest level p →
    Q (counted tag inner rest) level (repeat_before o (plan_of m inner (level_in found.1)) p)
repeat_step m K Q steps tag inner rest level p found is None none own deeper more =
    steps.no_group tag inner rest level p (λ other k. subst (λ (x : ℕ × Group). repeat_of tag x.0 inner x.1 ≡ None) (some_is (sym is ∙ k)) none) more
repeat_step m K Q steps tag inner rest level p found is (Some g) some own deeper more = steps.a_group tag inner rest level p found g is some own deeper more

pub plan_by : (m : Mapping) (K : Structure → Group → Type 0) (Q : Structure → Level → Plan → Type 0) → Steps m K Q → (s : Structure) (level : Level) → EachGroup K s level → Q s level (plan_of m s level)
plan_by m K Q steps ended level all = steps.at_end level
plan_by m K Q steps (plain tag rest) level all = by_slot (slot_of m tag level) refl (plan_by m K Q steps rest level all)
  where
    by_slot : (o : Option Slot) → slot_of m tag level ≡ o → Q rest level (plan_of m rest level) → Q (plain tag rest) level (slot_before o (plan_of m rest level))
    by_slot None is more = steps.no_slot tag rest level (plan_of m rest level) is more
    by_slot (Some slot) is more = steps.a_slot tag rest level (plan_of m rest level) slot is more
plan_by m K Q steps (counted tag inner rest) level all =
    by_group (group_of tag 0 (groups_in level)) refl (λ below deep. plan_by m K Q steps inner below deep) (plan_by m K Q steps rest level all.1)
  where
    by_group : (o : Option (ℕ × Group)) → group_of tag 0 (groups_in level) ≡ o → ((below : Level) → EachGroup K inner below → Q inner below (plan_of m inner below)) → Q rest level (plan_of m rest level) →
        Q (counted tag inner rest) level (group_before o tag inner (λ below. plan_of m inner below) (plan_of m rest level))
    by_group None is deeper more = steps.no_group tag inner rest level (plan_of m rest level) (λ other k. none_some (sym is ∙ k)) more
    by_group (Some found) is deeper more =
        let own = all.0 found is in
        repeat_step m K Q steps tag inner rest level (plan_of m rest level) found is (repeat_of tag found.0 inner found.1) refl own.0 (deeper (level_in found.1) own.1) more

-- ---- no part has two places

-- the numbers are those of parts with other tags each
record Once (tags ids ns : List ℕ) : Type 0 where
  tagged : (j : ℕ) → is_in j ns ≡ true → (tag : ℕ) × (is_in tag tags ≡ true) × IsAt tag j 0 ids
  apart : AreApart ns

once_none : (tags ids : List ℕ) → Once tags ids []
once_none tags ids = record { tagged = λ j h. true_false h refl; apart = tt }

once_wider : (tags more ids ns : List ℕ) → ((t : ℕ) → is_in t tags ≡ true → is_in t more ≡ true) → Once tags ids ns → Once more ids ns
once_wider tags more ids ns turn once = record { tagged = λ j h. let own = once.tagged j h in (own.0, turn own.0 own.1, own.2); apart = once.apart }

once_more : (tag : ℕ) (tags more ids ns : List ℕ) (j : ℕ) → IsAt tag j 0 ids → is_in tag tags ≡ false → is_in tag more ≡ true → ((t : ℕ) → is_in t tags ≡ true → is_in t more ≡ true) →
    Once tags ids ns → Once more ids (j ∷ ns)
once_more tag tags more ids ns j at new here turn once = record {
  tagged = λ k h. elim (either (j == k)) [
    | inl t ↦ (tag, here, subst (λ n. IsAt tag n 0 ids) (eqb-true j k t) at)
    | inr f ↦ let own = once.tagged k (second_of (j == k) (is_in k ns) h f) in (own.0, turn own.0 own.1, own.2)
  ];
  apart = (
    elim (either (is_in j ns)) [
      | inl t ↦
          let own = once.tagged j t in
          true_false (ap (λ n. is_in n tags) (one_tag tag own.0 j 0 ids at own.2) ∙ own.1) new
      | inr f ↦ f
    ],
    once.apart,
  );
}

-- the same of the fields, groups and data of a level
record OncePlaced (tags : List ℕ) (level : Level) (fields groups parts : List ℕ) : Type 0 where
  fields_once : Once tags (field_ids level) fields
  groups_once : Once tags (group_ids level) groups
  parts_once : Once tags (data_ids level) parts

once_over : (tags more : List ℕ) (level : Level) (fields groups parts : List ℕ) → ((t : ℕ) → is_in t tags ≡ true → is_in t more ≡ true) → OncePlaced tags level fields groups parts → OncePlaced more level fields groups parts
once_over tags more level fields groups parts turn once = record {
  fields_once = once_wider tags more (field_ids level) fields turn once.fields_once;
  groups_once = once_wider tags more (group_ids level) groups turn once.groups_once;
  parts_once = once_wider tags more (data_ids level) parts turn once.parts_once;
}

once_slot : (tag : ℕ) (tags : List ℕ) (level : Level) (fields groups parts : List ℕ) (place : Place) → HasPlace level tag place → is_in tag tags ≡ false → OncePlaced tags level fields groups parts →
    OncePlaced (tag ∷ tags) level (field_number place ++ fields) groups (data_number place ++ parts)
once_slot tag tags level fields groups parts (in_fields j) at new once =
    let turn = λ (t : ℕ) (h : is_in t tags ≡ true). or_right (tag == t) _ h in
    record {
      fields_once = once_more tag tags (tag ∷ tags) (field_ids level) fields j at new (or_left (tag == tag) _ (same_self tag)) turn once.fields_once;
      groups_once = once_wider tags (tag ∷ tags) (group_ids level) groups turn once.groups_once;
      parts_once = once_wider tags (tag ∷ tags) (data_ids level) parts turn once.parts_once;
    }
once_slot tag tags level fields groups parts (in_data j) at new once =
    let turn = λ (t : ℕ) (h : is_in t tags ≡ true). or_right (tag == t) _ h in
    record {
      fields_once = once_wider tags (tag ∷ tags) (field_ids level) fields turn once.fields_once;
      groups_once = once_wider tags (tag ∷ tags) (group_ids level) groups turn once.groups_once;
      parts_once = once_more tag tags (tag ∷ tags) (data_ids level) parts j at new (or_left (tag == tag) _ (same_self tag)) turn once.parts_once;
    }

abbrev IsOnce : Structure → Level → Plan → Type 0
IsOnce s level p = IsDistinct s → OncePlaced (structure_tags s) level (field_places p) (group_places p) (data_places p)

once_steps : (m : Mapping) (K : Structure → Group → Type 0) → Steps m K IsOnce
once_steps m K = record {
  at_end = λ level distinct. record { fields_once = once_none [] (field_ids level); groups_once = once_none [] (group_ids level); parts_once = once_none [] (data_ids level) };
  no_slot = λ tag rest level p none more distinct.
      once_over (structure_tags rest) (tag ∷ structure_tags rest) level (field_places p) (group_places p) (data_places p) (λ t h. or_right (tag == t) _ h) (more distinct.1);
  a_slot = λ tag rest level p slot is more distinct.
      once_slot tag (structure_tags rest) level (field_places p) (group_places p) (data_places p) slot.place (slot_numbered m tag level slot is).place distinct.0 (more distinct.1);
  no_group = λ tag inner rest level p none more distinct.
      once_over (structure_tags rest) (tag ∷ (structure_tags inner ++ structure_tags rest)) level (field_places p) (group_places p) (data_places p)
      (λ t h. or_right (tag == t) _ (in_right t (structure_tags inner) (structure_tags rest) h)) (more distinct.4);
  a_group = λ tag inner rest level p found g is some own deeper more distinct.
      let tags = structure_tags rest in
      let all = tag ∷ (structure_tags inner ++ structure_tags rest) in
      let turn = λ (t : ℕ) (h : is_in t tags ≡ true). or_right (tag == t) _ (in_right t (structure_tags inner) tags h) in
      let once = more distinct.4 in
      let place = (repeat_is tag found.0 inner found.1 g some).0 in
      record {
        fields_once = once_wider tags all (field_ids level) (field_places p) turn once.fields_once;
        groups_once = once_more tag tags all (group_ids level) (group_places p) g.place
            (subst (λ n. IsAt tag n 0 (group_ids level)) (sym place) (group_numbered tag 0 (groups_in level) found is)) distinct.1 (or_left (tag == tag) _ (same_self tag)) turn once.groups_once;
        parts_once = once_wider tags all (data_ids level) (data_places p) turn once.parts_once;
      };
}

each_number : (P : ℕ → Type 0) (ns : List ℕ) → ((j : ℕ) → is_in j ns ≡ true → P j) → Each P ns
each_number P [] all = tt
each_number P (n ∷ ns) all = (all n (or_left (n == n) _ (same_self n)), each_number P ns (λ j h. all j (or_right (n == j) _ h)))

-- the numbers are below that of the parts
once_below : (tags ids ns : List ℕ) (many : ℕ) → length ids ≡ many → Once tags ids ns → Each (λ j. j < many) ns
once_below tags ids ns many long once = each_number (λ j. j < many) ns (λ j h. let own = once.tagged j h in omega (arith, before_end own.0 j 0 ids own.2, long))

long_fields : (level : Level) → length (field_ids level) ≡ length (out-Level level).fields
long_fields level = length-map (out-Level level).fields (λ (f : Field). f.id)

long_parts : (level : Level) → length (data_ids level) ≡ length (out-Level level).parts
long_parts level = length-map (out-Level level).parts (λ (d : DataField). d.id)

long_groups : (level : Level) → length (group_ids level) ≡ length (out-Level level).groups
long_groups level = length-map (groups_in level) group_tag ∙ ap length (sym (groups_same level))

once_separate : (tags : List ℕ) (level : Level) (p : Plan) → OncePlaced tags level (field_places p) (group_places p) (data_places p) → IsSeparate level p
once_separate tags level p once = record {
  fields = (once.fields_once.apart, once_below tags (field_ids level) (field_places p) (length (out-Level level).fields) (long_fields level) once.fields_once);
  groups = (once.groups_once.apart, once_below tags (group_ids level) (group_places p) (length (out-Level level).groups) (long_groups level) once.groups_once);
  parts = (once.parts_once.apart, once_below tags (data_ids level) (data_places p) (length (out-Level level).parts) (long_parts level) once.parts_once);
}

-- ---- each part has a place

-- what is found for a tag of the structure has a place in the plan
record Reaches (m : Mapping) (s : Structure) (level : Level) (p : Plan) : Type 0 where
  fields : (tag j : ℕ) (slot : Slot) → is_plain tag s ≡ true → slot_of m tag level ≡ Some slot → slot.place ≡ in_fields j → is_in j (field_places p) ≡ true
  parts : (tag j : ℕ) (slot : Slot) → is_plain tag s ≡ true → slot_of m tag level ≡ Some slot → slot.place ≡ in_data j → is_in j (data_places p) ≡ true
  groups : (tag : ℕ) (inner : Structure) (found : ℕ × Group) (g : Repeat) → inner_of tag s ≡ Some inner → group_of tag 0 (groups_in level) ≡ Some found → repeat_of tag found.0 inner found.1 ≡ Some g →
      is_in found.0 (group_places p) ≡ true

in_own : (place : Place) (ns : List ℕ) (j : ℕ) → place ≡ in_fields j → is_in j (field_number place ++ ns) ≡ true
in_own place ns j is = subst (λ q. is_in j (field_number q ++ ns) ≡ true) (sym is) (or_left (j == j) _ (same_self j))

in_own_data : (place : Place) (ns : List ℕ) (j : ℕ) → place ≡ in_data j → is_in j (data_number place ++ ns) ≡ true
in_own_data place ns j is = subst (λ q. is_in j (data_number q ++ ns) ≡ true) (sym is) (or_left (j == j) _ (same_self j))

-- the slot of another tag that is the same
same_slot : (m : Mapping) (level : Level) (tag other : ℕ) (a b : Slot) → (other == tag) ≡ true → slot_of m other level ≡ Some a → slot_of m tag level ≡ Some b → a.place ≡ b.place
same_slot m level tag other a b t h k = ap (λ (s : Slot). s.place) (some_is (sym h ∙ (ap (λ n. slot_of m n level) (eqb-true other tag t) ∙ k)))

not_missing : {Z : Type 0} (m : Mapping) (level : Level) (tag other : ℕ) (b : Slot) → (other == tag) ≡ true → slot_of m other level ≡ None → slot_of m tag level ≡ Some b → Z
not_missing m level tag other b t h k = none_some (sym h ∙ (ap (λ n. slot_of m n level) (eqb-true other tag t) ∙ k))

-- the inner structure of another tag that is the same
same_inner : (tag other : ℕ) (i inner rest : Structure) → (other == tag) ≡ true → inner_of tag (counted other i rest) ≡ Some inner → i ≡ inner
same_inner tag other i inner rest t h = some_is (sym (if_true (other == tag) (Some i) (inner_of tag rest) t) ∙ h)

later_inner : (tag other : ℕ) (i inner rest : Structure) → (other == tag) ≡ false → inner_of tag (counted other i rest) ≡ Some inner → inner_of tag rest ≡ Some inner
later_inner tag other i inner rest f h = sym (if_false (other == tag) (Some i) (inner_of tag rest) f) ∙ h

reach_steps : (m : Mapping) (K : Structure → Group → Type 0) → Steps m K (Reaches m)
reach_steps m K = record {
  at_end = λ level. record { fields = λ tag j slot h is at. true_false h refl; parts = λ tag j slot h is at. true_false h refl; groups = λ tag inner found g h is some. none_some h };
  no_slot = λ other rest level p none more. record {
    fields = λ tag j slot h is at. elim (either (other == tag)) [
      | inl t ↦ not_missing m level tag other slot t none is
      | inr f ↦ more.fields tag j slot (second_of (other == tag) (is_plain tag rest) h f) is at
    ];
    parts = λ tag j slot h is at. elim (either (other == tag)) [
      | inl t ↦ not_missing m level tag other slot t none is
      | inr f ↦ more.parts tag j slot (second_of (other == tag) (is_plain tag rest) h f) is at
    ];
    groups = more.groups;
  };
  a_slot = λ other rest level p own here more. record {
    fields = λ tag j slot h is at. elim (either (other == tag)) [
      | inl t ↦ in_own own.place (field_places p) j (same_slot m level tag other own slot t here is ∙ at)
      | inr f ↦ in_right j (field_number own.place) (field_places p) (more.fields tag j slot (second_of (other == tag) (is_plain tag rest) h f) is at)
    ];
    parts = λ tag j slot h is at. elim (either (other == tag)) [
      | inl t ↦ in_own_data own.place (data_places p) j (same_slot m level tag other own slot t here is ∙ at)
      | inr f ↦ in_right j (data_number own.place) (data_places p) (more.parts tag j slot (second_of (other == tag) (is_plain tag rest) h f) is at)
    ];
    groups = more.groups;
  };
  no_group = λ other i rest level p none more. record {
    fields = more.fields;
    parts = more.parts;
    groups = λ tag inner found g h is some. elim (either (other == tag)) [
      | inl t ↦
          let same : other ≡ tag = eqb-true other tag t in
          none_some (sym (none found (ap (λ n. group_of n 0 (groups_in level)) same ∙ is))
          ∙ (ap (λ n. repeat_of n found.0 i found.1) same ∙ (ap (λ (s : Structure). repeat_of tag found.0 s found.1) (same_inner tag other i inner rest t h) ∙ some)))
      | inr f ↦ more.groups tag inner found g (later_inner tag other i inner rest f h) is some
    ];
  };
  a_group = λ other i rest level p own r here some own_is deeper more. record {
    fields = more.fields;
    parts = more.parts;
    groups = λ tag inner found g h is k. elim (either (other == tag)) [
      | inl t ↦
          let same : own ≡ found = some_is (sym here ∙ (ap (λ n. group_of n 0 (groups_in level)) (eqb-true other tag t) ∙ is)) in
          or_left (r.place == found.0) _ (eq-eqb r.place found.0 ((repeat_is other own.0 i own.1 r some).0 ∙ ap (λ (x : ℕ × Group). x.0) same))
      | inr f ↦ or_right (r.place == found.0) _ (more.groups tag inner found g (later_inner tag other i inner rest f h) is k)
    ];
  };
}

-- ---- what coverage says of each part

-- the tag is none of the header's and of length fields
abbrev pub IsFree : Mapping → ℕ → Type 0
IsFree m tag = (is_in tag m.lists.header ≡ false) × (is_in tag (length_tags m.lists) ≡ false)

free_so : (m : Mapping) (before : List ℕ) (tag : ℕ) → is_free m before tag ≡ true → IsFree m tag × (is_in tag before ≡ false)
free_so m before tag h =
    let more = and_second _ _ h in
    ((not_true (is_in tag m.lists.header) (and_first _ _ h), not_true (is_in tag (length_tags m.lists)) (and_first _ _ more)), not_true (is_in tag before) (and_second _ _ more))

-- the slot that is found for a covered field or data, whose tag is none before it
pub record IsCoveredPart (m : Mapping) (s : Structure) (before : List ℕ) (tag : ℕ) (place : Place) (found : Option Slot) : Type 0 where
  pub slot : Slot
  pub is : found ≡ Some slot
  pub at : slot.place ≡ place
  pub plain_at : is_plain tag s ≡ true
  pub new : is_in tag before ≡ false
  pub free : IsFree m tag

-- a covered tag is a field's of the structure, is none of those before, and has a rule
covered_so : (m : Mapping) (s : Structure) (before : List ℕ) (tag : ℕ) (rule : Option Rule) → is_covered m s before tag rule ≡ true → (is_plain tag s ≡ true) × (is_in tag before ≡ false) × ((r : Rule) × (rule ≡ Some r)) × IsFree m tag
covered_so m s before tag rule h =
    let more = and_second (is_plain tag s) (is_free m before tag && is_some rule) h in
    let free = free_so m before tag (and_first (is_free m before tag) (is_some rule) more) in (
      and_first (is_plain tag s) (is_free m before tag && is_some rule) h,
      free.1,
      is_there rule (and_second (is_free m before tag) (is_some rule) more),
      free.0,
    )

pub field_covered : (m : Mapping) (s : Structure) (before : List ℕ) (tag j i : ℕ) (fs : List Field) → fields_uncovered m s before fs ≡ None → IsAt tag j i (map (λ (f : Field). f.id) fs) →
    IsCoveredPart m s before tag (in_fields j) (field_slot m tag i fs)
field_covered m s before tag j i [] h at = absurd at
field_covered m s before tag j i (f ∷ fs) h (inl is) =
    let rule = rule_of f.kind (datatype_of m f.id) in
    let own = covered_so m s before f.id rule (covered_none (is_covered m s before f.id rule) (fields_uncovered m s (f.id ∷ before) fs) (f.name ∷ []) h).0 in
    let same : rule_of f.kind (datatype_of m tag) ≡ Some own.2.0 = ap (λ n. rule_of f.kind (datatype_of m n)) (sym is.1) ∙ own.2.1 in
    record {
      slot = slot_by tag i own.2.0;
      is = if_true (f.id == tag) (field_found m tag i f) (field_slot m tag (suc i) fs) (eq-eqb f.id tag is.1)
          ∙ and_then_some (rule_of f.kind (datatype_of m tag)) (λ rule. Some (slot_by tag i rule)) own.2.0 same;
      at = ap in_fields (sym is.0);
      plain_at = ap (λ n. is_plain n s) (sym is.1) ∙ own.0;
      new = ap (λ n. is_in n before) (sym is.1) ∙ own.1;
      free = subst (IsFree m) is.1 own.3;
    }
field_covered m s before tag j i (f ∷ fs) h (inr later) =
    let rule = rule_of f.kind (datatype_of m f.id) in
    let rest = (covered_none (is_covered m s before f.id rule) (fields_uncovered m s (f.id ∷ before) fs) (f.name ∷ []) h).1 in
    let more = field_covered m s (f.id ∷ before) tag j (suc i) fs rest later in
    let new = or_false (f.id == tag) (is_in tag before) more.new in
    record { slot = more.slot; is = if_false (f.id == tag) (field_found m tag i f) (field_slot m tag (suc i) fs) new.0 ∙ more.is; at = more.at; plain_at = more.plain_at; new = new.1; free = more.free }

pub data_covered : (m : Mapping) (s : Structure) (before : List ℕ) (tag j i : ℕ) (ds : List DataField) → data_uncovered m s before ds ≡ None → IsAt tag j i (map (λ (d : DataField). d.id) ds) →
    IsCoveredPart m s before tag (in_data j) (data_slot m tag i ds)
data_covered m s before tag j i [] h at = absurd at
data_covered m s before tag j i (d ∷ ds) h (inl is) =
    let rule = data_rule d (datatype_of m d.id) in
    let own = covered_so m s before d.id rule (covered_none (is_covered m s before d.id rule) (data_uncovered m s (d.id ∷ before) ds) (d.name ∷ []) h).0 in
    let same : data_rule d (datatype_of m tag) ≡ Some own.2.0 = ap (λ n. data_rule d (datatype_of m n)) (sym is.1) ∙ own.2.1 in
    record {
      slot = data_by tag i own.2.0;
      is = if_true (d.id == tag) (data_found m tag i d) (data_slot m tag (suc i) ds) (eq-eqb d.id tag is.1)
          ∙ and_then_some (data_rule d (datatype_of m tag)) (λ rule. Some (data_by tag i rule)) own.2.0 same;
      at = ap in_data (sym is.0);
      plain_at = ap (λ n. is_plain n s) (sym is.1) ∙ own.0;
      new = ap (λ n. is_in n before) (sym is.1) ∙ own.1;
      free = subst (IsFree m) is.1 own.3;
    }
data_covered m s before tag j i (d ∷ ds) h (inr later) =
    let rule = data_rule d (datatype_of m d.id) in
    let rest = (covered_none (is_covered m s before d.id rule) (data_uncovered m s (d.id ∷ before) ds) (d.name ∷ []) h).1 in
    let more = data_covered m s (d.id ∷ before) tag j (suc i) ds rest later in
    let new = or_false (d.id == tag) (is_in tag before) more.new in
    record { slot = more.slot; is = if_false (d.id == tag) (data_found m tag i d) (data_slot m tag (suc i) ds) new.0 ∙ more.is; at = more.at; plain_at = more.plain_at; new = new.1; free = more.free }

-- no field has a tag that is none of theirs
no_field : (m : Mapping) (tag i : ℕ) (fs : List Field) → is_in tag (map (λ (f : Field). f.id) fs) ≡ false → field_slot m tag i fs ≡ None
no_field m tag i [] h = refl
no_field m tag i (f ∷ fs) h =
    let two = or_false (f.id == tag) _ h in
    if_false (f.id == tag) (field_found m tag i f) (field_slot m tag (suc i) fs) two.0 ∙ no_field m tag (suc i) fs two.1

-- what is found for a covered group, whose tag is none before it
pub record IsCoveredNumber (m : Mapping) (s : Structure) (before : List ℕ) (tag j : ℕ) (found : Option (ℕ × Group)) : Type 0 where
  pub own : Group
  pub is : found ≡ Some (j, own)
  pub tag_is : group_tag own ≡ tag
  pub covered : IsCoveredGroup m s own
  pub new : is_in tag before ≡ false
  pub free : IsFree m tag

group_free : (m : Mapping) (s : Structure) (before : List ℕ) (g : Group) → group_uncovered m s before g ≡ None → IsFree m (group_tag g) × (is_in (group_tag g) before ≡ false)
group_free m s before (Group' dim level) h =
    let id = (out-Level level).id in
    let free = free_so m (before ++ data_tags m.lists) id (and_first _ _ (group_none _ _ _ h).0) in (
      free.0,
      elim (either (is_in id before)) [
        | inl t ↦ true_false (in_left id before (data_tags m.lists) t) free.1
        | inr f ↦ f
      ],
    )

group_covered : (m : Mapping) (s : Structure) (before : List ℕ) (tag j i : ℕ) (n : _) (row : Row_of-Group n) (parts : List DataField) → groups_uncovered m s before row parts ≡ None →
    IsAt tag j i (map group_tag (items-the_row-Group n row)) → IsCoveredNumber m s before tag j (group_of tag i (items-the_row-Group n row))
group_covered m s before tag j i n end_of-Group parts h at = absurd at
group_covered m s before tag j i n (more_of-Group g rest) parts h (inl at) =
    let is = path_none (group_uncovered m s before g) (groups_uncovered m s (group_tag g ∷ before) rest parts) h in
    record {
      own = g;
      is = if_true (group_tag g == tag) (Some (i, g)) (group_of tag (suc i) (items-the_row-Group _ rest)) (eq-eqb (group_tag g) tag at.1) ∙ ap (λ k. Some (k, g)) (sym at.0);
      tag_is = at.1;
      covered = (before, is.0);
      new = ap (λ k. is_in k before) (sym at.1) ∙ (group_free m s before g is.0).1;
      free = subst (IsFree m) at.1 (group_free m s before g is.0).0;
    }
group_covered m s before tag j i n (more_of-Group g rest) parts h (inr later) =
    let is = path_none (group_uncovered m s before g) (groups_uncovered m s (group_tag g ∷ before) rest parts) h in
    let more = group_covered m s (group_tag g ∷ before) tag j (suc i) _ rest parts is.1 later in
    let new = or_false (group_tag g == tag) (is_in tag before) more.new in
    record {
      own = more.own;
      is = if_false (group_tag g == tag) (Some (i, g)) (group_of tag (suc i) (items-the_row-Group _ rest)) new.0 ∙ more.is;
      tag_is = more.tag_is;
      covered = more.covered;
      new = new.1;
      free = more.free;
    }

-- the data are judged after all others
data_reached : (m : Mapping) (s : Structure) (before : List ℕ) (n : _) (row : Row_of-Group n) (parts : List DataField) → groups_uncovered m s before row parts ≡ None →
    (last : List ℕ) × (data_uncovered m s last parts ≡ None) × ((t : ℕ) → is_in t before ≡ true → is_in t last ≡ true)
data_reached m s before n end_of-Group parts h = (before, h, λ t k. k)
data_reached m s before n (more_of-Group g rest) parts h =
    let is = path_none (group_uncovered m s before g) (groups_uncovered m s (group_tag g ∷ before) rest parts) h in
    let more = data_reached m s (group_tag g ∷ before) _ rest parts is.1 in
    (more.0, more.1, λ t k. more.2 t (or_right (group_tag g == t) _ k))

-- the parts of a covered level
pub record IsCoveredLevel (m : Mapping) (s : Structure) (level : Level) : Type 0 where
  pub fields_are : fields_uncovered m s [] (out-Level level).fields ≡ None
  pub groups_are : (tag j : ℕ) → IsAt tag j 0 (group_ids level) → IsCoveredNumber m s (field_ids level) tag j (group_of tag 0 (groups_in level))
  pub last : List ℕ
  pub parts_are : data_uncovered m s last (out-Level level).parts ≡ None
  pub all_fields : (t : ℕ) → is_in t (field_ids level) ≡ true → is_in t last ≡ true

pub covered_level : (m : Mapping) (s : Structure) (level : Level) → uncovered m s level ≡ None → IsCoveredLevel m s level
unfolding levels.out-Level carrier.out
covered_level m s (Level' name id semantic since block_length fields n groups parts) h =
    let is = path_none _ _ h in
    let reached = data_reached m s (map (λ (f : Field). f.id) fields) _ groups parts is.1 in
    record {
      fields_are = is.0;
      groups_are = λ tag j at. group_covered m s (map (λ (f : Field). f.id) fields) tag j 0 _ groups parts is.1 at;
      last = reached.0;
      parts_are = reached.1;
      all_fields = reached.2;
    }

-- the structure of a covered group's entries, which begins with a field
group_inner : (m : Mapping) (s : Structure) (g : Group) → IsCoveredGroup m s g → (inner : Structure) × (inner_of (group_tag g) s ≡ Some inner) × ((d : ℕ) × (delimiter_of inner ≡ Some d))
group_inner m s (Group' dim level) covered =
    by_inner (inner_of (out-Level level).id s) refl (and_second _ _ (group_none _ _ _ covered.1).0)
  where
    by_delimiter : (inner : Structure) (d : Option ℕ) → delimiter_of inner ≡ d → is_delimiter m (out-Level level).fields d ≡ true → (d : ℕ) × (delimiter_of inner ≡ Some d)
    by_delimiter inner None at is = true_false is refl
    by_delimiter inner (Some d) at is = (d, at)

    by_inner : (o : Option Structure) → inner_of (out-Level level).id s ≡ o → is_delimiter m (out-Level level).fields (delimiter_of (inner_or o)) ≡ true →
        (inner : Structure) × (inner_of (out-Level level).id s ≡ Some inner) × ((d : ℕ) × (delimiter_of inner ≡ Some d))
    by_inner None at is = true_false is refl
    by_inner (Some inner) at is = (inner, at, by_delimiter inner (delimiter_of inner) refl is)

-- what holds of each group holds of the one of a tag
each_at : (K : Structure → Group → Type 0) (s : Structure) (level : Level) (tag : ℕ) (inner : Structure) (found : ℕ × Group) → EachGroup K s level → inner_of tag s ≡ Some inner →
    group_of tag 0 (groups_in level) ≡ Some found → K inner found.1
each_at K ended level tag inner found all h is = none_some h
each_at K (plain other rest) level tag inner found all h is = each_at K rest level tag inner found all h is
each_at K (counted other i rest) level tag inner found all h is = elim (either (other == tag)) [
  | inl t ↦ subst (λ (s : Structure). K s found.1) (same_inner tag other i inner rest t h) (all.0 found (ap (λ n. group_of n 0 (groups_in level)) (eqb-true other tag t) ∙ is)).0
  | inr f ↦ each_at K rest level tag inner found all.1 (later_inner tag other i inner rest f h) is
]

not_in_more : (t : ℕ) (xs ys : List ℕ) → (is_in t xs ≡ true → is_in t ys ≡ true) → is_in t ys ≡ false → is_in t xs ≡ false
not_in_more t xs ys turn h = elim (either (is_in t xs)) [
  | inl k ↦ true_false (turn k) h
  | inr f ↦ f
]

-- a level that is covered, and whose groups have counts, has a place for each of its parts
level_complete : (m : Mapping) (s : Structure) (level : Level) (p : Plan) → uncovered m s level ≡ None → EachGroup HasCount s level → Reaches m s level p → IsComplete level p
level_complete m s level p h counts reaches =
    let covered = covered_level m s level h in
    record {
      fields = λ j below.
          let at = some_tag j 0 (field_ids level) (omega arith) (omega (arith, below, long_fields level)) in
          let own = field_covered m s [] at.0 j 0 (out-Level level).fields covered.fields_are at.1 in
          reaches.fields at.0 j own.slot own.plain_at (ap (λ o. or_slot o (data_slot m at.0 0 (out-Level level).parts)) own.is) own.at;
      groups = λ j below.
          let at = some_tag j 0 (group_ids level) (omega arith) (omega (arith, below, long_groups level)) in
          let own = covered.groups_are at.0 j at.1 in
          let inner = group_inner m s own.own own.covered in
          let inner_is : inner_of at.0 s ≡ Some inner.0 = ap (λ n. inner_of n s) (sym own.tag_is) ∙ inner.1 in
          let count = each_at HasCount s level at.0 inner.0 (j, own.own) counts inner_is own.is in
          reaches.groups at.0 inner.0 (j, own.own) (record { tag = at.0; level = level_in own.own; place = j; delimiter = inner.2.0; count = count.leaf; owned = structure_tags inner.0 }) inner_is own.is
          (and_then_some (delimiter_of inner.0) _ inner.2.0 inner.2.1 ∙ and_then_some (count_leaf own.own) _ count.leaf count.counts);
      parts = λ j below.
          let at = some_tag j 0 (data_ids level) (omega arith) (omega (arith, below, long_parts level)) in
          let own = data_covered m s covered.last at.0 j 0 (out-Level level).parts covered.parts_are at.1 in
          let none = no_field m at.0 0 (out-Level level).fields (not_in_more at.0 (field_ids level) covered.last (covered.all_fields at.0) own.new) in
          reaches.parts at.0 j own.slot own.plain_at (ap (λ o. or_slot o (data_slot m at.0 0 (out-Level level).parts)) none ∙ own.is) own.at;
    }

-- ---- and so at each depth

-- each part of the level has one place in its plan
record IsWhole (m : Mapping) (s : Structure) (level : Level) : Type 0 where
  complete : IsComplete level (plan_of m s level)
  separate : IsSeparate level (plan_of m s level)

level_whole : (m : Mapping) (s : Structure) (level : Level) → IsDistinct s → uncovered m s level ≡ None → EachGroup HasCount s level → IsWhole m s level
level_whole m s level distinct h counts = record {
  complete = level_complete m s level (plan_of m s level) h counts (plan_by m HasCount (Reaches m) (reach_steps m HasCount) s level counts);
  separate = once_separate (structure_tags s) level (plan_of m s level) (plan_by m HasCount IsOnce (once_steps m HasCount) s level counts distinct);
}

record AreWhole (s : Structure) (level : Level) (p : Plan) : Type 0 where
  complete : AreComplete p
  separate : AreSeparate p
  holds : HoldsData p

abbrev IsWholeEntry : Mapping → Structure → Group → Type 0
IsWholeEntry m inner g = IsWhole m inner (level_in g)

whole_steps : (m : Mapping) → Steps m (IsWholeEntry m) AreWhole
whole_steps m = record {
  at_end = λ level. record { complete = tt; separate = tt; holds = tt };
  no_slot = λ tag rest level p none more. record { complete = more.complete; separate = more.separate; holds = more.holds };
  a_slot = λ tag rest level p slot is more. record { complete = more.complete; separate = more.separate; holds = ((slot_numbered m tag level slot is).holds, more.holds) };
  no_group = λ tag inner rest level p none more. record { complete = more.complete; separate = more.separate; holds = more.holds };
  a_group = λ tag inner rest level p found g is some own deeper more.
      let same = (repeat_is tag found.0 inner found.1 g some).1 in
      let inside = plan_of m inner (level_in found.1) in
      record {
        complete = (subst (λ l. IsComplete l inside) (sym same) own.complete, deeper.complete, more.complete);
        separate = (subst (λ l. IsSeparate l inside) (sym same) own.separate, deeper.separate, more.separate);
        holds = (deeper.holds, more.holds);
      };
}

snd_of : (m : Mapping) (s : Structure) (level : Level) → EachGroup (λ inner g. IsCoveredEntry m inner g × HasCount inner g) s level → EachGroup HasCount s level
snd_of m s level all = each_turned (λ inner g. IsCoveredEntry m inner g × HasCount inner g) HasCount (λ inner g own deep. own.1) s level all

-- the plan of a covered level whose groups have counts is one of the level
pub plan_is_of : (m : Mapping) (s : Structure) (level : Level) → IsDistinct s → uncovered m s level ≡ None → EachGroup HasCount s level → IsPlanOf level (plan_of m s level)
plan_is_of m s level distinct h counts =
    let top = level_whole m s level distinct h counts in
    let entries = each_turned (λ inner g. IsCoveredEntry m inner g × HasCount inner g) (IsWholeEntry m)
    (λ inner g own deep. level_whole m inner (level_in g) own.0.distinct own.0.covered (snd_of m inner (level_in g) deep)) s level
    (each_both (IsCoveredEntry m) HasCount s level (covered_entries m s level distinct h) counts) in
    let all = plan_by m (IsWholeEntry m) AreWhole (whole_steps m) s level entries in
    record { complete = top.complete; all_complete = all.complete; separate = top.separate; all_separate = all.separate; holds = all.holds }
