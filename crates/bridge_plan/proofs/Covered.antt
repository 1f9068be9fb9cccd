-- A covered level has its groups' delimiters.
use Rattle.std.proofs.Common.{◌≡◌, inl, inr, ℕ, suc, Bool, true, false, cond, List, [], ◌∷◌, map, Option, Some, None, refl, sym, ap, ◌∙◌, subst}
use Rattle.std.specs.Prelude.{◌&&◌, ◌==◌, is_some}
use Rattle.std.proofs.lemmas.Bool.{eqb-true, eq-eqb}
use denote.Hole.Carrier as carrier
use Rattle.sbe_types.specs.declared.schema.Level as levels
use Rattle.sbe_types.specs.declared.schema.Field.{Field}
use Rattle.sbe_types.specs.declared.schema.DataField.{DataField}
use Rattle.sbe_types.specs.declared.schema.Group.{Group, Group'}
use Rattle.sbe_types.specs.declared.schema.Level.{Level, Level', Row_of-Group, end_of-Group, more_of-Group, items-the_row-Group, out-Level}
use Rattle.bridge_rules.specs.Rules.{Rule}
use Rattle.bridge_rules.specs.Members.{and_then}
use Rattle.bridge_terms.specs.Plans.{Slot, Each, in_fields, is_in}
use Rattle.reference_graph.specs.Expansion.{Structure, ended, plain, counted, structure_tags}
use Rattle.bridge_plan.specs.Mappings.{Mapping, datatype_of, is_plain, inner_of, delimiter_of}
use Rattle.bridge_rules.specs.Table.{rule_of}
use Rattle.bridge_plan.specs.Covers.{is_free, is_covered, is_delimiter, or_path, inside, group_by, inner_or, fields_uncovered, uncovered, groups_uncovered, group_uncovered, group_tag, field_slot, or_slot, data_slot, slot_of, group_of, groups_in, level_in}
use Rattle.bridge_plan.specs.StructureFacts.{IsDistinct, EachGroup, HasDelimiter, IsDelimited}
use Rattle.bridge_rules.proofs.OptionLemmas.{some_is, none_some, some_none, and_then_some, and_second}
use Rattle.bridge_rules.proofs.BoolLemmas.{true_false, either, or_left, or_right, second_of, if_true, if_false}
use Rattle.bridge_plan.proofs.Planning.{in_right}

-- ---- answers

pub path_none : (a b : Option (List (List ℕ))) → or_path a b ≡ None → (a ≡ None) × (b ≡ None)
path_none None b h = (refl, h)
path_none (Some p) b h = some_none h

inside_none : (name : List ℕ) (o : Option (List (List ℕ))) → inside name o ≡ None → o ≡ None
inside_none name None h = refl
inside_none name (Some p) h = some_none h

pub group_none : (test : Bool) (name : List ℕ) (o : Option (List (List ℕ))) → group_by test name o ≡ None → (test ≡ true) × (o ≡ None)
group_none true name o h = (refl, inside_none name o h)
group_none false name o h = some_none h

pub is_there : {X : Type 0} (o : Option X) → is_some o ≡ true → (x : X) × (o ≡ Some x)
is_there None h = true_false h refl
is_there (Some x) h = (x, refl)

pub covered_none : (t : Bool) (o : Option (List (List ℕ))) (p : List (List ℕ)) → cond t o (Some p) ≡ None → (t ≡ true) × (o ≡ None)
covered_none true o p h = (refl, h)
covered_none false o p h = some_none h

-- ---- a field that is covered has a slot

abbrev slot_by : ℕ → ℕ → Rule → Slot
slot_by tag i rule = record { tag = tag; place = in_fields i; rule = rule }

field_slotted : (m : Mapping) (s : Structure) (before : List ℕ) (tag i : ℕ) (fs : List Field) → fields_uncovered m s before fs ≡ None → is_in tag (map (λ (f : Field). f.id) fs) ≡ true →
    (slot : Slot) × (field_slot m tag i fs ≡ Some slot)
field_slotted m s before tag i [] h here = true_false here refl
field_slotted m s before tag i (f ∷ fs) h here =
    let is = covered_none (is_covered m s before f.id (rule_of f.kind (datatype_of m f.id))) (fields_uncovered m s (f.id ∷ before) fs) (f.name ∷ []) h in
    let own = and_then (rule_of f.kind (datatype_of m tag)) (λ rule. Some (slot_by tag i rule)) in
    elim (either (f.id == tag)) [
      | inl t ↦
          let rule = is_there (rule_of f.kind (datatype_of m f.id)) (and_second (is_free m before f.id) (is_some (rule_of f.kind (datatype_of m f.id))) (and_second (is_plain f.id s) (is_free m before f.id && is_some (rule_of f.kind (datatype_of m f.id))) is.0)) in
          let same : rule_of f.kind (datatype_of m tag) ≡ Some rule.0 = ap (λ n. rule_of f.kind (datatype_of m n)) (sym (eqb-true f.id tag t)) ∙ rule.1 in (
            slot_by tag i rule.0,
            if_true (f.id == tag) own (field_slot m tag (suc i) fs) t ∙ and_then_some (rule_of f.kind (datatype_of m tag)) (λ rule. Some (slot_by tag i rule)) rule.0 same,
          )
      | inr n ↦
          let more = field_slotted m s (f.id ∷ before) tag (suc i) fs is.1 (second_of (f.id == tag) _ here n) in
          (more.0, if_false (f.id == tag) own (field_slot m tag (suc i) fs) n ∙ more.1)
    ]

delimiter_slotted : (m : Mapping) (s : Structure) (level : Level) (d : ℕ) → fields_uncovered m s [] (out-Level level).fields ≡ None → is_delimiter m (out-Level level).fields (Some d) ≡ true →
    (slot : Slot) × (slot_of m d level ≡ Some slot)
delimiter_slotted m s level d h is =
    let slot = field_slotted m s [] d 0 (out-Level level).fields h (and_second _ _ is) in
    (slot.0, ap (λ o. or_slot o (data_slot m d 0 (out-Level level).parts)) slot.1)

-- ---- the groups of a covered level

-- a group is covered among some earlier tags
abbrev pub IsCoveredGroup : Mapping → Structure → Group → Type 0
IsCoveredGroup m s g = (before : List ℕ) × (group_uncovered m s before g ≡ None)

pub groups_all : (m : Mapping) (s : Structure) (before : List ℕ) (n : _) (row : Row_of-Group n) (parts : List DataField) → groups_uncovered m s before row parts ≡ None →
    Each (λ g. IsCoveredGroup m s g) (items-the_row-Group n row)
groups_all m s before n end_of-Group parts h = tt
groups_all m s before n (more_of-Group g rest) parts h =
    let is = path_none _ _ h in
    ((before, is.0), groups_all m s (group_tag g ∷ before) _ rest parts is.1)

pub level_parts : (m : Mapping) (s : Structure) (level : Level) → uncovered m s level ≡ None → (fields_uncovered m s [] (out-Level level).fields ≡ None) × Each (λ g. IsCoveredGroup m s g) (groups_in level)
unfolding levels.out-Level carrier.out
level_parts m s (Level' name id semantic since block_length fields n groups parts) h =
    let is = path_none _ _ h in
    (is.0, groups_all m s (map (λ (f : Field). f.id) fields) _ groups parts is.1)

pub found_group : (P : Group → Type 0) (tag i : ℕ) (gs : List Group) (found : ℕ × Group) → Each P gs → group_of tag i gs ≡ Some found → P found.1 × (group_tag found.1 ≡ tag)
found_group P tag i [] found all h = none_some h
found_group P tag i (g ∷ gs) found all h = elim (either (group_tag g == tag)) [
  | inl t ↦
      let is : (i, g) ≡ found = some_is (sym (if_true (group_tag g == tag) (Some (i, g)) (group_of tag (suc i) gs) t) ∙ h) in
      (subst (λ (x : ℕ × Group). P x.1) is all.0, ap (λ (x : ℕ × Group). group_tag x.1) (sym is) ∙ eqb-true (group_tag g) tag t)
  | inr n ↦ found_group P tag (suc i) gs found all.1 (sym (if_false (group_tag g == tag) (Some (i, g)) (group_of tag (suc i) gs) n) ∙ h)
]

-- what is known of a covered group whose entries have this structure
group_parts : (m : Mapping) (s inner : Structure) (g : Group) → IsCoveredGroup m s g → inner_of (group_tag g) s ≡ Some inner →
    (is_delimiter m (out-Level (level_in g)).fields (delimiter_of inner) ≡ true) × (uncovered m inner (level_in g) ≡ None)
group_parts m s inner (Group' dim level) covered is =
    let parts = group_none _ _ _ covered.1 in
    let same : inner_or (inner_of (out-Level level).id s) ≡ inner = ap inner_or is in (
      ap (λ i. is_delimiter m (out-Level level).fields (delimiter_of i)) (sym same) ∙ and_second _ _ parts.0,
      ap (λ i. uncovered m i level) (sym same) ∙ parts.1,
    )

inner_among : (tag : ℕ) (s inner : Structure) → inner_of tag s ≡ Some inner → is_in tag (structure_tags s) ≡ true
inner_among tag ended inner h = none_some h
inner_among tag (plain other rest) inner h = or_right (other == tag) _ (inner_among tag rest inner h)
inner_among tag (counted other i rest) inner h = elim (either (other == tag)) [
  | inl t ↦ or_left (other == tag) _ t
  | inr n ↦ or_right (other == tag) _ (in_right tag (structure_tags i) (structure_tags rest) (inner_among tag rest inner (sym (if_false (other == tag) (Some i) (inner_of tag rest) n) ∙ h)))
]

-- the end of a structure has the groups of the whole
abbrev Ends : Structure → Structure → Type 0
Ends whole s = (tag : ℕ) (inner : Structure) → inner_of tag s ≡ Some inner → inner_of tag whole ≡ Some inner

-- what coverage says of a group whose entries have an inner structure
pub record IsCoveredEntry (m : Mapping) (inner : Structure) (g : Group) : Type 0 where
  pub distinct : IsDistinct inner
  pub delimits : is_delimiter m (out-Level (level_in g)).fields (delimiter_of inner) ≡ true
  pub covered : uncovered m inner (level_in g) ≡ None

entries_in : (m : Mapping) (s : Structure) → IsDistinct s → (whole : Structure) → Ends whole s → (level : Level) → uncovered m whole level ≡ None → EachGroup (IsCoveredEntry m) s level
entries_in m ended distinct whole ends level h = tt
entries_in m (plain tag rest) distinct whole ends level h = entries_in m rest distinct.1 whole ends level h
entries_in m (counted tag inner rest) distinct whole ends level h =
    let parts = level_parts m whole level h in (
      λ found k.
          let is = found_group (λ g. IsCoveredGroup m whole g) tag 0 (groups_in level) found parts.1 k in
          let here : inner_of (group_tag found.1) whole ≡ Some inner = ap (λ t. inner_of t whole) is.1 ∙ ends tag inner (if_true (tag == tag) (Some inner) (inner_of tag rest) (eq-eqb tag tag refl)) in
          let group = group_parts m whole inner found.1 is.0 here in (
            record { distinct = distinct.3; delimits = group.0; covered = group.1 },
            entries_in m inner distinct.3 inner (λ t i e. e) (level_in found.1) group.1,
          ),
      entries_in m rest distinct.4 whole
          (λ t i e. ends t i (if_false (tag == t) (Some inner) (inner_of t rest) (elim (either (tag == t)) [
            | inl same ↦ true_false (ap (λ n. is_in n (structure_tags rest)) (eqb-true tag t same) ∙ inner_among t rest i e) distinct.1
            | inr n ↦ n
          ]) ∙ e)) level h,
    )

-- the groups of a covered level, at each depth
pub covered_entries : (m : Mapping) (s : Structure) (level : Level) → IsDistinct s → uncovered m s level ≡ None → EachGroup (IsCoveredEntry m) s level
covered_entries m s level distinct h = entries_in m s distinct s (λ t i e. e) level h

-- what is known of each group gives what else holds of it
pub each_turned : (K L : Structure → Group → Type 0) → ((inner : Structure) (g : Group) → K inner g → EachGroup K inner (level_in g) → L inner g) →
    (s : Structure) (level : Level) → EachGroup K s level → EachGroup L s level
each_turned K L turn ended level all = tt
each_turned K L turn (plain tag rest) level all = each_turned K L turn rest level all
each_turned K L turn (counted tag inner rest) level all = (
  λ found k.
      let own = all.0 found k in
      (turn inner found.1 own.0 own.1, each_turned K L turn inner (level_in found.1) own.1),
  each_turned K L turn rest level all.1,
)

pub each_both : (K L : Structure → Group → Type 0) (s : Structure) (level : Level) → EachGroup K s level → EachGroup L s level → EachGroup (λ inner g. K inner g × L inner g) s level
each_both K L ended level a b = tt
each_both K L (plain tag rest) level a b = each_both K L rest level a b
each_both K L (counted tag inner rest) level a b = (
  λ found k.
      let one = a.0 found k in
      let other = b.0 found k in
      ((one.0, other.0), each_both K L inner (level_in found.1) one.1 other.1),
  each_both K L rest level a.1 b.1,
)

-- the delimiters of a covered level
pub covered_delimited : (m : Mapping) (s : Structure) (level : Level) → IsDistinct s → uncovered m s level ≡ None → IsDelimited m s level
covered_delimited m s level distinct h =
    each_turned (IsCoveredEntry m) (HasDelimiter m)
    (λ inner g own deep d at.
    delimiter_slotted m inner (level_in g) d (level_parts m inner (level_in g) own.covered).0 (ap (λ o. is_delimiter m (out-Level (level_in g)).fields o) (sym at) ∙ own.delimits))
    s level (covered_entries m s level distinct h)
