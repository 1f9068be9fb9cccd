-- The plan of a level in a structure of distinct tags has the tags of the structure.
use Rattle.std.proofs.Common.{◌≡◌, ◌⊎◌, inl, inr, ℕ, suc, Bool, true, false, List, [], ◌∷◌, ◌++◌, Option, Some, None, refl, sym, ap, ◌∙◌, subst}
use Rattle.std.specs.Prelude.{◌&&◌, ◌==◌}
use Rattle.std.proofs.lemmas.Bool.{eqb-true}
use Rattle.sbe_types.specs.declared.kind.Leaf.{Leaf as LeafOf}
use Rattle.sbe_types.specs.declared.schema.Field.{Field}
use Rattle.sbe_types.specs.declared.schema.DataField.{DataField}
use Rattle.sbe_types.specs.declared.schema.Group.{Group}
use Rattle.sbe_types.specs.declared.schema.Level.{Level, out-Level}
use Rattle.bridge_rules.specs.Rules.{Rule}
use Rattle.bridge_rules.specs.Members.{and_then}
use Rattle.bridge_terms.specs.Plans.{Plan, Slot, Repeat, done, single, group, in_fields, in_data, tags, all_tags, owns, is_in}
use Rattle.reference_graph.specs.Expansion.{Structure, ended, plain, counted, structure_tags}
use Rattle.bridge_plan.specs.Mappings.{Mapping, datatype_of, delimiter_of}
use Rattle.bridge_rules.specs.Table.{rule_of, data_rule}
use Rattle.bridge_plan.specs.Covers.{field_slot, data_slot, or_slot, slot_of, group_of, groups_in, level_in, count_leaf, slot_before, repeat_of, repeat_before, group_before, plan_of}
use Rattle.bridge_terms.specs.PlanFacts.{Unowned, BeginsWith, IsPlanned, IsPlaced, IsRoot}
use Rattle.bridge_plan.specs.StructureFacts.{IsDistinct, IsDelimited}
use Rattle.bridge_rules.proofs.OptionLemmas.{some_is, none_some, and_then_is}
use Rattle.bridge_rules.proofs.BoolLemmas.{true_false, either, or_left, or_right, none_of, second_of, if_true, if_false}

-- ---- what a slot and a repeat say

field_slot_tag : (m : Mapping) (tag i : ℕ) (fs : List Field) (s : Slot) → field_slot m tag i fs ≡ Some s → s.tag ≡ tag
field_slot_tag m tag i [] s h = none_some h
field_slot_tag m tag i (f ∷ fs) s h = elim (either (f.id == tag)) [
  | inl t ↦
      let is = and_then_is (rule_of f.kind (datatype_of m tag)) (λ (rule : Rule). Some (record { tag = tag; place = in_fields i; rule = rule })) s
      (sym (if_true (f.id == tag) (and_then (rule_of f.kind (datatype_of m tag)) (λ rule. Some (record { tag = tag; place = in_fields i; rule = rule }))) (field_slot m tag (suc i) fs) t) ∙ h) in
      ap (λ (s : Slot). s.tag) (sym (some_is is.2))
  | inr n ↦ field_slot_tag m tag (suc i) fs s
      (sym (if_false (f.id == tag) (and_then (rule_of f.kind (datatype_of m tag)) (λ rule. Some (record { tag = tag; place = in_fields i; rule = rule }))) (field_slot m tag (suc i) fs) n) ∙ h)
]

data_slot_tag : (m : Mapping) (tag i : ℕ) (ds : List DataField) (s : Slot) → data_slot m tag i ds ≡ Some s → s.tag ≡ tag
data_slot_tag m tag i [] s h = none_some h
data_slot_tag m tag i (d ∷ ds) s h = elim (either (d.id == tag)) [
  | inl t ↦
      let is = and_then_is (data_rule d (datatype_of m tag)) (λ (rule : Rule). Some (record { tag = tag; place = in_data i; rule = rule })) s
      (sym (if_true (d.id == tag) (and_then (data_rule d (datatype_of m tag)) (λ rule. Some (record { tag = tag; place = in_data i; rule = rule }))) (data_slot m tag (suc i) ds) t) ∙ h) in
      ap (λ (s : Slot). s.tag) (sym (some_is is.2))
  | inr n ↦ data_slot_tag m tag (suc i) ds s
      (sym (if_false (d.id == tag) (and_then (data_rule d (datatype_of m tag)) (λ rule. Some (record { tag = tag; place = in_data i; rule = rule }))) (data_slot m tag (suc i) ds) n) ∙ h)
]

or_slot_tag : (a b : Option Slot) (tag : ℕ) → ((s : Slot) → a ≡ Some s → s.tag ≡ tag) → ((s : Slot) → b ≡ Some s → s.tag ≡ tag) → (s : Slot) → or_slot a b ≡ Some s → s.tag ≡ tag
or_slot_tag None b tag first second s h = second s h
or_slot_tag (Some a) b tag first second s h = first s h

pub slot_tag : (m : Mapping) (tag : ℕ) (level : Level) (s : Slot) → slot_of m tag level ≡ Some s → s.tag ≡ tag
slot_tag m tag level s h =
    or_slot_tag (field_slot m tag 0 (out-Level level).fields) (data_slot m tag 0 (out-Level level).parts) tag
    (λ s k. field_slot_tag m tag 0 (out-Level level).fields s k) (λ s k. data_slot_tag m tag 0 (out-Level level).parts s k) s h

-- what a group's repeat says
pub record Repeats (tag : ℕ) (inner : Structure) (g : Repeat) : Type 0 where
  pub tag_is : g.tag ≡ tag
  pub owned_are : g.owned ≡ structure_tags inner
  pub delimits : delimiter_of inner ≡ Some g.delimiter

pub repeats : (tag place : ℕ) (inner : Structure) (x : Group) (g : Repeat) → repeat_of tag place inner x ≡ Some g → Repeats tag inner g
repeats tag place inner x g h = by_delimiter (delimiter_of inner) (count_leaf x) refl h
  where
    by_delimiter : (d : Option ℕ) (c : Option LeafOf) → delimiter_of inner ≡ d →
        and_then d (λ delimiter. and_then c (λ count. Some (record { tag = tag; level = level_in x; place = place; delimiter = delimiter; count = count; owned = structure_tags inner }))) ≡ Some g → Repeats tag inner g
    by_delimiter None c is k = none_some k
    by_delimiter (Some d) None is k = none_some k
    by_delimiter (Some d) (Some c) is k = subst (Repeats tag inner) (some_is k) (record { tag_is = refl; owned_are = refl; delimits = is })

-- ---- tags

pub in_append : (n : ℕ) (xs ys : List ℕ) → is_in n (xs ++ ys) ≡ true → (is_in n xs ≡ true) ⊎ (is_in n ys ≡ true)
in_append n [] ys h = inr h
in_append n (x ∷ xs) ys h = elim (either (x == n)) [
  | inl t ↦ inl (or_left (x == n) _ t)
  | inr f ↦ elim (in_append n xs ys (second_of (x == n) _ h f)) [
    | inl k ↦ inl (or_right (x == n) _ k)
    | inr k ↦ inr k
  ]
]

pub in_left : (n : ℕ) (xs ys : List ℕ) → is_in n xs ≡ true → is_in n (xs ++ ys) ≡ true
in_left n [] ys h = true_false h refl
in_left n (x ∷ xs) ys h = elim (either (x == n)) [
  | inl t ↦ or_left (x == n) _ t
  | inr f ↦ or_right (x == n) _ (in_left n xs ys (second_of (x == n) _ h f))
]

pub in_right : (n : ℕ) (xs ys : List ℕ) → is_in n ys ≡ true → is_in n (xs ++ ys) ≡ true
in_right n [] ys h = h
in_right n (x ∷ xs) ys h = or_right (x == n) _ (in_right n xs ys h)

-- a tag at the front of others
front : (t n : ℕ) (ns ms : List ℕ) → t ≡ n → (is_in t ns ≡ true → is_in t ms ≡ true) → (x : ℕ) → x ≡ t → is_in x (n ∷ ns) ≡ true → (is_in x ns ≡ true → is_in x ms ≡ true) → is_in x (n ∷ ms) ≡ true
front t n ns ms is turn x same here rest = elim (either (n == x)) [
  | inl k ↦ or_left (n == x) _ k
  | inr f ↦ or_right (n == x) _ (rest (second_of (n == x) (is_in x ns) here f))
]

moved : (n k : ℕ) (ns ms : List ℕ) (x : ℕ) → n ≡ k → (is_in x ns ≡ true → is_in x ms ≡ true) → is_in x (n ∷ ns) ≡ true → is_in x (k ∷ ms) ≡ true
moved n k ns ms x is rest here = elim (either (n == x)) [
  | inl t ↦ or_left (k == x) _ (ap (λ y. y == x) (sym is) ∙ t)
  | inr f ↦ or_right (k == x) _ (rest (second_of (n == x) (is_in x ns) here f))
]

-- what is known of a plan in a structure
record InStructure (s : Structure) (p : Plan) : Type 0 where
  tops : (x : ℕ) → is_in x (tags p) ≡ true → is_in x (structure_tags s) ≡ true
  all : (x : ℕ) → is_in x (all_tags p) ≡ true → is_in x (structure_tags s) ≡ true
  owned : (owner x : ℕ) → owns p owner x ≡ true → is_in x (structure_tags s) ≡ true
  unowned : Unowned p
  planned : IsPlanned p

not_in : (x : ℕ) (ns ms : List ℕ) → (is_in x ms ≡ true → is_in x ns ≡ true) → is_in x ns ≡ false → is_in x ms ≡ false
not_in x ns ms turn new = elim (either (is_in x ms)) [
  | inl t ↦ true_false (turn t) new
  | inr f ↦ f
]

unowned_by : (p : Plan) (ns : List ℕ) (x : ℕ) → ((owner y : ℕ) → owns p owner y ≡ true → is_in y ns ≡ true) → is_in x ns ≡ false → (owner : ℕ) → owns p owner x ≡ false
unowned_by p ns x owned new owner = elim (either (owns p owner x)) [
  | inl t ↦ true_false (owned owner x t) new
  | inr f ↦ f
]

slot_in : (tag : ℕ) (rest : Structure) (o : Option Slot) (p : Plan) → ((s : Slot) → o ≡ Some s → s.tag ≡ tag) → is_in tag (structure_tags rest) ≡ false → InStructure rest p → InStructure (plain tag rest) (slot_before o p)
slot_in tag rest None p named new inside = record {
  tops = λ x h. or_right (tag == x) _ (inside.tops x h);
  all = λ x h. or_right (tag == x) _ (inside.all x h);
  owned = λ o x h. or_right (tag == x) _ (inside.owned o x h);
  unowned = inside.unowned;
  planned = inside.planned;
}
slot_in tag rest (Some s) p named new inside =
    let is : s.tag ≡ tag = named s refl in
    record {
      tops = λ x h. moved s.tag tag (tags p) (structure_tags rest) x is (inside.tops x) h;
      all = λ x h. moved s.tag tag (all_tags p) (structure_tags rest) x is (inside.all x) h;
      owned = λ o x h. or_right (tag == x) _ (inside.owned o x h);
      unowned = λ o x h. elim (either (s.tag == x)) [
        | inl t ↦ unowned_by p (structure_tags rest) x inside.owned (ap (λ y. is_in y (structure_tags rest)) (sym (eqb-true s.tag x t) ∙ is) ∙ new) o
        | inr f ↦ inside.unowned o x (second_of (s.tag == x) (is_in x (tags p)) h f)
      ];
      planned = (not_in s.tag (structure_tags rest) (tags p) (inside.tops s.tag) (ap (λ y. is_in y (structure_tags rest)) is ∙ new), inside.planned);
    }

group_in_structure : (tag : ℕ) (inner rest : Structure) (g : Repeat) (q p : Plan) → Repeats tag inner g → IsDistinct (counted tag inner rest) → BeginsWith g.delimiter q → InStructure inner q → InStructure rest p →
    InStructure (counted tag inner rest) (group g q p)
group_in_structure tag inner rest g q p r distinct with below inside = record {
  tops = λ x h. moved g.tag tag (tags p) (structure_tags inner ++ structure_tags rest) x r.tag_is (λ k. in_right x (structure_tags inner) (structure_tags rest) (inside.tops x k)) h;
  all = λ x h. moved g.tag tag (all_tags q ++ all_tags p) (structure_tags inner ++ structure_tags rest) x r.tag_is
      (λ k. elim (in_append x (all_tags q) (all_tags p) k) [
        | inl a ↦ in_left x (structure_tags inner) (structure_tags rest) (below.all x a)
        | inr b ↦ in_right x (structure_tags inner) (structure_tags rest) (inside.all x b)
      ]) h;
  owned = λ o x h. or_right (tag == x) _ (elim (either ((g.tag == o) && is_in x g.owned)) [
    | inl t ↦ in_left x (structure_tags inner) (structure_tags rest) (ap (λ ns. is_in x ns) (sym r.owned_are) ∙ second (g.tag == o) (is_in x g.owned) t)
    | inr f ↦ in_right x (structure_tags inner) (structure_tags rest) (inside.owned o x (second_of ((g.tag == o) && is_in x g.owned) (owns p o x) h f))
  ]);
  unowned = λ o x h. elim (either (g.tag == x)) [
    | inl t ↦
        let is : x ≡ tag = sym (eqb-true g.tag x t) ∙ r.tag_is in
        none_of ((g.tag == o) && is_in x g.owned) (owns p o x)
        (never (g.tag == o) (is_in x g.owned) (ap (λ ns. is_in x ns) r.owned_are ∙ ap (λ y. is_in y (structure_tags inner)) is ∙ distinct.0))
        (unowned_by p (structure_tags rest) x inside.owned (ap (λ y. is_in y (structure_tags rest)) is ∙ distinct.1) o)
    | inr f ↦
        let here = second_of (g.tag == x) (is_in x (tags p)) h f in
        none_of ((g.tag == o) && is_in x g.owned) (owns p o x)
        (never (g.tag == o) (is_in x g.owned) (ap (λ ns. is_in x ns) r.owned_are ∙ distinct.2 x (inside.tops x here)))
        (inside.unowned o x here)
  ];
  planned = (
    not_in g.tag (structure_tags rest) (tags p) (inside.tops g.tag) (ap (λ y. is_in y (structure_tags rest)) r.tag_is ∙ distinct.1),
    with,
    λ x h. ap (λ ns. is_in x ns) r.owned_are ∙ below.all x h,
    below.unowned,
    below.planned,
    inside.planned,
  );
}
  where
    second : (a b : Bool) → a && b ≡ true → b ≡ true
    second true b h = h
    second false b h = true_false h refl

    never : (a b : Bool) → b ≡ false → a && b ≡ false
    never true b h = h
    never false b h = refl

skipped : (tag : ℕ) (inner rest : Structure) (p : Plan) → InStructure rest p → InStructure (counted tag inner rest) p
skipped tag inner rest p inside = record {
  tops = λ x h. or_right (tag == x) _ (in_right x (structure_tags inner) (structure_tags rest) (inside.tops x h));
  all = λ x h. or_right (tag == x) _ (in_right x (structure_tags inner) (structure_tags rest) (inside.all x h));
  owned = λ o x h. or_right (tag == x) _ (in_right x (structure_tags inner) (structure_tags rest) (inside.owned o x h));
  unowned = inside.unowned;
  planned = inside.planned;
}

-- ---- the tags of a plan are those of the structure

slot_within : (tag : ℕ) (ns : List ℕ) (o : Option Slot) (p : Plan) → ((s : Slot) → o ≡ Some s → s.tag ≡ tag) → (x : ℕ) → (is_in x (all_tags p) ≡ true → is_in x ns ≡ true) →
    is_in x (all_tags (slot_before o p)) ≡ true → is_in x (tag ∷ ns) ≡ true
slot_within tag ns None p named x rest h = or_right (tag == x) _ (rest h)
slot_within tag ns (Some s) p named x rest h = moved s.tag tag (all_tags p) ns x (named s refl) rest h

repeat_within : (tag : ℕ) (inner : Structure) (ns : List ℕ) (o : Option Repeat) (q p : Plan) → ((g : Repeat) → o ≡ Some g → Repeats tag inner g) → (x : ℕ) →
    (is_in x (all_tags q) ≡ true → is_in x (structure_tags inner) ≡ true) → (is_in x (all_tags p) ≡ true → is_in x ns ≡ true) →
    is_in x (all_tags (repeat_before o q p)) ≡ true → is_in x (tag ∷ (structure_tags inner ++ ns)) ≡ true
repeat_within tag inner ns None q p named x below rest h = or_right (tag == x) _ (in_right x (structure_tags inner) ns (rest h))
repeat_within tag inner ns (Some g) q p named x below rest h =
    moved g.tag tag (all_tags q ++ all_tags p) (structure_tags inner ++ ns) x (named g refl).tag_is
    (λ k. elim (in_append x (all_tags q) (all_tags p) k) [
      | inl a ↦ in_left x (structure_tags inner) ns (below a)
      | inr b ↦ in_right x (structure_tags inner) ns (rest b)
    ]) h

group_within : (m : Mapping) (tag : ℕ) (inner : Structure) (ns : List ℕ) (o : Option (ℕ × Group)) (p : Plan) (x : ℕ) →
    ((level : Level) → is_in x (all_tags (plan_of m inner level)) ≡ true → is_in x (structure_tags inner) ≡ true) → (is_in x (all_tags p) ≡ true → is_in x ns ≡ true) →
    is_in x (all_tags (group_before o tag inner (λ below. plan_of m inner below) p)) ≡ true → is_in x (tag ∷ (structure_tags inner ++ ns)) ≡ true
group_within m tag inner ns None p x below rest h = or_right (tag == x) _ (in_right x (structure_tags inner) ns (rest h))
group_within m tag inner ns (Some found) p x below rest h =
    repeat_within tag inner ns (repeat_of tag found.0 inner found.1) (plan_of m inner (level_in found.1)) p (λ g k. repeats tag found.0 inner found.1 g k) x (below (level_in found.1)) rest h

within : (m : Mapping) (s : Structure) (level : Level) (x : ℕ) → is_in x (all_tags (plan_of m s level)) ≡ true → is_in x (structure_tags s) ≡ true
within m ended level x h = h
within m (plain tag rest) level x h = slot_within tag (structure_tags rest) (slot_of m tag level) (plan_of m rest level) (λ s k. slot_tag m tag level s k) x (within m rest level x) h
within m (counted tag inner rest) level x h =
    group_within m tag inner (structure_tags rest) (group_of tag 0 (groups_in level)) (plan_of m rest level) x (λ below k. within m inner below x k) (within m rest level x) h

-- the entries begin with their delimiter
begins_with : (m : Mapping) (inner : Structure) (below : Level) (d : ℕ) → IsDistinct inner → delimiter_of inner ≡ Some d → (slot : Slot) → slot_of m d below ≡ Some slot → BeginsWith d (plan_of m inner below)
begins_with m ended below d distinct is slot found = none_some is
begins_with m (counted tag inner rest) below d distinct is slot found = none_some is
begins_with m (plain tag rest) below d distinct is slot found =
    let same : tag ≡ d = some_is is in
    subst (λ o. BeginsWith d (slot_before o (plan_of m rest below))) (sym (ap (λ t. slot_of m t below) same ∙ found)) (
      slot_tag m d below slot found,
      not_in d (structure_tags rest) (all_tags (plan_of m rest below)) (within m rest below d) (ap (λ y. is_in y (structure_tags rest)) (sym same) ∙ distinct.0),
    )

repeat_in : (m : Mapping) (tag : ℕ) (inner rest : Structure) (below : Level) (o : Option Repeat) (p : Plan) → ((g : Repeat) → o ≡ Some g → Repeats tag inner g) → IsDistinct (counted tag inner rest) →
    ((d : ℕ) → delimiter_of inner ≡ Some d → (slot : Slot) × (slot_of m d below ≡ Some slot)) → InStructure inner (plan_of m inner below) → InStructure rest p →
    InStructure (counted tag inner rest) (repeat_before o (plan_of m inner below) p)
repeat_in m tag inner rest below None p named distinct delimited inside after = skipped tag inner rest p after
repeat_in m tag inner rest below (Some g) p named distinct delimited inside after =
    let r = named g refl in
    let slot = delimited g.delimiter r.delimits in
    group_in_structure tag inner rest g (plan_of m inner below) p r distinct (begins_with m inner below g.delimiter distinct.3 r.delimits slot.0 slot.1) inside after

group_in : (m : Mapping) (tag : ℕ) (inner rest : Structure) (o : Option (ℕ × Group)) (p : Plan) → IsDistinct (counted tag inner rest) →
    ((found : ℕ × Group) → o ≡ Some found → ((d : ℕ) → delimiter_of inner ≡ Some d → (slot : Slot) × (slot_of m d (level_in found.1) ≡ Some slot)) × InStructure inner (plan_of m inner (level_in found.1))) →
    InStructure rest p → InStructure (counted tag inner rest) (group_before o tag inner (λ below. plan_of m inner below) p)
group_in m tag inner rest None p distinct below after = skipped tag inner rest p after
group_in m tag inner rest (Some found) p distinct below after =
    let is = below found refl in
    repeat_in m tag inner rest (level_in found.1) (repeat_of tag found.0 inner found.1) p (λ g k. repeats tag found.0 inner found.1 g k) distinct is.0 is.1 after

plan_in : (m : Mapping) (s : Structure) → IsDistinct s → (level : Level) → IsDelimited m s level → InStructure s (plan_of m s level)
plan_in m ended distinct level delimited = record { tops = λ x h. h; all = λ x h. h; owned = λ o x h. true_false h refl; unowned = λ o x h. true_false h refl; planned = tt }
plan_in m (plain tag rest) distinct level delimited =
    slot_in tag rest (slot_of m tag level) (plan_of m rest level) (λ s k. slot_tag m tag level s k) distinct.0 (plan_in m rest distinct.1 level delimited)
plan_in m (counted tag inner rest) distinct level delimited =
    group_in m tag inner rest (group_of tag 0 (groups_in level)) (plan_of m rest level) distinct
    (λ found k. let is = delimited.0 found k in (is.0, plan_in m inner distinct.3 (level_in found.1) is.1)) (plan_in m rest distinct.4 level delimited.1)

-- the plan of a level whose groups begin with their delimiters
pub plan_root : (m : Mapping) (s : Structure) (level : Level) → IsDistinct s → IsDelimited m s level → IsRoot (plan_of m s level)
plan_root m s level distinct delimited = let is = plan_in m s distinct level delimited in record { unowned = is.unowned; planned = is.planned }

-- no tag is twice at a level of it
pub placed : (p : Plan) → IsPlanned p → IsPlaced p
placed done planned = tt
placed (single s rest) planned = (planned.0, placed rest planned.1)
placed (group g inner rest) planned = (planned.0, placed inner planned.4, placed rest planned.5)
