-- A message that comes back from its text lacks no part that a text needs.
use Rattle.std.proofs.Common.{◌≡◌, inl, inr, ℕ, zero, suc, ◌<◌, true, false, arith, List, [], ◌∷◌, ◌++◌, map, length, Option, Some, None, refl, sym, ap, ◌∙◌, subst, pos}
use Rattle.std.specs.Prelude.{◌&&◌, ◌||◌, ◌==◌, not, slice_get, codes}
use Rattle.std.specs.Option.{option_map_or}
use Rattle.std.specs.List.{list_all}
use Rattle.std.proofs.lemmas.Bool.{eqb-true}
use Rattle.std.proofs.lemmas.List.{length-map}
use denote.Hole.Carrier as carrier
use Rattle.sbe_types.specs.declared.schema.Level as levels
use Rattle.sbe_types.specs.declared.schema.Group as grouped
use Rattle.sbe_types.specs.declared.kind.Order.{Order}
use Rattle.sbe_types.specs.declared.kind.Leaf.{Leaf as LeafOf}
use Rattle.sbe_types.specs.declared.schema.Field.{Field}
use Rattle.sbe_types.specs.declared.schema.DataField.{DataField}
use Rattle.sbe_types.specs.declared.schema.Group.{Group, Group', out-Group}
use Rattle.sbe_types.specs.declared.schema.Level.{Level, Level', Row_of-Group, end_of-Group, more_of-Group, items-the_row-Group, out-Level}
use Rattle.sbe_types.specs.declared.message.Value.{Value}
use Rattle.sbe_types.specs.declared.message.Value as value
use Rattle.sbe_types.specs.declared.message.DataVal.{DataVal}
use Rattle.sbe_types.specs.declared.message.DataVal.TheVariants as dataval
use Rattle.sbe_types.specs.declared.message.Block.{Block, out-Block}
use Rattle.sbe_types.specs.declared.message.GroupVal.{GroupVal, items_hidden-the_row-Block-1}
use Rattle.sbe_types.specs.declared.message.GroupVal as groupval
use Rattle.sbe_types.specs.Places.{end_past}
use Rattle.sbe_types.specs.Shown.{admits}
use Rattle.sbe_wire.specs.declared.mode.Mode.{Mode}
use Rattle.sbe_wire.specs.Named.{Spot, spot_named, is_admitted}
use Rattle.sbe_wire.specs.Lays.{IsConcatenationOfBoth, FieldsLay, DataLays, TailLays, GroupsLay}
use Rattle.version_laws.specs.Plain.{is_absent_part, is_absent_group}
use Rattle.reference_graph.specs.Expansion.{Structure}
use Rattle.bridge_rules.specs.Rules.{Rule}
use Rattle.bridge_rules.specs.Items.{Item, item_by}
use Rattle.bridge_rules.specs.Good.{Good}
use Rattle.bridge_rules.specs.Sound.{IsSound}
use Rattle.bridge_rules.specs.Members.{and_then}
use Rattle.bridge_rules.proofs.OptionLemmas.{some_is, none_some}
use Rattle.bridge_rules.proofs.BoolLemmas.{true_false, either, second_of, or_right, and_so}
use Rattle.bridge_terms.specs.Plans.{Plan, Slot, Place, Tree, Each, in_fields, in_data, is_in, AreGood}
use Rattle.bridge_terms.specs.PlanFacts.{EachRule}
use Rattle.bridge_terms.specs.Gathering.{items_of}
use Rattle.bridge_terms.specs.Blocks.{nth_or, data_value, entries_of, value_at, values_of, field_number, data_number, field_places, data_places, group_places, IsComplete, AreComplete}
use Rattle.bridge_plan.specs.Mappings.{Mapping, datatype_of}
use Rattle.bridge_plan.specs.Covers.{field_slot, data_slot, or_slot, slot_of, groups_in, level_in, count_leaf, plan_of}
use Rattle.bridge_plan.specs.StructureFacts.{HasCount}
use Rattle.bridge_plan.proofs.Counting.{repeat_count}
use Rattle.bridge_plan.proofs.PlanParts.{Steps, repeat_is, groups_same}
use Rattle.bridge_plan.proofs.FittingMessages.{from_zero}
use Rattle.bridge_plan.proofs.BackFits.{field_rule, data_rule_at, group_at, none_long}
use Rattle.bridge_versions.specs.Needed.{is_needed, is_absent, has_fields, has_parts, has_needed, has_groups, has_entries}
use Rattle.bridge_versions.proofs.AbsentValues.{MayMiss, absent_item, kind_spared, data_spared}
use Rattle.bridge_versions.proofs.LyingLevels.{LevelLies, GroupIs, level_group}

-- ---- a level that lies has a value for each part

fields_long : (mode : Mode) (e : ℕ) (fs : List Field) (vs : List Value) (b : List ℕ) → FieldsLay mode e fs vs b → length vs ≡ length fs
fields_long mode e [] [] b h = refl
fields_long mode e [] (v ∷ vs) b h = absurd h
fields_long mode e (f ∷ fs) [] b h = absurd h
fields_long mode e (f ∷ fs) (v ∷ vs) b h = ap suc (fields_long mode (end_past e f.offset f.kind) fs vs b h.1)

parts_long : (order : Order) (version : ℕ) (ds : List DataField) (vs : List DataVal) (b : List ℕ) → IsConcatenationOfBoth (DataLays order version) ds vs b → length vs ≡ length ds
parts_long order version [] [] b h = refl
parts_long order version [] (v ∷ vs) b h = absurd h
parts_long order version (d ∷ ds) [] b h = absurd h
parts_long order version (d ∷ ds) (v ∷ vs) b h = ap suc (parts_long order version ds vs h.1 h.4)

row_long : (mode : Mode) {n : _} (row : Row_of-Group n) (vs : List GroupVal) (b : List ℕ) → GroupsLay mode row vs b → length vs ≡ length (items-the_row-Group _ row)
row_long mode end_of-Group [] b h = refl
row_long mode end_of-Group (v ∷ vs) b h = absurd h
row_long mode (more_of-Group g rest) [] b h = absurd h
row_long mode (more_of-Group g rest) (v ∷ vs) b h = ap suc (row_long mode rest vs h.1 h.4)

record TailLong (level : Level) (block : Block) : Type 0 where
  groups : length (out-Block block).groups ≡ length (groups_in level)
  parts : length (out-Block block).parts ≡ length (out-Level level).parts

tail_long : (mode : Mode) (level : Level) (block : Block) (b : List ℕ) → TailLays mode level block b → TailLong level block
unfolding levels.out-Level carrier.out
tail_long mode (Level' name id semantic since block_length fields n groups parts) block b h =
    record { groups = row_long mode groups (out-Block block).groups h.0 h.3; parts = parts_long mode.order mode.version parts (out-Block block).parts h.1 h.4 }

-- ---- parts by their numbers

within : {X : Type 0} (xs : List X) (i : ℕ) (x : X) → slice_get xs i ≡ Some x → i < length xs
within [] i x h = none_some h
within (y ∷ ys) zero x h = omega arith
within (y ∷ ys) (suc i) x h = let below = within ys i x h in omega (arith, below)

-- what holds of one number and of some holds of all of them
at_or : (P : ℕ → Type 0) (j : ℕ) (ns : List ℕ) → P j → ((i : ℕ) → is_in i ns ≡ true → P i) → (i : ℕ) → is_in i (j ∷ ns) ≡ true → P i
at_or P j ns here more i h = elim (either (j == i)) [
  | inl t ↦ subst P (eqb-true j i t) here
  | inr f ↦ more i (second_of (j == i) (is_in i ns) h f)
]

one_less : (a b : ℕ) → suc a ≡ suc b → a ≡ b
one_less a b h = omega (arith, h)

abbrev pub FieldHas : Level → Block → ℕ → Type 0
FieldHas level block i = (f : Field) → slice_get (out-Level level).fields i ≡ Some f → not (is_absent (nth_or value.Absent i (out-Block block).fields) && is_needed f.kind) ≡ true

abbrev pub GroupHas : Level → Block → ℕ → Type 0
GroupHas level block i = (g : Group) → slice_get (groups_in level) i ≡ Some g → has_entries g (nth_or groupval.Absent i (out-Block block).groups) ≡ true

abbrev pub DataHas : Level → Block → ℕ → Type 0
DataHas level block i = (d : DataField) → slice_get (out-Level level).parts i ≡ Some d → not (is_absent_part (nth_or dataval.Absent i (out-Block block).parts)) || admits d.length (pos 0) ≡ true

-- the parts with these numbers are there, or aren't needed
pub record PlacesHave (level : Level) (block : Block) (fields groups parts : List ℕ) : Type 0 where
  pub of_fields : (i : ℕ) → is_in i fields ≡ true → FieldHas level block i
  pub of_groups : (i : ℕ) → is_in i groups ≡ true → GroupHas level block i
  pub of_parts : (i : ℕ) → is_in i parts ≡ true → DataHas level block i

fields_all : (fs : List Field) (vs : List Value) → length vs ≡ length fs → ((i : ℕ) (f : Field) → slice_get fs i ≡ Some f → not (is_absent (nth_or value.Absent i vs) && is_needed f.kind) ≡ true) → has_fields fs vs ≡ true
fields_all [] [] long all = refl
fields_all [] (v ∷ vs) long all = none_long (length vs) long
fields_all (f ∷ fs) [] long all = none_long (length fs) (sym long)
fields_all (f ∷ fs) (v ∷ vs) long all =
    and_so (not (is_absent v && is_needed f.kind)) (has_fields fs vs) (all 0 f refl) (fields_all fs vs (one_less (length vs) (length fs) long) (λ i g h. all (suc i) g h))

parts_all : (ds : List DataField) (vs : List DataVal) → length vs ≡ length ds → ((i : ℕ) (d : DataField) → slice_get ds i ≡ Some d → not (is_absent_part (nth_or dataval.Absent i vs)) || admits d.length (pos 0) ≡ true) →
    has_parts ds vs ≡ true
parts_all [] [] long all = refl
parts_all [] (v ∷ vs) long all = none_long (length vs) long
parts_all (d ∷ ds) [] long all = none_long (length ds) (sym long)
parts_all (d ∷ ds) (v ∷ vs) long all =
    and_so (not (is_absent_part v) || admits d.length (pos 0)) (has_parts ds vs) (all 0 d refl) (parts_all ds vs (one_less (length vs) (length ds) long) (λ i e h. all (suc i) e h))

row_all : {n : _} (row : Row_of-Group n) (vs : List GroupVal) → length vs ≡ length (items-the_row-Group _ row) →
    ((i : ℕ) (g : Group) → slice_get (items-the_row-Group _ row) i ≡ Some g → has_entries g (nth_or groupval.Absent i vs) ≡ true) → has_groups row vs ≡ true
row_all end_of-Group [] long all = refl
row_all end_of-Group (v ∷ vs) long all = none_long (length vs) long
row_all (more_of-Group g rest) [] long all = none_long (length (items-the_row-Group _ rest)) (sym long)
row_all (more_of-Group g rest) (v ∷ vs) long all =
    and_so (has_entries g v) (has_groups rest vs) (all 0 g refl) (row_all rest vs (one_less (length vs) (length (items-the_row-Group _ rest)) long) (λ i x h. all (suc i) x h))

level_from : (level : Level) (block : Block) → has_fields (out-Level level).fields (out-Block block).fields ≡ true → length (out-Block block).groups ≡ length (groups_in level) → ((i : ℕ) → GroupHas level block i) →
    has_parts (out-Level level).parts (out-Block block).parts ≡ true → has_needed level block ≡ true
unfolding levels.out-Level carrier.out
level_from (Level' name id semantic since block_length fields n groups parts) block own long inner rest =
    and_so (has_fields fields (out-Block block).fields) (has_groups groups (out-Block block).groups && has_parts parts (out-Block block).parts) own
    (and_so (has_groups groups (out-Block block).groups) (has_parts parts (out-Block block).parts) (row_all groups (out-Block block).groups long inner) rest)

pub level_has : (mode : Mode) (level : Level) (p : Plan) (block : Block) → LevelLies mode level block → IsComplete level p → PlacesHave level block (field_places p) (group_places p) (data_places p) → has_needed level block ≡ true
level_has mode level p block lies complete places =
    let same = groups_same level in
    let tail = tail_long mode level block lies.back lies.tail in
    level_from level block
    (fields_all (out-Level level).fields (out-Block block).fields (fields_long mode 0 (out-Level level).fields (out-Block block).fields lies.front lies.fields)
    (λ i f at. places.of_fields i (complete.fields i (within (out-Level level).fields i f at)) f at))
    tail.groups
    (λ i g at. places.of_groups i (complete.groups i (subst (λ (gs : List Group). i < length gs) (sym same) (within (groups_in level) i g at))) g at)
    (parts_all (out-Level level).parts (out-Block block).parts tail.parts (λ i d at. places.of_parts i (complete.parts i (within (out-Level level).parts i d at)) d at))

-- ---- one value

absent_is : (v : Value) → is_absent v ≡ true → v ≡ value.Absent
absent_is value.Absent h = refl
absent_is (value.Num n) h = true_false h refl
absent_is (value.Text t) h = true_false h refl
absent_is (value.Nums es) h = true_false h refl
absent_is (value.Enum n) h = true_false h refl
absent_is (value.Set n) h = true_false h refl
absent_is (value.Comp' k row) h = true_false h refl
absent_is value.Null h = true_false h refl
absent_is value.Const h = true_false h refl

no_part_is : (v : DataVal) → is_absent_part v ≡ true → data_value v ≡ value.Absent
no_part_is dataval.Absent h = refl
no_part_is (dataval.Bytes bytes) h = true_false h refl

-- an absent value has the item of a good one only if the part may be missing
missed_by : (rule : Rule) → IsSound rule → (u v : Value) → Good rule u → item_by rule u ≡ item_by rule v → v ≡ value.Absent → MayMiss rule
missed_by rule sound u v good same gone = (u, sound.lacking u good (same ∙ ap (item_by rule) gone ∙ absent_item rule))

abbrev IsHad : Level → Block → Place → Type 0
IsHad level block (in_fields i) = FieldHas level block i
IsHad level block (in_data i) = DataHas level block i

slot_had : (m : Mapping) (tag : ℕ) (level : Level) (slot : Slot) (block : Block) → IsSound slot.rule → slot_of m tag level ≡ Some slot → (u : Value) → Good slot.rule u →
    item_by slot.rule u ≡ item_by slot.rule (value_at slot.place block) → IsHad level block slot.place
slot_had m tag level slot block sound h u good same = by_field (field_slot m tag 0 (out-Level level).fields) refl h
  where
    by_field : (o : Option Slot) → field_slot m tag 0 (out-Level level).fields ≡ o → or_slot o (data_slot m tag 0 (out-Level level).parts) ≡ Some slot → IsHad level block slot.place
    by_field (Some s) is k =
        let own = field_rule m tag 0 (out-Level level).fields slot (is ∙ k) in
        let place : slot.place ≡ in_fields own.number = own.place ∙ ap in_fields (from_zero own.number) in
        let v = nth_or value.Absent own.number (out-Block block).fields in
        let same_there : item_by slot.rule u ≡ item_by slot.rule v = subst (λ p. item_by slot.rule u ≡ item_by slot.rule (value_at p block)) place same in
        let here : not (is_absent v && is_needed own.own.kind) ≡ true =
        elim (either (is_absent v)) [
          | inl t ↦
              let spared = kind_spared own.own.kind (datatype_of m tag) slot.rule own.rule (missed_by slot.rule sound u v good same_there (absent_is v t)) in
              ap (λ b. not (b && is_needed own.own.kind)) t ∙ ap not spared
          | inr f ↦ ap (λ b. not (b && is_needed own.own.kind)) f
        ] in
        subst (IsHad level block) (sym place) (λ f at. subst (λ (g : Field). not (is_absent v && is_needed g.kind) ≡ true) (some_is (sym own.at ∙ at)) here)
    by_field None is k =
        let own = data_rule_at m tag 0 (out-Level level).parts slot k in
        let place : slot.place ≡ in_data own.number = own.place ∙ ap in_data (from_zero own.number) in
        let v = nth_or dataval.Absent own.number (out-Block block).parts in
        let same_there : item_by slot.rule u ≡ item_by slot.rule (data_value v) = subst (λ p. item_by slot.rule u ≡ item_by slot.rule (value_at p block)) place same in
        let here : not (is_absent_part v) || admits own.own.length (pos 0) ≡ true =
        elim (either (is_absent_part v)) [
          | inl t ↦
              or_right (not (is_absent_part v)) (admits own.own.length (pos 0))
              (data_spared own.own (datatype_of m tag) slot.rule own.rule (missed_by slot.rule sound u (data_value v) good same_there (no_part_is v t)))
          | inr f ↦ ap (λ b. not b || admits own.own.length (pos 0)) f
        ] in
        subst (IsHad level block) (sym place) (λ d at. subst (λ (e : DataField). not (is_absent_part v) || admits e.length (pos 0) ≡ true) (some_is (sym own.at ∙ at)) here)

slot_more : (level : Level) (block : Block) (place : Place) (fields groups parts : List ℕ) → IsHad level block place → PlacesHave level block fields groups parts →
    PlacesHave level block (field_number place ++ fields) groups (data_number place ++ parts)
slot_more level block (in_fields j) fields groups parts here more =
    record { of_fields = at_or (FieldHas level block) j fields here more.of_fields; of_groups = more.of_groups; of_parts = more.of_parts }
slot_more level block (in_data j) fields groups parts here more =
    record { of_fields = more.of_fields; of_groups = more.of_groups; of_parts = at_or (DataHas level block) j parts here more.of_parts }

-- ---- groups

count_admitted : (g : Group) (leaf : LeafOf) (n : ℕ) → count_leaf g ≡ Some leaf → admits leaf (pos n) ≡ true → is_admitted (out-Group g).dim (codes "numInGroup") n ≡ true
count_admitted g leaf n is h = by_spot (spot_named 0 (codes "numInGroup") (out-Group g).dim) is
  where
    by_spot : (o : Option Spot) → and_then o (λ (spot : Spot). Some spot.leaf) ≡ Some leaf → option_map_or (λ (spot : Spot). admits spot.leaf (pos n)) o false ≡ true
    by_spot None k = none_some k
    by_spot (Some spot) k = ap (λ l. admits l (pos n)) (some_is k) ∙ h

group_from : (g : Group) (v : GroupVal) → not (is_absent_group v) || is_admitted (out-Group g).dim (codes "numInGroup") 0 ≡ true → list_all (λ e. has_needed (level_in g) e) (entries_of v) ≡ true → has_entries g v ≡ true
unfolding grouped.out-Group carrier.out
group_from (Group' dim level) v own all = and_so (not (is_absent_group v) || is_admitted dim (codes "numInGroup") 0) (list_all (λ e. has_needed level e) (entries_of v)) own all

empty_cons : {X Z : Type 0} {x : X} {xs : List X} → [] ≡ x ∷ xs → Z
empty_cons h = cc

head_same : {X : Type 0} {x y : X} {xs ys : List X} → x ∷ xs ≡ y ∷ ys → x ≡ y
head_same h = cc

tail_same : {X : Type 0} {x y : X} {xs ys : List X} → x ∷ xs ≡ y ∷ ys → xs ≡ ys
tail_same h = cc

-- entries whose items are those of good entries
entries_have : (inside : Plan) (level : Level) (P : Block → Type 0) → ((u : Tree Value inside) (e : Block) → P e → AreGood inside u → items_of inside u ≡ items_of inside (values_of inside e) → has_needed level e ≡ true) →
    (us : List (Tree Value inside)) (es : List Block) → Each P es → Each (λ u. AreGood inside u) us → map (λ u. items_of inside u) us ≡ map (λ t. items_of inside t) (map (λ e. values_of inside e) es) →
    list_all (λ e. has_needed level e) es ≡ true
entries_have inside level P turn us [] lie good same = refl
entries_have inside level P turn [] (e ∷ es) lie good same = empty_cons same
entries_have inside level P turn (u ∷ us) (e ∷ es) lie good same =
    and_so (has_needed level e) (list_all (λ e. has_needed level e) es) (turn u e lie.0 good.0 (head_same same)) (entries_have inside level P turn us es lie.1 good.1 (tail_same same))

-- ---- all parts

abbrev pub HasFrom : Mode → Structure → Level → Plan → Type 0
HasFrom mode s level p =
    AreComplete p → EachRule IsSound p → (block : Block) → LevelLies mode level block → (u : Tree Value p) → AreGood p u → items_of p u ≡ items_of p (values_of p block) →
    PlacesHave level block (field_places p) (group_places p) (data_places p)

-- a group whose items are those of good entries
group_had : (mode : Mode) (g : Group) (leaf : LeafOf) (inside : Plan) → count_leaf g ≡ Some leaf → ((u : Tree Value inside) (e : Block) → LevelLies mode (level_in g) e → AreGood inside u → items_of inside u ≡ items_of inside (values_of inside e) → has_needed (level_in g) e ≡ true) →
    (v : GroupVal) → GroupIs mode g v → (us : List (Tree Value inside)) → admits leaf (pos (length us)) ≡ true → Each (λ u. AreGood inside u) us →
    map (λ u. items_of inside u) us ≡ map (λ t. items_of inside t) (map (λ e. values_of inside e) (entries_of v)) → has_entries g v ≡ true
group_had mode g leaf inside is turn v (inr gone) us fits good same =
    let none : map (λ u. items_of inside u) us ≡ [] = same ∙ ap (λ w. map (λ t. items_of inside t) (map (λ e. values_of inside e) (entries_of w))) gone in
    let zero_long : length us ≡ 0 = sym (length-map us (λ u. items_of inside u)) ∙ ap length none in
    group_from g v (or_right (not (is_absent_group v)) _ (count_admitted g leaf 0 is (ap (λ n. admits leaf (pos n)) (sym zero_long) ∙ fits)))
    (ap (λ w. list_all (λ e. has_needed (level_in g) e) (entries_of w)) gone)
group_had mode g leaf inside is turn v (inl has) us fits good same =
    let list : entries_of v ≡ has.blocks = ap entries_of has.are ∙ items_hidden-the_row-Block-1 has.blocks in
    group_from g v (ap (λ w. not (is_absent_group w) || is_admitted (out-Group g).dim (codes "numInGroup") 0) has.are)
    (ap (list_all (λ e. has_needed (level_in g) e)) list
    ∙ entries_have inside (level_in g) (λ e. LevelLies mode (level_in g) e) turn us has.blocks has.lie good
    (same ∙ ap (λ es. map (λ t. items_of inside t) (map (λ e. values_of inside e) es)) list))

pub had_steps : (mode : Mode) (m : Mapping) → Steps m HasCount (HasFrom mode)
had_steps mode m = record {
  at_end = λ level complete sound block lies u good same. record { of_fields = λ i h. true_false h refl; of_groups = λ i h. true_false h refl; of_parts = λ i h. true_false h refl };
  no_slot = λ tag rest level p none more. more;
  a_slot = λ tag rest level p slot is more complete sound block lies u good same.
      slot_more level block slot.place (field_places p) (group_places p) (data_places p) (slot_had m tag level slot block sound.0 is u.0 good.0 (ap (λ (z : Option Item × Tree (Option Item) p). z.0) same))
      (more complete sound.1 block lies u.1 good.1 (ap (λ (z : Option Item × Tree (Option Item) p). z.1) same));
  no_group = λ tag inner rest level p none more. more;
  a_group = λ tag inner rest level p found g is some own deeper more complete sound block lies u good same.
      let repeat = repeat_is tag found.0 inner found.1 g some in
      let at = group_at tag 0 (groups_in level) found is in
      let place : g.place ≡ at.0 = repeat.0 ∙ at.1 ∙ from_zero at.0 in
      let inside = plan_of m inner (level_in found.1) in
      let v = nth_or groupval.Absent g.place (out-Block block).groups in
      let there : GroupIs mode found.1 v = level_group mode level block lies g.place found.1 (ap (slice_get (groups_in level)) place ∙ at.2) in
      let whole : IsComplete (level_in found.1) inside = subst (λ l. IsComplete l inside) repeat.1 complete.0 in
      let has : has_entries found.1 v ≡ true =
      group_had mode found.1 g.count inside (repeat_count tag found.0 inner found.1 g some)
      (λ w e lie fine alike. level_has mode (level_in found.1) inside e lie whole (deeper complete.1 sound.0 e lie w fine alike)) v there u.0 good.0 good.1
      (ap (λ (z : List (Tree (Option Item) inside) × Tree (Option Item) p). z.0) same) in
      let after = more complete.2 sound.1 block lies u.1 good.2 (ap (λ (z : List (Tree (Option Item) inside) × Tree (Option Item) p). z.1) same) in
      record {
        of_fields = after.of_fields;
        of_groups = at_or (GroupHas level block) g.place (group_places p)
            (λ x here. subst (λ y. has_entries y v ≡ true) (some_is (sym at.2 ∙ (ap (slice_get (groups_in level)) (sym place) ∙ here))) has) after.of_groups;
        of_parts = after.of_parts;
      };
}
