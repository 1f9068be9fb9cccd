-- The message that a text is translated to fits its template.
use Rattle.std.proofs.Common.{◌≡◌, inl, inr, ℕ, zero, suc, ◌+◌, ◌<◌, true, false, arith, List, [], ◌∷◌, ◌++◌, map, length, Option, Some, None, refl, sym, ap, ◌∙◌, subst, pos}
use Rattle.std.specs.Prelude.{◌==◌, codes, slice_get}
use Rattle.std.specs.Option.{option_map_or}
use Rattle.std.specs.List.{AllByRecursion}
use Rattle.std.proofs.lemmas.Bool.{eqb-true}
use Rattle.std.proofs.lemmas.List.{length-map}
use denote.Hole.Carrier as carrier
use Rattle.sbe_types.specs.declared.schema.Level as levels
use Rattle.sbe_types.specs.declared.schema.Group as grouped
use Rattle.sbe_types.specs.declared.kind.Leaf.{Leaf as LeafOf}
use Rattle.sbe_types.specs.declared.kind.Kind.{Kind}
use Rattle.sbe_types.specs.declared.kind.Order.{Order}
use Rattle.sbe_types.specs.declared.message.Value.{Value}
use Rattle.sbe_types.specs.declared.message.Value as value
use Rattle.sbe_types.specs.declared.message.DataVal.{DataVal}
use Rattle.sbe_types.specs.declared.message.DataVal.TheVariants as dataval
use Rattle.sbe_types.specs.declared.message.Block.{Block, out-Block}
use Rattle.sbe_types.specs.declared.message.GroupVal.{GroupVal, items_hidden-the_row-Block-1}
use Rattle.sbe_types.specs.declared.message.GroupVal as groupval
use Rattle.sbe_types.specs.declared.schema.Field.{Field}
use Rattle.sbe_types.specs.declared.schema.DataField.{DataField}
use Rattle.sbe_types.specs.declared.schema.Group.{Group, Group', out-Group}
use Rattle.sbe_types.specs.declared.schema.Level.{Level, Level', Row_of-Group, end_of-Group, more_of-Group, items-the_row-Group, out-Level}
use Rattle.sbe_types.specs.Shown.{admits}
use Rattle.sbe_types.specs.Wire.{FitsKind}
use Rattle.sbe_wire.specs.Named.{Spot, spot_named, is_admitted}
use Rattle.sbe_wire.specs.Fits.{FieldsFit, PartFits, PartsFit, EachFits, BlockFits, GroupsFit, GroupFits}
use Rattle.writing_laws.specs.Writable.{IsWritableKind}
use Rattle.schema_facts.specs.InOrder.{IsKindFrom, IsKindInOrder}
use Rattle.reference_graph.specs.Expansion.{Structure}
use Rattle.tagvalue_codec.specs.Fields.{Field as FixField}
use Rattle.bridge_rules.specs.Rules.{Rule}
use Rattle.bridge_rules.specs.Good.{Good}
use Rattle.bridge_rules.specs.Members.{and_then}
use Rattle.bridge_rules.specs.Datatypes.{Datatype, whole_number, decimal_number, character, text, boolean, timestamp, time_of_day, calendar_day, month_of_year, raw, code_set, character_set, unbridged}
use Rattle.bridge_rules.specs.Table.{rule_of, data_rule}
use Rattle.bridge_rules.proofs.OptionLemmas.{some_is, none_some, and_then_is}
use Rattle.bridge_rules.proofs.BoolLemmas.{true_false, either, second_of, if_true, if_false}
use Rattle.bridge_rules.proofs.FittingValues.{good_is_fitting}
use Rattle.bridge_terms.specs.Plans.{Plan, Slot, Place, Each, in_fields, in_data, is_in, AreGood}
use Rattle.bridge_terms.specs.Blocks.{nth_or, data_value, entries_of, value_at, values_of, field_number, data_number, field_places, data_places, group_places, IsComplete, AreComplete, HasLengths, HasEntries}
use Rattle.bridge_plan.specs.Mappings.{Mapping, datatype_of}
use Rattle.bridge_plan.specs.Covers.{field_slot, data_slot, or_slot, slot_of, group_of, groups_in, group_tag, level_in, count_leaf, plan_of}
use Rattle.bridge_plan.specs.StructureFacts.{EachGroup}
use Rattle.bridge_plan.specs.CheckedLevels.{IsCovered}
use Rattle.bridge_plan.specs.Translation.{IsMessageOf}
use Rattle.bridge_plan.proofs.Counting.{repeat_count}
use Rattle.bridge_plan.proofs.PlanParts.{Steps, plan_by, repeat_is, groups_same}
use Rattle.bridge_plan.proofs.Translating.{covered_plan}
use Rattle.bridge_plan.proofs.FittingMessages.{at_zero, from_zero, one_later, slot_by, data_by, AreGroups}
use Rattle.bridge_plan.proofs.SchemaGives.{HasFieldKinds, HaveFieldKinds}

-- ---- lists

within : {X : Type 0} (xs : List X) (i : ℕ) (x : X) → slice_get xs i ≡ Some x → i < length xs
within [] i x h = none_some h
within (y ∷ ys) zero x h = omega arith
within (y ∷ ys) (suc i) x h = let below = within ys i x h in omega (arith, below)

pub all_at : {X : Type 0} (P : X → Type 0) (xs : List X) → AllByRecursion P xs → (i : ℕ) (x : X) → slice_get xs i ≡ Some x → P x
all_at P [] all i x h = none_some h
all_at P (y ∷ ys) all zero x h = subst P (some_is h) all.0
all_at P (y ∷ ys) all (suc i) x h = all_at P ys all.1 i x h

-- what holds of one number and of some holds of all of them
at_or : (P : ℕ → Type 0) (j : ℕ) (ns : List ℕ) → P j → ((i : ℕ) → is_in i ns ≡ true → P i) → (i : ℕ) → is_in i (j ∷ ns) ≡ true → P i
at_or P j ns here more i h = elim (either (j == i)) [
  | inl t ↦ subst P (eqb-true j i t) here
  | inr f ↦ more i (second_of (j == i) (is_in i ns) h f)
]

pub none_long : {Z : Type 0} (n : ℕ) → suc n ≡ 0 → Z
none_long n h = absurd (omega (arith, h))

one_less : (a b : ℕ) → suc a ≡ suc b → a ≡ b
one_less a b h = omega (arith, h)

-- ---- the part of a slot

-- the slot is that of a field among these, of which the first is number i
pub record IsFieldSlot (m : Mapping) (tag i : ℕ) (fs : List Field) (slot : Slot) : Type 0 where
  pub number : ℕ
  pub own : Field
  pub at : slice_get fs number ≡ Some own
  pub place : slot.place ≡ in_fields (i + number)
  pub rule : rule_of own.kind (datatype_of m tag) ≡ Some slot.rule

pub field_rule : (m : Mapping) (tag i : ℕ) (fs : List Field) (slot : Slot) → field_slot m tag i fs ≡ Some slot → IsFieldSlot m tag i fs slot
field_rule m tag i [] slot h = none_some h
field_rule m tag i (f ∷ fs) slot h = elim (either (f.id == tag)) [
  | inl t ↦
      let is = and_then_is (rule_of f.kind (datatype_of m tag)) (λ (rule : Rule). Some (slot_by tag i rule)) slot
      (sym (if_true (f.id == tag) (and_then (rule_of f.kind (datatype_of m tag)) (λ rule. Some (slot_by tag i rule))) (field_slot m tag (suc i) fs) t) ∙ h) in
      let same = some_is is.2 in
      record { number = 0; own = f; at = refl; place = ap (λ (s : Slot). s.place) (sym same) ∙ ap in_fields (at_zero i); rule = is.1 ∙ ap (λ (s : Slot). Some s.rule) same }
  | inr n ↦
      let more = field_rule m tag (suc i) fs slot
      (sym (if_false (f.id == tag) (and_then (rule_of f.kind (datatype_of m tag)) (λ rule. Some (slot_by tag i rule))) (field_slot m tag (suc i) fs) n) ∙ h) in
      record { number = suc more.number; own = more.own; at = more.at; place = more.place ∙ ap in_fields (one_later i more.number); rule = more.rule }
]

-- the same for data
pub record IsDataSlot (m : Mapping) (tag i : ℕ) (ds : List DataField) (slot : Slot) : Type 0 where
  pub number : ℕ
  pub own : DataField
  pub at : slice_get ds number ≡ Some own
  pub place : slot.place ≡ in_data (i + number)
  pub rule : data_rule own (datatype_of m tag) ≡ Some slot.rule

pub data_rule_at : (m : Mapping) (tag i : ℕ) (ds : List DataField) (slot : Slot) → data_slot m tag i ds ≡ Some slot → IsDataSlot m tag i ds slot
data_rule_at m tag i [] slot h = none_some h
data_rule_at m tag i (d ∷ ds) slot h = elim (either (d.id == tag)) [
  | inl t ↦
      let is = and_then_is (data_rule d (datatype_of m tag)) (λ (rule : Rule). Some (data_by tag i rule)) slot
      (sym (if_true (d.id == tag) (and_then (data_rule d (datatype_of m tag)) (λ rule. Some (data_by tag i rule))) (data_slot m tag (suc i) ds) t) ∙ h) in
      let same = some_is is.2 in
      record { number = 0; own = d; at = refl; place = ap (λ (s : Slot). s.place) (sym same) ∙ ap in_data (at_zero i); rule = is.1 ∙ ap (λ (s : Slot). Some s.rule) same }
  | inr n ↦
      let more = data_rule_at m tag (suc i) ds slot
      (sym (if_false (d.id == tag) (and_then (data_rule d (datatype_of m tag)) (λ rule. Some (data_by tag i rule))) (data_slot m tag (suc i) ds) n) ∙ h) in
      record { number = suc more.number; own = more.own; at = more.at; place = more.place ∙ ap in_data (one_later i more.number); rule = more.rule }
]

pub group_at : (tag i : ℕ) (gs : List Group) (found : ℕ × Group) → group_of tag i gs ≡ Some found → (j : ℕ) × (found.0 ≡ i + j) × (slice_get gs j ≡ Some found.1)
group_at tag i [] found h = none_some h
group_at tag i (g ∷ gs) found h = elim (either (group_tag g == tag)) [
  | inl t ↦
      let same : (i, g) ≡ found = some_is (sym (if_true (group_tag g == tag) (Some (i, g)) (group_of tag (suc i) gs) t) ∙ h) in
      (0, ap (λ (x : ℕ × Group). x.0) (sym same) ∙ at_zero i, ap (λ (x : ℕ × Group). Some x.1) same)
  | inr n ↦
      let more = group_at tag (suc i) gs found (sym (if_false (group_tag g == tag) (Some (i, g)) (group_of tag (suc i) gs) n) ∙ h) in
      (suc more.0, more.1 ∙ one_later i more.0, more.2)
]

-- ---- a good value fits its part

pub no_text : {Z : Type 0} (t : List ℕ) → value.Absent ≡ value.Text t → Z
no_text t h = cc

same_text : (b t : List ℕ) → value.Text b ≡ value.Text t → b ≡ t
same_text b t h = cc

data_bytes : (d : DataField) (v : DataVal) → (t : List ℕ) × (data_value v ≡ value.Text t) × (admits d.length (pos (length t)) ≡ true) → PartFits d v
data_bytes d dataval.Absent h = no_text h.0 h.1
data_bytes d (dataval.Bytes b) h = (b, refl, ap (λ (t : List ℕ). admits d.length (pos (length t))) (same_text b h.0 h.1) ∙ h.2)

data_fits : (d : DataField) (kind : Datatype) (rule : Rule) → data_rule d kind ≡ Some rule → (v : DataVal) → Good rule (data_value v) → PartFits d v
data_fits d raw rule h v good = data_bytes d v (subst (λ r. Good r (data_value v)) (sym (some_is h)) good)
data_fits d text rule h v good = data_bytes d v (subst (λ r. Good r (data_value v)) (sym (some_is h)) good)
data_fits d whole_number rule h v good = none_some h
data_fits d decimal_number rule h v good = none_some h
data_fits d character rule h v good = none_some h
data_fits d boolean rule h v good = none_some h
data_fits d timestamp rule h v good = none_some h
data_fits d time_of_day rule h v good = none_some h
data_fits d calendar_day rule h v good = none_some h
data_fits d month_of_year rule h v good = none_some h
data_fits d (code_set cs) rule h v good = none_some h
data_fits d (character_set cs) rule h v good = none_some h
data_fits d unbridged rule h v good = none_some h

-- each number that may occur in a kind in order has bytes
abbrev pub KindsAreWritable : Type 0
KindsAreWritable = (least : ℕ) (kind : Kind) → IsKindFrom least kind → IsWritableKind kind

field_fits : KindsAreWritable → (order : Order) (kind : Kind) (d : Datatype) (rule : Rule) (v : Value) → IsKindInOrder kind → rule_of kind d ≡ Some rule → Good rule v → FitsKind order kind v
field_fits writable order kind d rule v is h good = ((good_is_fitting order kind d rule v is.parts is.within.placed (writable 1 kind is.parts) h).0 good).0

-- ---- the parts of a level that a plan reaches

abbrev FieldAt : Order → Level → Block → ℕ → Type 0
FieldAt order level block i = (f : Field) → slice_get (out-Level level).fields i ≡ Some f → FitsKind order f.kind (nth_or value.Absent i (out-Block block).fields)

abbrev GroupAt : Order → Level → Block → ℕ → Type 0
GroupAt order level block i = (g : Group) → slice_get (groups_in level) i ≡ Some g → GroupFits order g (nth_or groupval.Absent i (out-Block block).groups)

abbrev DataAt : Level → Block → ℕ → Type 0
DataAt level block i = (d : DataField) → slice_get (out-Level level).parts i ≡ Some d → PartFits d (nth_or dataval.Absent i (out-Block block).parts)

-- the parts with these numbers fit
record PartsThere (order : Order) (level : Level) (block : Block) (fields groups parts : List ℕ) : Type 0 where
  fields_fit : (i : ℕ) → is_in i fields ≡ true → FieldAt order level block i
  groups_fit : (i : ℕ) → is_in i groups ≡ true → GroupAt order level block i
  parts_fit : (i : ℕ) → is_in i parts ≡ true → DataAt level block i

abbrev IsThere : Order → Level → Block → Place → Type 0
IsThere order level block (in_fields i) = FieldAt order level block i
IsThere order level block (in_data i) = DataAt level block i

slot_there : KindsAreWritable → (order : Order) (m : Mapping) (tag : ℕ) (level : Level) (slot : Slot) (block : Block) → HasFieldKinds level → slot_of m tag level ≡ Some slot → Good slot.rule (value_at slot.place block) →
    IsThere order level block slot.place
slot_there writable order m tag level slot block kinds h good = by_field (field_slot m tag 0 (out-Level level).fields) refl h
  where
    by_field : (o : Option Slot) → field_slot m tag 0 (out-Level level).fields ≡ o → or_slot o (data_slot m tag 0 (out-Level level).parts) ≡ Some slot → IsThere order level block slot.place
    by_field (Some s) is k =
        let own = field_rule m tag 0 (out-Level level).fields slot (is ∙ k) in
        let place : slot.place ≡ in_fields own.number = own.place ∙ ap in_fields (from_zero own.number) in
        let v = nth_or value.Absent own.number (out-Block block).fields in
        let fits : FitsKind order own.own.kind v =
        field_fits writable order own.own.kind (datatype_of m tag) slot.rule v (all_at (λ (g : Field). IsKindInOrder g.kind) (out-Level level).fields kinds own.number own.own own.at) own.rule
        (subst (λ p. Good slot.rule (value_at p block)) place good) in
        subst (IsThere order level block) (sym place) (λ f at. subst (λ (g : Field). FitsKind order g.kind v) (some_is (sym own.at ∙ at)) fits)
    by_field None is k =
        let own = data_rule_at m tag 0 (out-Level level).parts slot k in
        let place : slot.place ≡ in_data own.number = own.place ∙ ap in_data (from_zero own.number) in
        let v = nth_or dataval.Absent own.number (out-Block block).parts in
        let fits : PartFits own.own v = data_fits own.own (datatype_of m tag) slot.rule own.rule v (subst (λ p. Good slot.rule (value_at p block)) place good) in
        subst (IsThere order level block) (sym place) (λ d at. subst (λ (e : DataField). PartFits e v) (some_is (sym own.at ∙ at)) fits)

slot_more : (order : Order) (level : Level) (block : Block) (place : Place) (fields groups parts : List ℕ) → IsThere order level block place → PartsThere order level block fields groups parts →
    PartsThere order level block (field_number place ++ fields) groups (data_number place ++ parts)
slot_more order level block (in_fields j) fields groups parts here more =
    record { fields_fit = at_or (FieldAt order level block) j fields here more.fields_fit; groups_fit = more.groups_fit; parts_fit = more.parts_fit }
slot_more order level block (in_data j) fields groups parts here more =
    record { fields_fit = more.fields_fit; groups_fit = more.groups_fit; parts_fit = at_or (DataAt level block) j parts here more.parts_fit }

-- ---- a block whose parts fit

fields_all : (order : Order) (fs : List Field) (vs : List Value) → length vs ≡ length fs → ((i : ℕ) (f : Field) → slice_get fs i ≡ Some f → FitsKind order f.kind (nth_or value.Absent i vs)) → FieldsFit order fs vs
fields_all order [] [] long all = tt
fields_all order [] (v ∷ vs) long all = none_long (length vs) long
fields_all order (f ∷ fs) [] long all = none_long (length fs) (sym long)
fields_all order (f ∷ fs) (v ∷ vs) long all = (all 0 f refl, fields_all order fs vs (one_less (length vs) (length fs) long) (λ i g h. all (suc i) g h))

parts_all : (ds : List DataField) (vs : List DataVal) → length vs ≡ length ds → ((i : ℕ) (d : DataField) → slice_get ds i ≡ Some d → PartFits d (nth_or dataval.Absent i vs)) → PartsFit ds vs
parts_all [] [] long all = tt
parts_all [] (v ∷ vs) long all = none_long (length vs) long
parts_all (d ∷ ds) [] long all = none_long (length ds) (sym long)
parts_all (d ∷ ds) (v ∷ vs) long all = (all 0 d refl, parts_all ds vs (one_less (length vs) (length ds) long) (λ i e h. all (suc i) e h))

groups_all : (order : Order) (gs : List Group) (vs : List GroupVal) → length vs ≡ length gs → ((i : ℕ) (g : Group) → slice_get gs i ≡ Some g → GroupFits order g (nth_or groupval.Absent i vs)) → AreGroups order gs vs
groups_all order [] [] long all = tt
groups_all order [] (v ∷ vs) long all = none_long (length vs) long
groups_all order (g ∷ gs) [] long all = none_long (length gs) (sym long)
groups_all order (g ∷ gs) (v ∷ vs) long all = (all 0 g refl, groups_all order gs vs (one_less (length vs) (length gs) long) (λ i x h. all (suc i) x h))

groups_row : (order : Order) {n : _} (row : Row_of-Group n) (vs : List GroupVal) → AreGroups order (items-the_row-Group _ row) vs → GroupsFit order row vs
groups_row order end_of-Group [] h = tt
groups_row order end_of-Group (v ∷ vs) h = absurd h
groups_row order (more_of-Group g rest) [] h = absurd h
groups_row order (more_of-Group g rest) (v ∷ vs) h = (h.0, groups_row order rest vs h.1)

block_from : (order : Order) (level : Level) (block : Block) → FieldsFit order (out-Level level).fields (out-Block block).fields → AreGroups order (groups_in level) (out-Block block).groups →
    PartsFit (out-Level level).parts (out-Block block).parts → BlockFits order level block
unfolding levels.out-Level carrier.out
block_from order (Level' name id semantic since block_length fields n groups parts) block own inner rest = (own, groups_row order groups (out-Block block).groups inner, rest)

block_fits : (order : Order) (level : Level) (p : Plan) (block : Block) → HasLengths level block → IsComplete level p → PartsThere order level block (field_places p) (group_places p) (data_places p) → BlockFits order level block
block_fits order level p block lengths complete there =
    let same = groups_same level in
    block_from order level block
    (fields_all order (out-Level level).fields (out-Block block).fields lengths.fields (λ i f at. there.fields_fit i (complete.fields i (within (out-Level level).fields i f at)) f at))
    (groups_all order (groups_in level) (out-Block block).groups (lengths.groups ∙ ap length same)
    (λ i g at. there.groups_fit i (complete.groups i (subst (λ (gs : List Group). i < length gs) (sym same) (within (groups_in level) i g at))) g at))
    (parts_all (out-Level level).parts (out-Block block).parts lengths.parts (λ i d at. there.parts_fit i (complete.parts i (within (out-Level level).parts i d at)) d at))

-- ---- groups

each_fits : {X : Type 0} (P : X → Type 0) (xs : List X) → Each P xs → EachFits P xs
each_fits P [] all = tt
each_fits P (x ∷ xs) all = (all.0, each_fits P xs all.1)

group_from : (order : Order) (g : Group) (v : GroupVal) (entries : List Block) → v ≡ groupval.Entries entries → is_admitted (out-Group g).dim (codes "numInGroup") (length entries) ≡ true →
    Each (λ e. BlockFits order (level_in g) e) entries → GroupFits order g v
unfolding grouped.out-Group carrier.out
group_from order (Group' dim level) v entries is admitted all = (entries, is, admitted, each_fits (λ e. BlockFits order level e) entries all)

count_admitted : (g : Group) (leaf : LeafOf) (n : ℕ) → count_leaf g ≡ Some leaf → admits leaf (pos n) ≡ true → is_admitted (out-Group g).dim (codes "numInGroup") n ≡ true
count_admitted g leaf n is h = by_spot (spot_named 0 (codes "numInGroup") (out-Group g).dim) is
  where
    by_spot : (o : Option Spot) → and_then o (λ (spot : Spot). Some spot.leaf) ≡ Some leaf → option_map_or (λ (spot : Spot). admits spot.leaf (pos n)) o false ≡ true
    by_spot None k = none_some k
    by_spot (Some spot) k = ap (λ l. admits l (pos n)) (some_is k) ∙ h

-- the entries of a group of good values fit
abbrev HaveParts : Plan → Level → Block → Type 0
HaveParts inside level e = HasLengths level e × HasEntries inside e

entries_fit : (order : Order) (level : Level) (inside : Plan) → IsComplete level inside →
    ((e : Block) → AreGood inside (values_of inside e) → HasEntries inside e → PartsThere order level e (field_places inside) (group_places inside) (data_places inside)) →
    (es : List Block) → Each (HaveParts inside level) es → Each (λ t. AreGood inside t) (map (λ e. values_of inside e) es) → Each (λ e. BlockFits order level e) es
entries_fit order level inside complete deeper [] parts good = tt
entries_fit order level inside complete deeper (e ∷ es) parts good =
    (block_fits order level inside e parts.0.0 complete (deeper e good.0 parts.0.1), entries_fit order level inside complete deeper es parts.1 good.1)

-- ---- all parts

abbrev IsThereFrom : Order → Structure → Level → Plan → Type 0
IsThereFrom order s level p =
    HasFieldKinds level → AreComplete p → (block : Block) → AreGood p (values_of p block) → HasEntries p block → PartsThere order level block (field_places p) (group_places p) (data_places p)

there_steps : KindsAreWritable → (order : Order) (m : Mapping) → Steps m HaveFieldKinds (IsThereFrom order)
there_steps writable order m = record {
  at_end = λ level kinds complete block good entries. record { fields_fit = λ i h. true_false h refl; groups_fit = λ i h. true_false h refl; parts_fit = λ i h. true_false h refl };
  no_slot = λ tag rest level p none more. more;
  a_slot = λ tag rest level p slot is more kinds complete block good entries.
      slot_more order level block slot.place (field_places p) (group_places p) (data_places p) (slot_there writable order m tag level slot block kinds is good.0) (more kinds complete block good.1 entries);
  no_group = λ tag inner rest level p none more. more;
  a_group = λ tag inner rest level p found g is some own deeper more kinds complete block good entries.
      let repeat = repeat_is tag found.0 inner found.1 g some in
      let at = group_at tag 0 (groups_in level) found is in
      let place : g.place ≡ at.0 = repeat.0 ∙ at.1 ∙ from_zero at.0 in
      let inside = plan_of m inner (level_in found.1) in
      let v = nth_or groupval.Absent g.place (out-Block block).groups in
      let es = entries.0.0 in
      let list : entries_of v ≡ es = ap entries_of entries.0.1 ∙ items_hidden-the_row-Block-1 es in
      let many : admits g.count (pos (length (map (λ e. values_of inside e) es))) ≡ true =
      subst (λ bs. admits g.count (pos (length (map (λ e. values_of inside e) bs))) ≡ true) list good.0 in
      let all : Each (λ e. BlockFits order (level_in found.1) e) es =
      entries_fit order (level_in found.1) inside (subst (λ l. IsComplete l inside) repeat.1 complete.0) (λ e h k. deeper own complete.1 e h k) es
      (subst (λ l. Each (HaveParts inside l) es) repeat.1 entries.0.2) (subst (λ bs. Each (λ t. AreGood inside t) (map (λ e. values_of inside e) bs)) list good.1) in
      let fits = group_from order found.1 v es entries.0.1
      (count_admitted found.1 g.count (length es) (repeat_count tag found.0 inner found.1 g some) (ap (λ n. admits g.count (pos n)) (sym (length-map es (λ e. values_of inside e))) ∙ many)) all in
      let after = more kinds complete.2 block good.2 entries.1 in
      record {
        fields_fit = after.fields_fit;
        groups_fit = at_or (GroupAt order level block) g.place (group_places p)
            (λ x here. subst (λ y. GroupFits order y v) (some_is (sym at.2 ∙ (ap (slice_get (groups_in level)) (sym place) ∙ here))) fits) after.groups_fit;
        parts_fit = after.parts_fit;
      };
}

-- the message of a text fits the covered level, whose kinds are in order
pub back_fits : KindsAreWritable → (order : Order) (m : Mapping) (s : Structure) (level : Level) (its : List FixField) (block : Block) → HasFieldKinds level → EachGroup HaveFieldKinds s level → IsCovered m s level →
    IsMessageOf m s level its block → BlockFits order level block
back_fits writable order m s level its block kinds groups is h =
    let p = plan_of m s level in
    let plan = covered_plan m s level is in
    block_fits order level p block h.lengths plan.complete
    (plan_by m HaveFieldKinds (IsThereFrom order) (there_steps writable order m) s level groups kinds plan.all_complete block h.back.good h.entries)
