-- The text of a message that fits its template is translated back to a message with its items.
use Rattle.std.proofs.Common.{◌≡◌, inl, inr, ℕ, ◌+◌, ◌<◌, ◌^◌, suc, true, false, arith, List, [], ◌∷◌, map, length, Option, Some, None, Ok, refl, sym, ap, ◌∙◌, subst, pos}
use Rattle.std.specs.Prelude.{◌==◌, ⊤, codes}
use Rattle.std.specs.Option.{option_map_or}
use Rattle.std.proofs.lemmas.List.{length-map}
use denote.Hole.Carrier as carrier
use Rattle.sbe_types.specs.declared.schema.Level as levels
use Rattle.sbe_types.specs.declared.schema.Group as grouped
use Rattle.sbe_types.specs.declared.kind.Leaf.{Leaf as LeafOf}
use Rattle.sbe_types.specs.declared.kind.Order.{Order}
use Rattle.sbe_types.specs.declared.message.Value.{Value}
use Rattle.sbe_types.specs.declared.message.Value as value
use Rattle.sbe_types.specs.declared.message.DataVal.{DataVal}
use Rattle.sbe_types.specs.declared.message.DataVal.TheVariants as dataval
use Rattle.sbe_types.specs.declared.message.Block.{Block, out-Block}
use Rattle.sbe_types.specs.declared.message.GroupVal.{GroupVal, items_hidden-the_row-Block-1}
use Rattle.sbe_types.specs.declared.message.GroupVal as groupval
use Rattle.sbe_types.specs.declared.schema.Field.{Field}
use Rattle.sbe_types.specs.declared.schema.DataField.{DataField}
use Rattle.sbe_types.specs.declared.schema.Group.{Group, Group', out-Group}
use Rattle.sbe_types.specs.declared.schema.Level.{Level, Level', Row_of-Group, end_of-Group, more_of-Group, items-the_row-Group, out-Level}
use Rattle.sbe_types.specs.Shown.{admits}
use Rattle.sbe_wire.specs.Named.{Spot, spot_named, is_admitted}
use Rattle.sbe_wire.specs.Fits.{FieldsFit, PartFits, PartsFit, EachFits, BlockFits, GroupsFit, GroupFits}
use Rattle.reference_graph.specs.Expansion.{Structure, counted}
use Rattle.bridge_rules.specs.Rules.{Rule, raw_data, text_data}
use Rattle.bridge_rules.specs.Members.{and_then}
use Rattle.bridge_rules.specs.Datatypes.{Datatype, whole_number, decimal_number, character, text, boolean, timestamp, time_of_day, calendar_day, month_of_year, raw, code_set, character_set, unbridged}
use Rattle.bridge_rules.specs.Bounds.{IsMapped}
use Rattle.bridge_rules.specs.Sound.{IsShown, IsReadable}
use Rattle.bridge_rules.specs.Table.{rule_of, data_rule}
use Rattle.bridge_rules.proofs.OptionLemmas.{some_is, none_some, and_then_is}
use Rattle.bridge_rules.proofs.BoolLemmas.{either, if_true, if_false}
use Rattle.bridge_rules.proofs.BoundedRules.{bounded_sound, bounded_shown}
use Rattle.bridge_rules.proofs.FittingShown.{IsWritten, good_written, fitting_shown, fitting_read}
use Rattle.bridge_terms.specs.Plans.{Plan, Slot, Tree, Each, in_fields, in_data}
use Rattle.bridge_terms.specs.PlanFacts.{EachValue, AreCounted}
use Rattle.bridge_terms.specs.Blocks.{nth_or, data_value, entries_of, value_at, values_of}
use Rattle.bridge_terms.specs.MessageFields.{fields_of}
use Rattle.bridge_plan.specs.Mappings.{Mapping, datatype_of}
use Rattle.bridge_plan.specs.Covers.{field_slot, data_slot, or_slot, slot_of, group_of, groups_in, group_tag, level_in, count_leaf, plan_of}
use Rattle.bridge_plan.specs.StructureFacts.{HasCount}
use Rattle.bridge_plan.specs.CheckedLevels.{AreOrdered, HasOrderedFields, IsCovered}
use Rattle.bridge_plan.specs.Translation.{Draft, IsHead, ComesBack}
use Rattle.bridge_plan.proofs.Covered.{each_both}
use Rattle.bridge_plan.proofs.Counting.{repeat_count}
use Rattle.bridge_plan.proofs.PlanParts.{Steps, plan_by, repeat_is}

pub at_zero : (i : ℕ) → i ≡ i + 0
at_zero i = omega arith

pub from_zero : (j : ℕ) → 0 + j ≡ j
from_zero j = omega arith

pub one_later : (i j : ℕ) → suc i + j ≡ i + suc j
one_later i j = omega arith

-- ---- fields and data

abbrev pub slot_by : ℕ → ℕ → Rule → Slot
slot_by tag i rule = record { tag = tag; place = in_fields i; rule = rule }

field_at : (order : Order) (m : Mapping) (tag i : ℕ) (fs : List Field) (vs : List Value) (slot : Slot) → AreOrdered fs → IsMapped (datatype_of m tag) → FieldsFit order fs vs → field_slot m tag i fs ≡ Some slot →
    (j : ℕ) × (slot.place ≡ in_fields (i + j)) × IsWritten slot.rule (nth_or value.Absent j vs)
field_at order m tag i [] vs slot all mapped fits h = none_some h
field_at order m tag i (f ∷ fs) [] slot all mapped fits h = absurd fits
field_at order m tag i (f ∷ fs) (v ∷ vs) slot all mapped fits h = elim (either (f.id == tag)) [
  | inl t ↦
      let is = and_then_is (rule_of f.kind (datatype_of m tag)) (λ (rule : Rule). Some (slot_by tag i rule)) slot
      (sym (if_true (f.id == tag) (and_then (rule_of f.kind (datatype_of m tag)) (λ rule. Some (slot_by tag i rule))) (field_slot m tag (suc i) fs) t) ∙ h) in
      let same = some_is is.2 in (
        0,
        ap (λ (s : Slot). s.place) (sym same) ∙ ap in_fields (at_zero i),
        subst (λ (s : Slot). IsWritten s.rule v) same
            (fitting_shown order f.kind (datatype_of m tag) is.0 v all.0 mapped is.1 fits.0, fitting_read order f.kind (datatype_of m tag) is.0 v all.0 mapped is.1 fits.0),
      )
  | inr n ↦
      let more = field_at order m tag (suc i) fs vs slot all.1 mapped fits.1
      (sym (if_false (f.id == tag) (and_then (rule_of f.kind (datatype_of m tag)) (λ rule. Some (slot_by tag i rule))) (field_slot m tag (suc i) fs) n) ∙ h) in
      (suc more.0, more.1 ∙ ap in_fields (one_later i more.0), more.2)
]

data_written : (d : DataField) (kind : Datatype) (rule : Rule) → data_rule d kind ≡ Some rule → (v : DataVal) → PartFits d v → IsWritten rule (data_value v)
data_written d raw rule h v fits =
    subst (λ r. IsWritten r (data_value v)) (some_is h)
    (good_written (raw_data d.length) (bounded_sound (raw_data d.length) tt) (bounded_shown (raw_data d.length) tt tt) (data_value v) (fits.0, ap data_value fits.1, fits.2))
data_written d text rule h v fits =
    subst (λ r. IsWritten r (data_value v)) (some_is h)
    (good_written (text_data d.length) (bounded_sound (text_data d.length) tt) (bounded_shown (text_data d.length) tt tt) (data_value v) (fits.0, ap data_value fits.1, fits.2))
data_written d whole_number rule h v fits = none_some h
data_written d decimal_number rule h v fits = none_some h
data_written d character rule h v fits = none_some h
data_written d boolean rule h v fits = none_some h
data_written d timestamp rule h v fits = none_some h
data_written d time_of_day rule h v fits = none_some h
data_written d calendar_day rule h v fits = none_some h
data_written d month_of_year rule h v fits = none_some h
data_written d (code_set cs) rule h v fits = none_some h
data_written d (character_set cs) rule h v fits = none_some h
data_written d unbridged rule h v fits = none_some h

abbrev pub data_by : ℕ → ℕ → Rule → Slot
data_by tag i rule = record { tag = tag; place = in_data i; rule = rule }

data_at : (m : Mapping) (tag i : ℕ) (ds : List DataField) (vs : List DataVal) (slot : Slot) → PartsFit ds vs → data_slot m tag i ds ≡ Some slot →
    (j : ℕ) × (slot.place ≡ in_data (i + j)) × IsWritten slot.rule (data_value (nth_or dataval.Absent j vs))
data_at m tag i [] vs slot fits h = none_some h
data_at m tag i (d ∷ ds) [] slot fits h = absurd fits
data_at m tag i (d ∷ ds) (v ∷ vs) slot fits h = elim (either (d.id == tag)) [
  | inl t ↦
      let is = and_then_is (data_rule d (datatype_of m tag)) (λ (rule : Rule). Some (data_by tag i rule)) slot
      (sym (if_true (d.id == tag) (and_then (data_rule d (datatype_of m tag)) (λ rule. Some (data_by tag i rule))) (data_slot m tag (suc i) ds) t) ∙ h) in
      let same = some_is is.2 in (
        0,
        ap (λ (s : Slot). s.place) (sym same) ∙ ap in_data (at_zero i),
        subst (λ (s : Slot). IsWritten s.rule (data_value v)) same (data_written d (datatype_of m tag) is.0 is.1 v fits.0),
      )
  | inr n ↦
      let more = data_at m tag (suc i) ds vs slot fits.1
      (sym (if_false (d.id == tag) (and_then (data_rule d (datatype_of m tag)) (λ rule. Some (data_by tag i rule))) (data_slot m tag (suc i) ds) n) ∙ h) in
      (suc more.0, more.1 ∙ ap in_data (one_later i more.0), more.2)
]

-- ---- the parts of a block

abbrev pub AreGroups : Order → List Group → List GroupVal → Type 0
AreGroups order [] [] = ⊤
AreGroups order [] (v ∷ vs) = ⊥
AreGroups order (g ∷ gs) [] = ⊥
AreGroups order (g ∷ gs) (v ∷ vs) = GroupFits order g v × AreGroups order gs vs

groups_list : (order : Order) {n : _} (row : Row_of-Group n) (vs : List GroupVal) → GroupsFit order row vs → AreGroups order (items-the_row-Group _ row) vs
groups_list order end_of-Group [] h = tt
groups_list order end_of-Group (v ∷ vs) h = absurd h
groups_list order (more_of-Group g rest) [] h = absurd h
groups_list order (more_of-Group g rest) (v ∷ vs) h = (h.0, groups_list order rest vs h.1)

pub record HasParts (order : Order) (level : Level) (block : Block) : Type 0 where
  pub fields : FieldsFit order (out-Level level).fields (out-Block block).fields
  pub groups : AreGroups order (groups_in level) (out-Block block).groups
  pub parts : PartsFit (out-Level level).parts (out-Block block).parts

pub block_parts : (order : Order) (level : Level) (block : Block) → BlockFits order level block → HasParts order level block
unfolding levels.out-Level carrier.out
block_parts order (Level' name id semantic since block_length fields n groups parts) block h =
    record { fields = h.0; groups = groups_list order groups (out-Block block).groups h.1; parts = h.2 }

slot_at : (order : Order) (m : Mapping) (tag : ℕ) (level : Level) (slot : Slot) (block : Block) → AreOrdered (out-Level level).fields → IsMapped (datatype_of m tag) → HasParts order level block → slot_of m tag level ≡ Some slot →
    IsWritten slot.rule (value_at slot.place block)
slot_at order m tag level slot block all mapped fits h = by_field (field_slot m tag 0 (out-Level level).fields) refl h
  where
    by_field : (o : Option Slot) → field_slot m tag 0 (out-Level level).fields ≡ o → or_slot o (data_slot m tag 0 (out-Level level).parts) ≡ Some slot → IsWritten slot.rule (value_at slot.place block)
    by_field (Some s) is k =
        let own = field_at order m tag 0 (out-Level level).fields (out-Block block).fields slot all mapped fits.fields (is ∙ k) in
        subst (λ p. IsWritten slot.rule (value_at p block)) (sym (own.1 ∙ ap in_fields (from_zero own.0))) own.2
    by_field None is k =
        let own = data_at m tag 0 (out-Level level).parts (out-Block block).parts slot fits.parts k in
        subst (λ p. IsWritten slot.rule (value_at p block)) (sym (own.1 ∙ ap in_data (from_zero own.0))) own.2

-- ---- groups

group_at : (order : Order) (tag i : ℕ) (gs : List Group) (vs : List GroupVal) (found : ℕ × Group) → AreGroups order gs vs → group_of tag i gs ≡ Some found →
    (j : ℕ) × (found.0 ≡ i + j) × GroupFits order found.1 (nth_or groupval.Absent j vs)
group_at order tag i [] vs found fits h = none_some h
group_at order tag i (g ∷ gs) [] found fits h = absurd fits
group_at order tag i (g ∷ gs) (v ∷ vs) found fits h = elim (either (group_tag g == tag)) [
  | inl t ↦
      let same : (i, g) ≡ found = some_is (sym (if_true (group_tag g == tag) (Some (i, g)) (group_of tag (suc i) gs) t) ∙ h) in
      (0, ap (λ (x : ℕ × Group). x.0) (sym same) ∙ at_zero i, subst (λ (x : ℕ × Group). GroupFits order x.1 v) same fits.0)
  | inr n ↦
      let more = group_at order tag (suc i) gs vs found fits.1 (sym (if_false (group_tag g == tag) (Some (i, g)) (group_of tag (suc i) gs) n) ∙ h) in
      (suc more.0, more.1 ∙ one_later i more.0, more.2)
]

each_is : {X : Type 0} (P : X → Type 0) (xs : List X) → EachFits P xs → Each P xs
each_is P [] all = tt
each_is P (x ∷ xs) all = (all.0, each_is P xs all.1)

each_map : {X Y : Type 0} (f : X → Y) (P : X → Type 0) (Q : Y → Type 0) → ((x : X) → P x → Q (f x)) → (xs : List X) → Each P xs → Each Q (map f xs)
each_map f P Q turn [] all = tt
each_map f P Q turn (x ∷ xs) all = (turn x all.0, each_map f P Q turn xs all.1)

pub record HasBlocks (order : Order) (g : Group) (v : GroupVal) : Type 0 where
  pub blocks : List Block
  pub are : v ≡ groupval.Entries blocks
  pub admitted : is_admitted (out-Group g).dim (codes "numInGroup") (length blocks) ≡ true
  pub fit : Each (λ block. BlockFits order (level_in g) block) blocks

pub group_blocks : (order : Order) (g : Group) (v : GroupVal) → GroupFits order g v → HasBlocks order g v
unfolding grouped.out-Group carrier.out
group_blocks order (Group' dim level) v h = record { blocks = h.0; are = h.1; admitted = h.2; fit = each_is (λ block. BlockFits order level block) h.0 h.3 }

pub count_admits : (g : Group) (leaf : LeafOf) (n : ℕ) → count_leaf g ≡ Some leaf → is_admitted (out-Group g).dim (codes "numInGroup") n ≡ true → admits leaf (pos n) ≡ true
count_admits g leaf n is h = by_spot (spot_named 0 (codes "numInGroup") (out-Group g).dim) is h
  where
    by_spot : (o : Option Spot) → and_then o (λ (spot : Spot). Some spot.leaf) ≡ Some leaf → option_map_or (λ (spot : Spot). admits spot.leaf (pos n)) o false ≡ true → admits leaf (pos n) ≡ true
    by_spot None k q = none_some k
    by_spot (Some spot) k q = subst (λ l. admits l (pos n) ≡ true) (some_is k) q

-- ---- all parts

-- what is written of each value has its item and can be read, and each number of entries is admitted
record AllWritten (p : Plan) (t : Tree Value p) : Type 0 where
  shown : EachValue IsShown p t
  read : EachValue IsReadable p t
  counted : AreCounted p t

abbrev IsWrittenPlan : Order → Structure → Level → Plan → Type 0
IsWrittenPlan order s level p = AreOrdered (out-Level level).fields → (block : Block) → BlockFits order level block → AllWritten p (values_of p block)

abbrev IsKnown : Structure → Group → Type 0
IsKnown inner g = HasOrderedFields inner g × HasCount inner g

-- entries that fit, as those of a plan
record AreWrittenEntries (inside : Plan) (leaf : LeafOf) (ts : List (Tree Value inside)) : Type 0 where
  shown : Each (λ e. EachValue IsShown inside e) ts
  read : Each (λ e. EachValue IsReadable inside e) ts
  short : length ts < 10 ^ 64
  admitted : admits leaf (pos (length ts)) ≡ true
  counted : Each (λ e. AreCounted inside e) ts

entries_written : (order : Order) (inner : Structure) (g : Group) (inside : Plan) (leaf : LeafOf) → HasCount inner g → count_leaf g ≡ Some leaf → ((block : Block) → BlockFits order (level_in g) block → AllWritten inside (values_of inside block)) →
    (v : GroupVal) → HasBlocks order g v → AreWrittenEntries inside leaf (map (λ e. values_of inside e) (entries_of v))
entries_written order inner g inside leaf own is turn v has =
    let list : entries_of v ≡ has.blocks = ap entries_of has.are ∙ items_hidden-the_row-Block-1 has.blocks in
    let long : length (map (λ e. values_of inside e) has.blocks) ≡ length has.blocks = length-map has.blocks (λ e. values_of inside e) in
    let fits : admits leaf (pos (length has.blocks)) ≡ true = count_admits g leaf (length has.blocks) is has.admitted in
    let same : leaf ≡ own.leaf = some_is (sym is ∙ own.counts) in
    subst (λ bs. AreWrittenEntries inside leaf (map (λ e. values_of inside e) bs)) (sym list) (record {
      shown = each_map (λ e. values_of inside e) (λ block. BlockFits order (level_in g) block) (λ e. EachValue IsShown inside e) (λ block h. (turn block h).shown) has.blocks has.fit;
      read = each_map (λ e. values_of inside e) (λ block. BlockFits order (level_in g) block) (λ e. EachValue IsReadable inside e) (λ block h. (turn block h).read) has.blocks has.fit;
      short = subst (λ n. n < 10 ^ 64) (sym long) (own.short (length has.blocks) (ap (λ l. admits l (pos (length has.blocks))) (sym same) ∙ fits));
      admitted = ap (λ n. admits leaf (pos n)) long ∙ fits;
      counted = each_map (λ e. values_of inside e) (λ block. BlockFits order (level_in g) block) (λ e. AreCounted inside e) (λ block h. (turn block h).counted) has.blocks has.fit;
    })

written_steps : (order : Order) (m : Mapping) → ((tag : ℕ) → IsMapped (datatype_of m tag)) → Steps m IsKnown (IsWrittenPlan order)
written_steps order m mapped = record {
  at_end = λ level ordered block fits. record { shown = tt; read = tt; counted = tt };
  no_slot = λ tag rest level p none more. more;
  a_slot = λ tag rest level p slot is more ordered block fits.
      let here = slot_at order m tag level slot block ordered (mapped tag) (block_parts order level block fits) is in
      let after = more ordered block fits in
      record { shown = (here.0, after.shown); read = (here.1, after.read); counted = after.counted };
  no_group = λ tag inner rest level p none more. more;
  a_group = λ tag inner rest level p found g is some own deeper more ordered block fits.
      let at = group_at order tag 0 (groups_in level) (out-Block block).groups found (block_parts order level block fits).groups is in
      let place : g.place ≡ at.0 = (repeat_is tag found.0 inner found.1 g some).0 ∙ at.1 ∙ from_zero at.0 in
      let inside = plan_of m inner (level_in found.1) in
      let entries = subst (λ k. AreWrittenEntries inside g.count (map (λ e. values_of inside e) (entries_of (nth_or groupval.Absent k (out-Block block).groups)))) (sym place)
      (entries_written order inner found.1 inside g.count own.1 (repeat_count tag found.0 inner found.1 g some) (λ b h. deeper own.0 b h) (nth_or groupval.Absent at.0 (out-Block block).groups)
      (group_blocks order found.1 (nth_or groupval.Absent at.0 (out-Block block).groups) at.2)) in
      let after = more ordered block fits in
      record {
        shown = (entries.shown, after.shown);
        read = (entries.read, after.read);
        counted = (entries.short, entries.admitted, entries.counted, after.counted);
      };
}

fitting_written : (order : Order) (m : Mapping) (s : Structure) (level : Level) (block : Block) → IsCovered m s level → BlockFits order level block → AllWritten (plan_of m s level) (values_of (plan_of m s level) block)
fitting_written order m s level block is fits =
    plan_by m IsKnown (IsWrittenPlan order) (written_steps order m is.ordered.mapped) s level (each_both HasOrderedFields HasCount s level is.ordered.groups is.counts) is.ordered.fields block fits

-- a block that fits comes back
pub fits_come_back : (order : Order) (m : Mapping) (s : Structure) (level : Level) (block : Block) (draft : Draft) → IsCovered m s level → IsHead m draft.head → BlockFits order level block →
    fields_of (plan_of m s level) (values_of (plan_of m s level) block) ≡ Ok draft.fields → ComesBack m s level (values_of (plan_of m s level) block) draft
fits_come_back order m s level block draft is headed fits written =
    let all = fitting_written order m s level block is fits in
    record { there = record { covered = is; headed = headed; written = written; shown = all.shown; counted = all.counted }; readable = all.read }
