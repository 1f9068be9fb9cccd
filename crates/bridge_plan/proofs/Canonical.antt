-- A block that fits its template, each value in the one form of its item, is canonical.
use Rattle.std.proofs.Common.{◌≡◌, ℕ, zero, suc, true, List, [], ◌∷◌, map, length, Option, Some, None, Ok, refl, sym, ap, ◌∙◌, subst, pos}
use Rattle.std.specs.Prelude.{slice_get}
use Rattle.std.proofs.lemmas.List.{length-map}
use Rattle.sbe_types.specs.declared.kind.Order.{Order}
use Rattle.sbe_types.specs.declared.message.Value.{Value}
use Rattle.sbe_types.specs.declared.message.Value as value
use Rattle.sbe_types.specs.declared.message.DataVal.{DataVal}
use Rattle.sbe_types.specs.declared.message.DataVal.TheVariants as dataval
use Rattle.sbe_types.specs.declared.message.Block.{Block, out-Block}
use Rattle.sbe_types.specs.declared.message.GroupVal.{GroupVal, items_hidden-the_row-Block-1}
use Rattle.sbe_types.specs.declared.message.GroupVal as groupval
use Rattle.sbe_types.specs.declared.schema.Field.{Field}
use Rattle.sbe_types.specs.declared.schema.DataField.{DataField}
use Rattle.sbe_types.specs.declared.schema.Group.{Group}
use Rattle.sbe_types.specs.declared.schema.Level.{Level, out-Level}
use Rattle.sbe_types.specs.Shown.{admits}
use Rattle.sbe_types.specs.Wire.{FitsKind}
use Rattle.sbe_wire.specs.Fits.{FieldsFit, PartFits, PartsFit, BlockFits, GroupFits}
use Rattle.schema_facts.specs.InOrder.{IsKindInOrder}
use Rattle.reference_graph.specs.Expansion.{Structure}
use Rattle.bridge_rules.specs.Rules.{Rule}
use Rattle.bridge_rules.specs.Good.{Good, IsItemForm}
use Rattle.bridge_rules.specs.Datatypes.{Datatype, whole_number, decimal_number, character, text, boolean, timestamp, time_of_day, calendar_day, month_of_year, raw, code_set, character_set, unbridged}
use Rattle.bridge_rules.specs.Table.{data_rule}
use Rattle.bridge_rules.proofs.OptionLemmas.{some_is, none_some}
use Rattle.bridge_rules.proofs.FittingValues.{good_is_fitting}
use Rattle.bridge_terms.specs.Plans.{Plan, Slot, Each, in_fields, in_data, AreGood}
use Rattle.bridge_terms.specs.PlanFacts.{EachValue}
use Rattle.bridge_terms.specs.MessageFields.{fields_of}
use Rattle.bridge_terms.specs.Blocks.{nth_or, data_value, entries_of, value_at, values_of, HasLengths, HasEntries}
use Rattle.bridge_plan.specs.Mappings.{Mapping, datatype_of}
use Rattle.bridge_plan.specs.Covers.{field_slot, data_slot, or_slot, slot_of, groups_in, level_in, plan_of}
use Rattle.bridge_plan.specs.StructureFacts.{EachGroup}
use Rattle.bridge_plan.specs.CheckedLevels.{IsCovered}
use Rattle.bridge_plan.specs.Translation.{Draft, IsHead, IsCanonicalBlock}
use Rattle.bridge_plan.proofs.Counting.{repeat_count}
use Rattle.bridge_plan.proofs.PlanParts.{Steps, plan_by, repeat_is, groups_same}
use Rattle.bridge_plan.proofs.FittingMessages.{from_zero, AreGroups, block_parts, HasBlocks, group_blocks, count_admits}
use Rattle.bridge_plan.proofs.SchemaGives.{HasFieldKinds, HaveFieldKinds}
use Rattle.bridge_plan.proofs.BackFits.{KindsAreWritable, field_rule, data_rule_at, group_at, all_at}

-- ---- the values at the parts of a level

field_in : (order : Order) (fs : List Field) (vs : List Value) → FieldsFit order fs vs → (i : ℕ) (f : Field) → slice_get fs i ≡ Some f → FitsKind order f.kind (nth_or value.Absent i vs)
field_in order [] vs fits i f h = none_some h
field_in order (g ∷ gs) [] fits i f h = absurd fits
field_in order (g ∷ gs) (v ∷ vs) fits zero f h = subst (λ (x : Field). FitsKind order x.kind v) (some_is h) fits.0
field_in order (g ∷ gs) (v ∷ vs) fits (suc i) f h = field_in order gs vs fits.1 i f h

part_in : (ds : List DataField) (vs : List DataVal) → PartsFit ds vs → (i : ℕ) (d : DataField) → slice_get ds i ≡ Some d → PartFits d (nth_or dataval.Absent i vs)
part_in [] vs fits i d h = none_some h
part_in (e ∷ es) [] fits i d h = absurd fits
part_in (e ∷ es) (v ∷ vs) fits zero d h = subst (λ (x : DataField). PartFits x v) (some_is h) fits.0
part_in (e ∷ es) (v ∷ vs) fits (suc i) d h = part_in es vs fits.1 i d h

group_in : (order : Order) (gs : List Group) (vs : List GroupVal) → AreGroups order gs vs → (i : ℕ) (g : Group) → slice_get gs i ≡ Some g → GroupFits order g (nth_or groupval.Absent i vs)
group_in order [] vs fits i g h = none_some h
group_in order (x ∷ xs) [] fits i g h = absurd fits
group_in order (x ∷ xs) (v ∷ vs) fits zero g h = subst (λ y. GroupFits order y v) (some_is h) fits.0
group_in order (x ∷ xs) (v ∷ vs) fits (suc i) g h = group_in order xs vs fits.1 i g h

fields_long : (order : Order) (fs : List Field) (vs : List Value) → FieldsFit order fs vs → length vs ≡ length fs
fields_long order [] [] fits = refl
fields_long order [] (v ∷ vs) fits = absurd fits
fields_long order (f ∷ fs) [] fits = absurd fits
fields_long order (f ∷ fs) (v ∷ vs) fits = ap suc (fields_long order fs vs fits.1)

parts_long : (ds : List DataField) (vs : List DataVal) → PartsFit ds vs → length vs ≡ length ds
parts_long [] [] fits = refl
parts_long [] (v ∷ vs) fits = absurd fits
parts_long (d ∷ ds) [] fits = absurd fits
parts_long (d ∷ ds) (v ∷ vs) fits = ap suc (parts_long ds vs fits.1)

groups_long : (order : Order) (gs : List Group) (vs : List GroupVal) → AreGroups order gs vs → length vs ≡ length gs
groups_long order [] [] fits = refl
groups_long order [] (v ∷ vs) fits = absurd fits
groups_long order (g ∷ gs) [] fits = absurd fits
groups_long order (g ∷ gs) (v ∷ vs) fits = ap suc (groups_long order gs vs fits.1)

block_long : (order : Order) (level : Level) (block : Block) → BlockFits order level block → HasLengths level block
block_long order level block fits =
    let parts = block_parts order level block fits in
    record {
      fields = fields_long order (out-Level level).fields (out-Block block).fields parts.fields;
      groups = groups_long order (groups_in level) (out-Block block).groups parts.groups ∙ ap length (sym (groups_same level));
      parts = parts_long (out-Level level).parts (out-Block block).parts parts.parts;
    }

-- ---- a value that fits its part, in the form of its item, is good

data_good : (d : DataField) (kind : Datatype) (rule : Rule) → data_rule d kind ≡ Some rule → (v : DataVal) → PartFits d v → Good rule (data_value v)
data_good d raw rule h v fits = subst (λ r. Good r (data_value v)) (some_is h) (fits.0, ap data_value fits.1, fits.2)
data_good d text rule h v fits = subst (λ r. Good r (data_value v)) (some_is h) (fits.0, ap data_value fits.1, fits.2)
data_good d whole_number rule h v fits = none_some h
data_good d decimal_number rule h v fits = none_some h
data_good d character rule h v fits = none_some h
data_good d boolean rule h v fits = none_some h
data_good d timestamp rule h v fits = none_some h
data_good d time_of_day rule h v fits = none_some h
data_good d calendar_day rule h v fits = none_some h
data_good d month_of_year rule h v fits = none_some h
data_good d (code_set cs) rule h v fits = none_some h
data_good d (character_set cs) rule h v fits = none_some h
data_good d unbridged rule h v fits = none_some h

slot_good : KindsAreWritable → (order : Order) (m : Mapping) (tag : ℕ) (level : Level) (slot : Slot) (block : Block) → HasFieldKinds level → BlockFits order level block → slot_of m tag level ≡ Some slot →
    IsItemForm slot.rule (value_at slot.place block) → Good slot.rule (value_at slot.place block)
slot_good writable order m tag level slot block kinds fits h = by_field (field_slot m tag 0 (out-Level level).fields) refl h
  where
    by_field : (o : Option Slot) → field_slot m tag 0 (out-Level level).fields ≡ o → or_slot o (data_slot m tag 0 (out-Level level).parts) ≡ Some slot →
        IsItemForm slot.rule (value_at slot.place block) → Good slot.rule (value_at slot.place block)
    by_field (Some s) is k =
        let own = field_rule m tag 0 (out-Level level).fields slot (is ∙ k) in
        let place : slot.place ≡ in_fields own.number = own.place ∙ ap in_fields (from_zero own.number) in
        let kind = all_at (λ (g : Field). IsKindInOrder g.kind) (out-Level level).fields kinds own.number own.own own.at in
        let v = nth_or value.Absent own.number (out-Block block).fields in
        let there = field_in order (out-Level level).fields (out-Block block).fields (block_parts order level block fits).fields own.number own.own own.at in
        subst (λ p. IsItemForm slot.rule (value_at p block) → Good slot.rule (value_at p block)) (sym place) (λ form.
        (good_is_fitting order own.own.kind (datatype_of m tag) slot.rule v kind.parts kind.within.placed (writable 1 own.own.kind kind.parts) own.rule).1 (there, form))
    by_field None is k =
        let own = data_rule_at m tag 0 (out-Level level).parts slot k in
        let place : slot.place ≡ in_data own.number = own.place ∙ ap in_data (from_zero own.number) in
        let there = part_in (out-Level level).parts (out-Block block).parts (block_parts order level block fits).parts own.number own.own own.at in
        subst (λ p. IsItemForm slot.rule (value_at p block) → Good slot.rule (value_at p block)) (sym place) (λ form.
        data_good own.own (datatype_of m tag) slot.rule own.rule (nth_or dataval.Absent own.number (out-Block block).parts) there)

-- ---- all values

-- the values are good, and groups have their entries
record IsGoodBlock (p : Plan) (block : Block) : Type 0 where
  good : AreGood p (values_of p block)
  entries : HasEntries p block

abbrev IsGoodFrom : Order → Structure → Level → Plan → Type 0
IsGoodFrom order s level p = HasFieldKinds level → (block : Block) → BlockFits order level block → EachValue IsItemForm p (values_of p block) → IsGoodBlock p block

-- the entries of a group, as those of a plan
record AreGoodEntries (level : Level) (inside : Plan) (es : List Block) : Type 0 where
  good : Each (λ t. AreGood inside t) (map (λ e. values_of inside e) es)
  entries : Each (λ e. HasLengths level e × HasEntries inside e) es

entries_good : (order : Order) (level : Level) (inside : Plan) → ((e : Block) → BlockFits order level e → EachValue IsItemForm inside (values_of inside e) → IsGoodBlock inside e) →
    (es : List Block) → Each (λ e. BlockFits order level e) es → Each (λ t. EachValue IsItemForm inside t) (map (λ e. values_of inside e) es) → AreGoodEntries level inside es
entries_good order level inside deeper [] fits forms = record { good = tt; entries = tt }
entries_good order level inside deeper (e ∷ es) fits forms =
    let here = deeper e fits.0 forms.0 in
    let after = entries_good order level inside deeper es fits.1 forms.1 in
    record { good = (here.good, after.good); entries = ((block_long order level e fits.0, here.entries), after.entries) }

good_steps : KindsAreWritable → (order : Order) (m : Mapping) → Steps m HaveFieldKinds (IsGoodFrom order)
good_steps writable order m = record {
  at_end = λ level kinds block fits forms. record { good = tt; entries = tt };
  no_slot = λ tag rest level p none more. more;
  a_slot = λ tag rest level p slot is more kinds block fits forms.
      let after = more kinds block fits forms.1 in
      record { good = (slot_good writable order m tag level slot block kinds fits is forms.0, after.good); entries = after.entries };
  no_group = λ tag inner rest level p none more. more;
  a_group = λ tag inner rest level p found g is some own deeper more kinds block fits forms.
      let repeat = repeat_is tag found.0 inner found.1 g some in
      let at = group_at tag 0 (groups_in level) found is in
      let place : g.place ≡ at.0 = repeat.0 ∙ at.1 ∙ from_zero at.0 in
      let inside = plan_of m inner (level_in found.1) in
      let v = nth_or groupval.Absent g.place (out-Block block).groups in
      let has : HasBlocks order found.1 v =
      group_blocks order found.1 v
      (group_in order (groups_in level) (out-Block block).groups (block_parts order level block fits).groups g.place found.1 (ap (slice_get (groups_in level)) place ∙ at.2)) in
      let list : entries_of v ≡ has.blocks = ap entries_of has.are ∙ items_hidden-the_row-Block-1 has.blocks in
      let all = entries_good order (level_in found.1) inside (λ e h k. deeper own e h k) has.blocks has.fit
      (subst (λ bs. Each (λ t. EachValue IsItemForm inside t) (map (λ e. values_of inside e) bs)) list forms.0) in
      let many : admits g.count (pos (length (map (λ e. values_of inside e) has.blocks))) ≡ true =
      ap (λ n. admits g.count (pos n)) (length-map has.blocks (λ e. values_of inside e))
      ∙ count_admits found.1 g.count (length has.blocks) (repeat_count tag found.0 inner found.1 g some) has.admitted in
      let after = more kinds block fits forms.1 in
      record {
        good = (
          subst (λ bs. admits g.count (pos (length (map (λ e. values_of inside e) bs))) ≡ true) (sym list) many,
          subst (λ bs. Each (λ t. AreGood inside t) (map (λ e. values_of inside e) bs)) (sym list) all.good,
          after.good,
        );
        entries = (
          (has.blocks, has.are, subst (λ l. Each (λ e. HasLengths l e × HasEntries inside e) has.blocks) (sym repeat.1) all.entries),
          after.entries,
        );
      };
}

pub fitting_canonical : KindsAreWritable → (order : Order) (m : Mapping) (s : Structure) (level : Level) (block : Block) (draft : Draft) → HasFieldKinds level → EachGroup HaveFieldKinds s level → IsCovered m s level →
    IsHead m draft.head → BlockFits order level block → EachValue IsItemForm (plan_of m s level) (values_of (plan_of m s level) block) →
    fields_of (plan_of m s level) (values_of (plan_of m s level) block) ≡ Ok draft.fields → IsCanonicalBlock m s level block draft
fitting_canonical writable order m s level block draft kinds groups is headed fits forms written =
    let all = plan_by m HaveFieldKinds (IsGoodFrom order) (good_steps writable order m) s level groups kinds block fits forms in
    record { covered = is; headed = headed; written = written; good = all.good; lengths = block_long order level block fits; entries = all.entries }
