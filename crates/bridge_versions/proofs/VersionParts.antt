-- The values of a message of any version: what is written of each has its item, and can be read if the message lacks no
-- part that a text needs.
use Rattle.std.proofs.Common.{◌≡◌, inl, inr, ℕ, ◌<◌, ◌^◌, true, List, [], ◌∷◌, map, length, Option, Some, None, refl, sym, ap, ◌∙◌, subst, arith, pos}
use Rattle.std.specs.Prelude.{⊤}
use Rattle.std.proofs.Math.Nat.{one-le-pow}
use Rattle.std.proofs.lemmas.List.{length-map}
use Rattle.sbe_types.specs.declared.kind.Leaf.{Leaf as LeafOf}
use Rattle.sbe_types.specs.declared.message.Value.{Value}
use Rattle.sbe_types.specs.declared.message.Value as value
use Rattle.sbe_types.specs.declared.message.DataVal.{DataVal}
use Rattle.sbe_types.specs.declared.message.DataVal.TheVariants as dataval
use Rattle.sbe_types.specs.declared.message.Block.{Block, out-Block}
use Rattle.sbe_types.specs.declared.message.GroupVal.{GroupVal, items_hidden-the_row-Block-1}
use Rattle.sbe_types.specs.declared.message.GroupVal as groupval
use Rattle.sbe_types.specs.declared.schema.Field.{Field}
use Rattle.sbe_types.specs.declared.schema.DataField.{DataField}
use Rattle.sbe_types.specs.declared.schema.Group.{Group}
use Rattle.sbe_types.specs.declared.schema.Level.{Level, out-Level}
use Rattle.sbe_types.specs.Shown.{admits}
use Rattle.sbe_wire.specs.declared.mode.Mode.{Mode}
use Rattle.sbe_wire.specs.Fits.{PartFits}
use Rattle.schema_facts.specs.InOrder.{IsKindInOrder}
use Rattle.reference_graph.specs.Expansion.{Structure}
use Rattle.bridge_rules.specs.Rules.{Rule, raw_data, text_data}
use Rattle.bridge_rules.specs.Bounds.{IsMapped}
use Rattle.bridge_rules.specs.Sound.{IsShown, IsReadable}
use Rattle.bridge_rules.specs.Datatypes.{Datatype}
use Rattle.bridge_rules.specs.Table.{data_rule}
use Rattle.bridge_rules.proofs.OptionLemmas.{some_is}
use Rattle.bridge_rules.proofs.BoundedRules.{bounded_sound, bounded_shown}
use Rattle.bridge_rules.proofs.FittingShown.{IsWritten, good_written}
use Rattle.bridge_terms.specs.Plans.{Plan, Slot, Tree, Each, done, single, group, in_fields, in_data}
use Rattle.bridge_terms.specs.PlanFacts.{EachValue, AreCounted}
use Rattle.bridge_terms.specs.Blocks.{nth_or, data_value, entries_of, value_at, values_of}
use Rattle.bridge_plan.specs.Mappings.{Mapping, datatype_of}
use Rattle.bridge_plan.specs.Covers.{field_slot, data_slot, or_slot, slot_of, groups_in, level_in, count_leaf, plan_of}
use Rattle.bridge_plan.specs.StructureFacts.{HasCount}
use Rattle.bridge_plan.proofs.Counting.{repeat_count}
use Rattle.bridge_plan.proofs.PlanParts.{Steps, repeat_is}
use Rattle.bridge_plan.proofs.FittingMessages.{from_zero, count_admits}
use Rattle.bridge_plan.proofs.SchemaGives.{HasFieldKinds, HaveFieldKinds}
use Rattle.bridge_plan.proofs.BackFits.{KindsAreWritable, field_rule, data_rule_at, group_at, all_at}
use Rattle.bridge_versions.specs.Needed.{has_needed, has_entries}
use Rattle.bridge_versions.proofs.AbsentValues.{absent_shown, absent_read, kind_misses, data_cases, data_misses}
use Rattle.bridge_versions.proofs.ShownKinds.{kind_written}
use Rattle.bridge_versions.proofs.LyingLevels.{LevelLies, level_field, level_data, GroupIs, level_group}
use Rattle.bridge_versions.proofs.NeededParts.{absent_field, absent_data, own_group, absent_group, own_entries}

-- ---- one value

-- what is written of the value has its item, and can be read if the message lacks no part that a text needs
record IsTold (level : Level) (block : Block) (rule : Rule) (v : Value) : Type 0 where
  shown : IsShown rule v
  read : has_needed level block ≡ true → IsReadable rule v

written_told : (level : Level) (block : Block) (rule : Rule) (v : Value) → IsWritten rule v → IsTold level block rule v
written_told level block rule v is = record { shown = is.0; read = λ needed. is.1 }

data_written : (d : DataField) (kind : Datatype) (rule : Rule) → data_rule d kind ≡ Some rule → (v : DataVal) → PartFits d v → IsWritten rule (data_value v)
data_written d kind rule h v fits =
    data_cases (λ r. IsWritten r (data_value v)) d
    (good_written (raw_data d.length) (bounded_sound (raw_data d.length) tt) (bounded_shown (raw_data d.length) tt tt) (data_value v) (fits.0, ap data_value fits.1, fits.2))
    (good_written (text_data d.length) (bounded_sound (text_data d.length) tt) (bounded_shown (text_data d.length) tt tt) (data_value v) (fits.0, ap data_value fits.1, fits.2))
    kind rule h

slot_told : KindsAreWritable → (mode : Mode) (m : Mapping) (tag : ℕ) (level : Level) (slot : Slot) (block : Block) → IsMapped (datatype_of m tag) → HasFieldKinds level → LevelLies mode level block →
    slot_of m tag level ≡ Some slot → IsTold level block slot.rule (value_at slot.place block)
slot_told writable mode m tag level slot block mapped kinds lies h = by_field (field_slot m tag 0 (out-Level level).fields) refl h
  where
    by_field : (o : Option Slot) → field_slot m tag 0 (out-Level level).fields ≡ o → or_slot o (data_slot m tag 0 (out-Level level).parts) ≡ Some slot → IsTold level block slot.rule (value_at slot.place block)
    by_field (Some s) is k =
        let own = field_rule m tag 0 (out-Level level).fields slot (is ∙ k) in
        let place : slot.place ≡ in_fields own.number = own.place ∙ ap in_fields (from_zero own.number) in
        let kind = all_at (λ (g : Field). IsKindInOrder g.kind) (out-Level level).fields kinds own.number own.own own.at in
        let v = nth_or value.Absent own.number (out-Block block).fields in
        subst (λ p. IsTold level block slot.rule (value_at p block)) (sym place)
        (elim (level_field mode level block lies own.number own.own own.at) [
          | inl shows ↦ written_told level block slot.rule v (kind_written writable mode.order mode.known own.own.kind (datatype_of m tag) slot.rule v shows.0 kind mapped own.rule shows.1 shows.2)
          | inr gone ↦ record {
            shown = subst (IsShown slot.rule) (sym gone) (absent_shown slot.rule);
            read = λ needed.
                subst (IsReadable slot.rule) (sym gone)
                (absent_read slot.rule (kind_misses own.own.kind (datatype_of m tag) slot.rule own.rule (absent_field level block needed own.number own.own own.at gone)));
          }
        ])
    by_field None is k =
        let own = data_rule_at m tag 0 (out-Level level).parts slot k in
        let place : slot.place ≡ in_data own.number = own.place ∙ ap in_data (from_zero own.number) in
        let v = nth_or dataval.Absent own.number (out-Block block).parts in
        subst (λ p. IsTold level block slot.rule (value_at p block)) (sym place)
        (elim (level_data mode level block lies own.number own.own own.at) [
          | inl fits ↦ written_told level block slot.rule (data_value v) (data_written own.own (datatype_of m tag) slot.rule own.rule v fits)
          | inr gone ↦ record {
            shown = subst (λ w. IsShown slot.rule (data_value w)) (sym gone) (absent_shown slot.rule);
            read = λ needed.
                subst (λ w. IsReadable slot.rule (data_value w)) (sym gone)
                (absent_read slot.rule (data_misses own.own (datatype_of m tag) slot.rule own.rule (absent_data level block needed own.number own.own own.at gone)));
          }
        ])

-- ---- all values

each_map : {X Y : Type 0} (f : X → Y) (P : X → Type 0) (Q : Y → Type 0) → ((x : X) → P x → Q (f x)) → (xs : List X) → Each P xs → Each Q (map f xs)
each_map f P Q turn [] all = tt
each_map f P Q turn (x ∷ xs) all = (turn x all.0, each_map f P Q turn xs all.1)

each_both : {X : Type 0} (P Q R : X → Type 0) → ((x : X) → P x → Q x → R x) → (xs : List X) → Each P xs → Each Q xs → Each R xs
each_both P Q R turn [] a b = tt
each_both P Q R turn (x ∷ xs) a b = (turn x a.0 b.0, each_both P Q R turn xs a.1 b.1)

-- each number of entries can be spelled
abbrev pub AreShort : (p : Plan) → Tree Value p → Type 0
AreShort done t = ⊤
AreShort (single s rest) t = AreShort rest t.1
AreShort (group g inner rest) t = (length t.0 < 10 ^ 64) × Each (λ e. AreShort inner e) t.0 × AreShort rest t.1

-- the values have their items in the text
pub record AreShown (p : Plan) (t : Tree Value p) : Type 0 where
  pub shown : EachValue IsShown p t
  pub short : AreShort p t

-- the values can be read from the text
pub record AreRead (p : Plan) (t : Tree Value p) : Type 0 where
  pub read : EachValue IsReadable p t
  pub counted : AreCounted p t

abbrev pub IsKnown : Structure → Group → Type 0
IsKnown inner g = HaveFieldKinds inner g × HasCount inner g

abbrev pub IsShownFrom : Mode → Structure → Level → Plan → Type 0
IsShownFrom mode s level p = HasFieldKinds level → (block : Block) → LevelLies mode level block → AreShown p (values_of p block)

abbrev pub IsReadFrom : Mode → Structure → Level → Plan → Type 0
IsReadFrom mode s level p = HasFieldKinds level → (block : Block) → LevelLies mode level block → has_needed level block ≡ true → AreRead p (values_of p block)

-- ---- groups

-- no entries are few
none_short : 0 < 10 ^ 64
none_short = one-le-pow 64 10 (omega arith)

count_short : (inner : Structure) (g : Group) (leaf : LeafOf) (n : ℕ) → HasCount inner g → count_leaf g ≡ Some leaf → admits leaf (pos n) ≡ true → n < 10 ^ 64
count_short inner g leaf n own is fits = own.short n (ap (λ l. admits l (pos n)) (some_is (sym own.counts ∙ is)) ∙ fits)

-- entries, as those of a plan
record AreShownEntries (inside : Plan) (ts : List (Tree Value inside)) : Type 0 where
  shown : Each (λ e. EachValue IsShown inside e) ts
  few : length ts < 10 ^ 64
  short : Each (λ e. AreShort inside e) ts

entries_shown : (mode : Mode) (inner : Structure) (g : Group) (inside : Plan) (leaf : LeafOf) → HasCount inner g → count_leaf g ≡ Some leaf →
    ((block : Block) → LevelLies mode (level_in g) block → AreShown inside (values_of inside block)) → (v : GroupVal) → GroupIs mode g v → AreShownEntries inside (map (λ e. values_of inside e) (entries_of v))
entries_shown mode inner g inside leaf own is turn v (inr gone) =
    subst (λ w. AreShownEntries inside (map (λ e. values_of inside e) (entries_of w))) (sym gone) (record { shown = tt; few = none_short; short = tt })
entries_shown mode inner g inside leaf own is turn v (inl has) =
    let list : entries_of v ≡ has.blocks = ap entries_of has.are ∙ items_hidden-the_row-Block-1 has.blocks in
    let long : length (map (λ e. values_of inside e) has.blocks) ≡ length has.blocks = length-map has.blocks (λ e. values_of inside e) in
    let fits : admits leaf (pos (length has.blocks)) ≡ true = count_admits g leaf (length has.blocks) is has.admitted in
    subst (λ bs. AreShownEntries inside (map (λ e. values_of inside e) bs)) (sym list) (record {
      shown = each_map (λ e. values_of inside e) (λ e. LevelLies mode (level_in g) e) (λ e. EachValue IsShown inside e) (λ e h. (turn e h).shown) has.blocks has.lie;
      few = subst (λ n. n < 10 ^ 64) (sym long) (count_short inner g leaf (length has.blocks) own is fits);
      short = each_map (λ e. values_of inside e) (λ e. LevelLies mode (level_in g) e) (λ e. AreShort inside e) (λ e h. (turn e h).short) has.blocks has.lie;
    })

record AreReadEntries (inside : Plan) (leaf : LeafOf) (ts : List (Tree Value inside)) : Type 0 where
  read : Each (λ e. EachValue IsReadable inside e) ts
  few : length ts < 10 ^ 64
  admitted : admits leaf (pos (length ts)) ≡ true
  counted : Each (λ e. AreCounted inside e) ts

-- an entry that lies in bytes and lacks no part that a text needs
abbrev IsWhole : Mode → Level → Block → Type 0
IsWhole mode level e = LevelLies mode level e × (has_needed level e ≡ true)

entries_read : (mode : Mode) (inner : Structure) (g : Group) (inside : Plan) (leaf : LeafOf) → HasCount inner g → count_leaf g ≡ Some leaf →
    ((block : Block) → LevelLies mode (level_in g) block → has_needed (level_in g) block ≡ true → AreRead inside (values_of inside block)) → (v : GroupVal) → GroupIs mode g v → has_entries g v ≡ true →
    AreReadEntries inside leaf (map (λ e. values_of inside e) (entries_of v))
entries_read mode inner g inside leaf own is turn v (inr gone) needed =
    let fits = count_admits g leaf 0 is (absent_group g v needed gone) in
    subst (λ w. AreReadEntries inside leaf (map (λ e. values_of inside e) (entries_of w))) (sym gone) (record { read = tt; few = none_short; admitted = fits; counted = tt })
entries_read mode inner g inside leaf own is turn v (inl has) needed =
    let list : entries_of v ≡ has.blocks = ap entries_of has.are ∙ items_hidden-the_row-Block-1 has.blocks in
    let long : length (map (λ e. values_of inside e) has.blocks) ≡ length has.blocks = length-map has.blocks (λ e. values_of inside e) in
    let fits : admits leaf (pos (length has.blocks)) ≡ true = count_admits g leaf (length has.blocks) is has.admitted in
    let all = each_both (λ e. LevelLies mode (level_in g) e) (λ e. has_needed (level_in g) e ≡ true) (IsWhole mode (level_in g)) (λ e a b. (a, b)) has.blocks has.lie
    (subst (λ bs. Each (λ e. has_needed (level_in g) e ≡ true) bs) list (own_entries g v needed)) in
    subst (λ bs. AreReadEntries inside leaf (map (λ e. values_of inside e) bs)) (sym list) (record {
      read = each_map (λ e. values_of inside e) (IsWhole mode (level_in g)) (λ e. EachValue IsReadable inside e) (λ e h. (turn e h.0 h.1).read) has.blocks all;
      few = subst (λ n. n < 10 ^ 64) (sym long) (count_short inner g leaf (length has.blocks) own is fits);
      admitted = ap (λ n. admits leaf (pos n)) long ∙ fits;
      counted = each_map (λ e. values_of inside e) (IsWhole mode (level_in g)) (λ e. AreCounted inside e) (λ e h. (turn e h.0 h.1).counted) has.blocks all;
    })

-- ---- part by part

pub shown_steps : KindsAreWritable → (mode : Mode) (m : Mapping) → ((tag : ℕ) → IsMapped (datatype_of m tag)) → Steps m IsKnown (IsShownFrom mode)
shown_steps writable mode m mapped = record {
  at_end = λ level kinds block lies. record { shown = tt; short = tt };
  no_slot = λ tag rest level p none more. more;
  a_slot = λ tag rest level p slot is more kinds block lies.
      let here = slot_told writable mode m tag level slot block (mapped tag) kinds lies is in
      let after = more kinds block lies in
      record { shown = (here.shown, after.shown); short = after.short };
  no_group = λ tag inner rest level p none more. more;
  a_group = λ tag inner rest level p found g is some own deeper more kinds block lies.
      let at = group_at tag 0 (groups_in level) found is in
      let place : g.place ≡ at.0 = (repeat_is tag found.0 inner found.1 g some).0 ∙ at.1 ∙ from_zero at.0 in
      let inside = plan_of m inner (level_in found.1) in
      let v = nth_or groupval.Absent at.0 (out-Block block).groups in
      let entries = subst (λ k. AreShownEntries inside (map (λ e. values_of inside e) (entries_of (nth_or groupval.Absent k (out-Block block).groups)))) (sym place)
      (entries_shown mode inner found.1 inside g.count own.1 (repeat_count tag found.0 inner found.1 g some) (λ b h. deeper own.0 b h) v (level_group mode level block lies at.0 found.1 at.2)) in
      let after = more kinds block lies in
      record { shown = (entries.shown, after.shown); short = (entries.few, entries.short, after.short) };
}

pub read_steps : KindsAreWritable → (mode : Mode) (m : Mapping) → ((tag : ℕ) → IsMapped (datatype_of m tag)) → Steps m IsKnown (IsReadFrom mode)
read_steps writable mode m mapped = record {
  at_end = λ level kinds block lies needed. record { read = tt; counted = tt };
  no_slot = λ tag rest level p none more. more;
  a_slot = λ tag rest level p slot is more kinds block lies needed.
      let here = slot_told writable mode m tag level slot block (mapped tag) kinds lies is in
      let after = more kinds block lies needed in
      record { read = (here.read needed, after.read); counted = after.counted };
  no_group = λ tag inner rest level p none more. more;
  a_group = λ tag inner rest level p found g is some own deeper more kinds block lies needed.
      let at = group_at tag 0 (groups_in level) found is in
      let place : g.place ≡ at.0 = (repeat_is tag found.0 inner found.1 g some).0 ∙ at.1 ∙ from_zero at.0 in
      let inside = plan_of m inner (level_in found.1) in
      let v = nth_or groupval.Absent at.0 (out-Block block).groups in
      let entries = subst (λ k. AreReadEntries inside g.count (map (λ e. values_of inside e) (entries_of (nth_or groupval.Absent k (out-Block block).groups)))) (sym place)
      (entries_read mode inner found.1 inside g.count own.1 (repeat_count tag found.0 inner found.1 g some) (λ b h k. deeper own.0 b h k) v (level_group mode level block lies at.0 found.1 at.2)
      (own_group level block needed at.0 found.1 at.2)) in
      let after = more kinds block lies needed in
      record { read = (entries.read, after.read); counted = (entries.few, entries.admitted, entries.counted, after.counted) };
}
