-- The values of a block are those that are found of the fields.
use Rattle.std.proofs.Common.{◌≡◌, ◌<◌, ℕ, zero, suc, Bool, true, false, cond, List, [], ◌∷◌, length, map, slice_get, Option, Some, None, refl, sym, ap, ◌∙◌, subst, arith}
use Rattle.std.specs.Prelude.{◌&&◌}
use Rattle.sbe_types.specs.declared.message.Block.{Block, out-Block}
use Rattle.sbe_types.specs.declared.message.DataVal.{DataVal}
use Rattle.sbe_types.specs.declared.message.DataVal.TheVariants as dataval
use Rattle.sbe_types.specs.declared.message.GroupVal.{GroupVal}
use Rattle.sbe_types.specs.declared.message.GroupVal as groupval
use Rattle.sbe_types.specs.declared.message.Value.{Value}
use Rattle.sbe_types.specs.declared.message.Value as value
use Rattle.sbe_types.specs.declared.schema.Level.{Level, out-Level}
use Rattle.tagvalue_codec.specs.Fields.{Field}
use Rattle.bridge_rules.proofs.OptionLemmas.{some_is, none_some, if_some}
use Rattle.bridge_terms.specs.Blocks.{data_value, entries_of, nth_or, value_at, values_of, AreHeld, HasEntries, IsHeld}
use Rattle.bridge_terms.specs.Gathering.{count_admitted, gather, group_in, text_at, value_found, value_look, values_of_fields}
use Rattle.bridge_terms.specs.Parts.{Part, are_distinct, are_known, part_at, parts_of}
use Rattle.bridge_terms.specs.Plans.{Each, Plan, Place, Repeat, Slot, Tree, done, single, group, in_fields, in_data, owns, tags}
use Rattle.bridge_terms.proofs.AnswerLemmas.{both_is}
use Rattle.bridge_terms.proofs.Arranging.{entries_again}
use Rattle.field_judge.specs.Heads.{group_head, heads, slot_head, Head}
use Rattle.field_blocks.specs.Blocks.{AreEntries, HasEntriesOf}
use Rattle.field_blocks.specs.Found.{entries_found, HoldsData, HoldsFields, HoldsGroups}
use Rattle.field_blocks.specs.Wired.{IsAt, IsGroupAt, IsWired}
use Rattle.field_blocks.proofs.Lists.{got_within, nth_is}

-- the group of a block has the entries of a plan's group
pub record GroupHolds (g : Repeat) (inner : Plan) (es : List (Tree Value inner)) (block : Block) : Type 0 where
  pub entries : List Block
  pub is : nth_or groupval.Absent g.place (out-Block block).groups ≡ groupval.Entries entries
  pub are : AreEntries g.level inner es entries

-- a block has at a part what is found of its field
abbrev pub HoldsAt : List Part → Block → Head → Type 0
HoldsAt parts block (slot_head s) = (found : Value) → IsHeld s.place found → value_found s.rule (text_at s.tag parts) ≡ Some found → value_at s.place block ≡ found
HoldsAt parts block (group_head g inner) = (es : List (Tree Value inner)) → Each (λ e. AreHeld inner e) es → entries_found g inner parts ≡ Some es → GroupHolds g inner es block

pair_is : {X Y : Type 0} (x : X) (y : Y) (z : X × Y) → x ≡ z.0 → y ≡ z.1 → (x, y) ≡ z
pair_is x y z a b = ap (λ x. (x, y)) a ∙ ap (λ y. (z.0, y)) b

-- what holds at each part holds of the values of all
pub gathered : (q : Plan) (parts : List Part) (block : Block) (t : Tree Value q) → ((k : ℕ) (h : Head) → slice_get (heads q) k ≡ Some h → HoldsAt parts block h) → AreHeld q t
    → gather value_look q parts ≡ Some t → (values_of q block ≡ t) × HasEntries q block
gathered done parts block t holds held is = (refl, tt)
gathered (single s rest) parts block t holds held is =
    let two = both_is (value_found s.rule (text_at s.tag parts)) (gather value_look rest parts) t is in
    let more = gathered rest parts block t.1 (λ k h at. holds (suc k) h at) held.1 two.1 in
    (pair_is _ _ t (holds 0 (slot_head s) refl t.0 held.0 two.0) more.0, more.1)
gathered (group g inner rest) parts block t holds held is =
    let two = both_is (entries_found g inner parts) (gather value_look rest parts) t is in
    let more = gathered rest parts block t.1 (λ k h at. holds (suc k) h at) held.1 two.1 in
    let own = holds 0 (group_head g inner) refl t.0 held.0 two.0 in
    let entries = ap (λ v. map (λ e. values_of inner e) (entries_of v)) own.is ∙ ap (map (λ e. values_of inner e)) (entries_again own.entries) ∙ own.are.values in
    (pair_is _ _ t entries more.0, ((own.entries, own.is, own.are.fit), more.1))

-- what is gathered of fields is gathered of their parts
pub gathered_parts : (p : Plan) (fields : List Field) (t : Tree Value p) → values_of_fields p fields ≡ Some t → gather value_look p (parts_of (owns p) fields) ≡ Some t
gathered_parts p fields t is =
    (if_some (are_known (tags p) (parts_of (owns p) fields) && are_distinct (parts_of (owns p) fields)) (gather value_look p (parts_of (owns p) fields)) t is).1

-- ---- at one part

-- the part of a level at a part of its plan
abbrev pub IsWiredAt : Level → Head → Type 0
IsWiredAt level (slot_head s) = IsAt level s.place s.tag
IsWiredAt level (group_head g inner) = IsGroupAt level g × IsWired g.level inner

pub wired_at : (level : Level) (p : Plan) (k : ℕ) (h : Head) → IsWired level p → slice_get (heads p) k ≡ Some h → IsWiredAt level h
wired_at level done k h wired at = none_some at
wired_at level (single s rest) zero h wired at = subst (IsWiredAt level) (some_is at) wired.0
wired_at level (single s rest) (suc k) h wired at = wired_at level rest k h wired.1 at
wired_at level (group g inner rest) zero h wired at = subst (IsWiredAt level) (some_is at) (wired.0, wired.1)
wired_at level (group g inner rest) (suc k) h wired at = wired_at level rest k h wired.2 at

-- the lists of a block
pub record HasLists (block : Block) (values : List Value) (entered : List GroupVal) (bytes : List DataVal) : Type 0 where
  pub fields : (out-Block block).fields ≡ values
  pub groups : (out-Block block).groups ≡ entered
  pub parts : (out-Block block).parts ≡ bytes

-- a number of a level's part is within the values
inside : {X Y : Type 0} (own : List X) (values : List Y) (i : ℕ) (x : X) → length values ≡ length own → slice_get own i ≡ Some x → i < length values
inside own values i x many there =
    let less = got_within own i x there in
    omega (arith, less, many)

slot_holds : (level : Level) (p : Plan) (parts : List Part) (block : Block) (values : List Value) (data_values : List DataVal) (k : ℕ) (s : Slot) (place : Place)
    → (out-Block block).fields ≡ values → (out-Block block).parts ≡ data_values
    → HoldsFields p parts (out-Level level).fields values → HoldsData p parts (out-Level level).parts data_values
    → length values ≡ length (out-Level level).fields → length data_values ≡ length (out-Level level).parts
    → slice_get (heads p) k ≡ Some (slot_head s) → IsAt level place s.tag → (found : Value) → IsHeld place found → value_found s.rule (text_at s.tag parts) ≡ Some found
    → value_at place block ≡ found
slot_holds level p parts block values data_values k s (in_fields i) fields_are data_are fields data_held many many_data at wired found held is =
    ap (nth_or value.Absent i) fields_are ∙ nth_is value.Absent values i found (fields k i s wired.field found (inside (out-Level level).fields values i wired.field many wired.there) at wired.there wired.id is)
slot_holds level p parts block values data_values k s (in_data i) fields_are data_are fields data_held many many_data at wired found held is =
    ap (λ ds. data_value (nth_or dataval.Absent i ds)) data_are
    ∙ ap data_value (nth_is dataval.Absent data_values i (dataval.Bytes held.0) (data_held k i s wired.part held.0 (inside (out-Level level).parts data_values i wired.part many_data wired.there) at wired.there wired.id (is ∙ ap Some held.1)))
    ∙ sym held.1

pub holds_all : (level : Level) (p : Plan) (parts : List Part) (block : Block) (values : List Value) (groups : List GroupVal) (data_values : List DataVal)
    → HasLists block values groups data_values → IsWired level p → HoldsFields p parts (out-Level level).fields values
    → HoldsGroups p parts (out-Level level).groups groups → HoldsData p parts (out-Level level).parts data_values
    → length values ≡ length (out-Level level).fields → length groups ≡ length (out-Level level).groups → length data_values ≡ length (out-Level level).parts
    → (k : ℕ) (h : Head) → slice_get (heads p) k ≡ Some h → HoldsAt parts block h
holds_all level p parts block values groups data_values are wired fields groups_held data_held many many_groups many_data k (slot_head s) at =
    slot_holds level p parts block values data_values k s s.place are.fields are.parts fields data_held many many_data at (wired_at level p k (slot_head s) wired at)
holds_all level p parts block values groups data_values are wired fields groups_held data_held many many_groups many_data k (group_head g inner) at = λ es held is.
    let here = wired_at level p k (group_head g inner) wired at in
    let found = groups_held k g.place g inner here.0.found es (inside (out-Level level).groups groups g.place here.0.found many_groups here.0.there) at here.0.there (record { id = here.0.id; level = here.0.same; wired = here.1 }) held is in
    record {
      entries = found.2.entries;
      is = ap (nth_or groupval.Absent g.place) are.groups ∙ nth_is groupval.Absent groups g.place found.0 found.1 ∙ found.2.is;
      are = found.2.are;
    }
