-- A message of the schema's own version, or of a later one, has all parts.
use Rattle.std.proofs.Common.{◌≡◌, ℕ, ◌≤◌, Bool, true, false, cond, List, [], ◌∷◌, take, drop, Some, None, refl, sym, ap, ◌∙◌, subst, arith, ℤ, pos}
use Rattle.std.specs.Prelude.{◌&&◌, ◌||◌, not, codes, min}
use Rattle.std.specs.List.{list_all}
use denote.Hole.Carrier as carrier
use Rattle.sbe_types.specs.declared.kind.Order.{Order}
use Rattle.sbe_types.specs.declared.kind.LeafShape.{LeafShape}
use Rattle.sbe_types.specs.declared.kind.LeafShape.TheVariants.{Number, RangedText, EncodedText, Octets, Numbers}
use Rattle.sbe_types.specs.declared.kind.Leaf.{Leaf as LeafOf}
use Rattle.sbe_types.specs.declared.kind.Kind.{Kind, Leaf, Enum, Set, Const, Comp'}
use Rattle.sbe_types.specs.declared.schema.Level as levels
use Rattle.sbe_types.specs.declared.schema.Field.{Field}
use Rattle.sbe_types.specs.declared.schema.DataField.{DataField}
use Rattle.sbe_types.specs.declared.schema.Group.{Group, Group'}
use Rattle.sbe_types.specs.declared.schema.Level.{Level, Level', out-Level, Row_of-Group, end_of-Group, more_of-Group}
use Rattle.sbe_types.specs.declared.schema.WireSchema.{WireSchema}
use Rattle.sbe_types.specs.declared.message.Value.{Value}
use Rattle.sbe_types.specs.declared.message.Value as value
use Rattle.sbe_types.specs.declared.message.DataVal.{DataVal}
use Rattle.sbe_types.specs.declared.message.DataVal.TheVariants as dataval
use Rattle.sbe_types.specs.declared.message.Block.{Block, out-Block}
use Rattle.sbe_types.specs.declared.message.GroupVal.{GroupVal, items_hidden-the_row-Block-1}
use Rattle.sbe_types.specs.declared.message.GroupVal as groupval
use Rattle.sbe_types.specs.declared.message.Msg.{Msg}
use Rattle.sbe_types.specs.Numbers.{number_of, natural}
use Rattle.sbe_types.specs.Places.{width, begin_of, end_past}
use Rattle.sbe_types.specs.Shown.{is_optional, admits, is_null, is_listed, has_listed_bits}
use Rattle.sbe_types.specs.Shows.{Shows, ShowsLeaf, is_empty}
use Rattle.sbe_wire.specs.declared.mode.Mode.{Mode}
use Rattle.sbe_wire.specs.Versions.{mode_of, form_of}
use Rattle.sbe_wire.specs.Named.{is_admitted}
use Rattle.sbe_wire.specs.Lays.{IsConcatenation, IsConcatenationOfBoth, FieldsLay, DataLies, DataLays, EntryLays, GroupLies, TailLays, GroupsLay, GroupLays}
use Rattle.version_laws.specs.Plain.{is_absent_part, is_absent_group}
use Rattle.writing_laws.specs.Writable.{AreWritableFields, AreWritableParts, IsWritableLevel, AreWritableGroups, IsWritableGroup, IsWritable}
use Rattle.writing_laws.proofs.Own.{alive_from, writable_fields}
use Rattle.bridge_rules.proofs.OptionLemmas.{some_is, none_some}
use Rattle.bridge_rules.proofs.BoolLemmas.{and_so}
use Rattle.bridge_terms.specs.Blocks.{entries_of}
use Rattle.bridge_versions.specs.Needed.{is_needed, is_absent, has_fields, has_parts, has_needed, has_groups, has_entries}
use Rattle.bridge_versions.specs.Received.{IsReceived}

-- ---- a value that bytes show is there

number_there : (t u : Bool) (n : ℤ) (v : Value) → cond t (Some value.Null) (cond u (Some (value.Num n)) None) ≡ Some v → is_absent v ≡ false
number_there true u n v h = ap is_absent (sym (some_is h))
number_there false true n v h = ap is_absent (sym (some_is h))
number_there false false n v h = none_some h

enum_there : (t u : Bool) (n : ℤ) (v : Value) → cond t (Some value.Null) (cond u (Some (value.Enum n)) None) ≡ Some v → is_absent v ≡ false
enum_there true u n v h = ap is_absent (sym (some_is h))
enum_there false true n v h = ap is_absent (sym (some_is h))
enum_there false false n v h = none_some h

set_there : (t : Bool) (n : ℕ) (v : Value) → cond t (Some (value.Set n)) None ≡ Some v → is_absent v ≡ false
set_there true n v h = ap is_absent (sym (some_is h))
set_there false n v h = none_some h

text_there : (t : Bool) (its : List ℕ) → is_absent (cond t value.Null (value.Text its)) ≡ false
text_there true its = refl
text_there false its = refl

leaf_there : (order : Order) (s : LeafShape) (leaf : LeafOf) (v : Value) (b : List ℕ) → ShowsLeaf order s leaf v b → is_absent v ≡ false
leaf_there order Number leaf v b h = number_there (is_null leaf (number_of order leaf.prim b)) (admits leaf (number_of order leaf.prim b)) (number_of order leaf.prim b) v h
leaf_there order RangedText leaf v b h = ap is_absent h.5 ∙ text_there (is_optional leaf.presence && is_empty h.0) h.0
leaf_there order EncodedText leaf v b h = ap is_absent h.5 ∙ text_there (is_optional leaf.presence && is_empty h.0) h.0
leaf_there order Octets leaf v b h = ap is_absent h.1
leaf_there order Numbers leaf v b h = ap is_absent h.1

shown_there : (order : Order) (known : Bool) (k : Kind) (v : Value) (b : List ℕ) → Shows order known k v b → is_absent v ≡ false
shown_there order known (Leaf l) v b h = leaf_there order l.shape l v b h.1
shown_there order known (Enum l names) v b h =
    enum_there (is_null l (number_of order l.prim b)) (is_listed names (number_of order l.prim b) || not known) (number_of order l.prim b) v h.1
shown_there order known (Set p names) v b h = set_there (has_listed_bits names 64 (natural (number_of order p b)) || not known) (natural (number_of order p b)) v h.1
shown_there order known (Const c) v b h = ap is_absent h.1
shown_there order known (Comp' n members) v b h = ap is_absent h.1.1

-- ---- levels

module _ (mode : Mode) where
  fields_there : (e : ℕ) (fs : List Field) (vs : List Value) (b : List ℕ) → AreWritableFields mode.version fs → FieldsLay mode e fs vs b → has_fields fs vs ≡ true
  fields_there e [] [] b writable h = refl
  fields_there e [] (v ∷ vs) b writable h = absurd h
  fields_there e (f ∷ fs) [] b writable h = absurd h
  fields_there e (f ∷ fs) (v ∷ vs) b writable h =
      let slice : List ℕ = take (width f.kind) (drop (begin_of e f.offset) b) in
      let shows : Shows mode.order mode.known f.kind v slice = alive_from (Shows mode.order mode.known f.kind v slice) (v ≡ value.Absent) mode.version f.since writable.1 h.0 in
      and_so (not (is_absent v && is_needed f.kind)) (has_fields fs vs) (ap (λ t. not (t && is_needed f.kind)) (shown_there mode.order mode.known f.kind v slice shows))
      (fields_there (end_past e f.offset f.kind) fs vs b writable.2 h.1)

  parts_there : (ds : List DataField) (vs : List DataVal) (b : List ℕ) → AreWritableParts mode.version ds → IsConcatenationOfBoth (DataLays mode.order mode.version) ds vs b → has_parts ds vs ≡ true
  parts_there [] [] b writable h = refl
  parts_there [] (v ∷ vs) b writable h = absurd h
  parts_there (d ∷ ds) [] b writable h = absurd h
  parts_there (d ∷ ds) (v ∷ vs) b writable h =
      let lies = alive_from ((bytes : List ℕ) × (v ≡ dataval.Bytes bytes) × DataLies mode.order d bytes h.0) ((v ≡ dataval.Absent) × (h.0 ≡ [])) mode.version d.since writable.0.known h.3 in
      and_so (not (is_absent_part v) || admits d.length (pos 0)) (has_parts ds vs) (ap (λ w. not (is_absent_part w) || admits d.length (pos 0)) lies.1) (parts_there ds vs h.1 writable.1 h.4)

  each_there : {X : Type 0} (R : X → List ℕ → Type 0) (test : X → Bool) → ((x : X) (b : List ℕ) → R x b → test x ≡ true) → (xs : List X) (b : List ℕ) → IsConcatenation R xs b → list_all test xs ≡ true
  each_there R test turn [] b h = refl
  each_there R test turn (x ∷ xs) b h = and_so (test x) (list_all test xs) (turn x h.0 h.3) (each_there R test turn xs h.1 h.4)

  mutual
    unfolding levels.out-Level carrier.out

    level_there : (level : Level) → IsWritableLevel mode.version level → (block : Block) (b : List ℕ) → has_fields (out-Level level).fields (out-Block block).fields ≡ true → TailLays mode level block b →
        has_needed level block ≡ true
    level_there (Level' name id semantic since block_length fields n groups parts) writable block b own h =
        and_so (has_fields fields (out-Block block).fields) (has_groups groups (out-Block block).groups && has_parts parts (out-Block block).parts) own
        (and_so (has_groups groups (out-Block block).groups) (has_parts parts (out-Block block).parts) (groups_there groups writable.2 (out-Block block).groups h.0 h.3)
        (parts_there parts (out-Block block).parts h.1 writable.3 h.4))

    groups_there : {n : _} (groups : Row_of-Group n) → AreWritableGroups mode.version groups → (vs : List GroupVal) (b : List ℕ) → GroupsLay mode groups vs b → has_groups groups vs ≡ true
    groups_there end_of-Group writable [] b h = refl
    groups_there end_of-Group writable (v ∷ vs) b h = absurd h
    groups_there (more_of-Group g rest) writable [] b h = absurd h
    groups_there (more_of-Group g rest) writable (v ∷ vs) b h = and_so (has_entries g v) (has_groups rest vs) (group_there g writable.0 v h.0 h.3) (groups_there rest writable.1 vs h.1 h.4)

    group_there : (g : Group) → IsWritableGroup mode.version g → (v : GroupVal) (b : List ℕ) → GroupLays mode g v b → has_entries g v ≡ true
    group_there (Group' dim level) writable v b h =
        let lies = alive_from
        ((entries : List Block) × (v ≡ groupval.Entries entries) × GroupLies (λ entry e. TailLays mode level entry e) (form_of mode level) dim entries b) ((v ≡ groupval.Absent) × (b ≡ []))
        mode.version (out-Level level).since writable.0 h in
        let group = lies.2 in
        let list : entries_of v ≡ lies.0 = ap entries_of lies.1 ∙ items_hidden-the_row-Block-1 lies.0 in
        and_so (not (is_absent_group v) || is_admitted dim (codes "numInGroup") 0) (list_all (λ e. has_needed level e) (entries_of v))
        (ap (λ w. not (is_absent_group w) || is_admitted dim (codes "numInGroup") 0) lies.1)
        (ap (list_all (λ e. has_needed level e)) list
        ∙ each_there (EntryLays (λ entry e. TailLays mode level entry e) (form_of mode level) group.0) (λ e. has_needed level e)
        (λ e x here. level_there level writable.2 e (drop group.0 x)
        (fields_there 0 (out-Level level).fields (out-Block e).fields (take group.0 x) (writable_fields mode.version level writable.2) here.1.1) here.2) lies.0 group.2 group.5)

-- ---- messages

least_of : (w version : ℕ) → version ≤ w → min w version ≡ version
least_of w version h = omega (arith, h)

-- a message of the schema's own version or a later one lacks nothing
pub later_has : (schema : WireSchema) (level : Level) (message : Msg) (body : List ℕ) → IsWritable schema → IsReceived schema level message body → schema.version ≤ message.version →
    has_needed level message.block ≡ true
later_has schema level message body writable is late =
    let h = is.lies in
    let mode = mode_of schema message.version in
    let own : mode.version ≡ schema.version = least_of message.version schema.version late in
    let its : IsWritableLevel mode.version h.0 = subst (λ v. IsWritableLevel v h.0) (sym own) (writable.levels message.template h.0 h.5) in
    subst (λ l. has_needed l message.block ≡ true) (some_is (sym h.5 ∙ is.template))
    (level_there mode h.0 its message.block h.3 (fields_there mode 0 (out-Level h.0).fields (out-Block message.block).fields h.2 (writable_fields mode.version h.0 its) h.8.1) h.9)
