-- The parts of a level that lies in bytes, at any version: what its fields show, the entries of its groups, and its data.
use Rattle.std.proofs.Common.{◌≡◌, ◌⊎◌, inl, inr, ℕ, zero, suc, Bool, true, false, List, [], ◌∷◌, ◌++◌, length, take, drop, Some, subst}
use Rattle.std.specs.Prelude.{slice_get, codes}
use Rattle.std.specs.Bool.{MatchBool}
use denote.Hole.Carrier as carrier
use Rattle.byte_digits.specs.Digits.{IsBytes}
use Rattle.byte_digits.proofs.Bytes.{IsBytes-front, IsBytes-back, IsBytes-take, IsBytes-drop}
use Rattle.sbe_types.specs.declared.schema.Level as levels
use Rattle.sbe_types.specs.declared.schema.Group as grouped
use Rattle.sbe_types.specs.declared.kind.Order.{Order}
use Rattle.sbe_types.specs.declared.schema.Field.{Field}
use Rattle.sbe_types.specs.declared.schema.DataField.{DataField}
use Rattle.sbe_types.specs.declared.schema.Group.{Group, Group', out-Group}
use Rattle.sbe_types.specs.declared.schema.Level.{Level, Level', Row_of-Group, end_of-Group, more_of-Group, items-the_row-Group, out-Level}
use Rattle.sbe_types.specs.declared.message.Value.{Value}
use Rattle.sbe_types.specs.declared.message.Value as value
use Rattle.sbe_types.specs.declared.message.DataVal.{DataVal}
use Rattle.sbe_types.specs.declared.message.DataVal.TheVariants as dataval
use Rattle.sbe_types.specs.declared.message.Block.{Block, out-Block}
use Rattle.sbe_types.specs.declared.message.GroupVal.{GroupVal}
use Rattle.sbe_types.specs.declared.message.GroupVal as groupval
use Rattle.sbe_types.specs.Places.{width, begin_of, end_past}
use Rattle.sbe_types.specs.Shows.{Shows}
use Rattle.sbe_wire.specs.declared.mode.Mode.{Mode}
use Rattle.sbe_wire.specs.Versions.{is_alive, form_of}
use Rattle.sbe_wire.specs.Named.{is_admitted}
use Rattle.sbe_wire.specs.Lays.{IsConcatenation, IsConcatenationOfBoth, FieldsLay, DataLies, DataLays, EntryLays, GroupLies, TailLays, GroupsLay, GroupLays}
use Rattle.sbe_wire.specs.Fits.{PartFits}
use Rattle.bridge_rules.proofs.OptionLemmas.{some_is, none_some}
use Rattle.bridge_terms.specs.Plans.{Each}
use Rattle.bridge_terms.specs.Blocks.{nth_or}
use Rattle.bridge_plan.specs.Covers.{groups_in, level_in}

-- the fields of a level lie in bytes, and its groups and data in others
pub record LevelLies (mode : Mode) (level : Level) (block : Block) : Type 0 where
  pub front : List ℕ
  pub front_good : IsBytes front
  pub fields : FieldsLay mode 0 (out-Level level).fields (out-Block block).fields front
  pub back : List ℕ
  pub back_good : IsBytes back
  pub tail : TailLays mode level block back

-- one or the other, by a test
one_of : (t : Bool) (P Q : Type 0) → MatchBool t P Q → P ⊎ Q
one_of true P Q h = inl h
one_of false P Q h = inr h

-- ---- fields

-- bytes show the value of the field, or it is absent
abbrev pub FieldIs : Mode → Field → Value → Type 0
FieldIs mode f v = ((b : List ℕ) × IsBytes b × Shows mode.order mode.known f.kind v b) ⊎ (v ≡ value.Absent)

field_is : (mode : Mode) (e : ℕ) (f : Field) (v : Value) (b : List ℕ) → IsBytes b →
    MatchBool (is_alive mode.version f.since) (Shows mode.order mode.known f.kind v (take (width f.kind) (drop (begin_of e f.offset) b))) (v ≡ value.Absent) → FieldIs mode f v
field_is mode e f v b good h =
    let slice = take (width f.kind) (drop (begin_of e f.offset) b) in
    elim (one_of (is_alive mode.version f.since) (Shows mode.order mode.known f.kind v slice) (v ≡ value.Absent) h) [
      | inl shows ↦ inl (slice, IsBytes-take (width f.kind) (drop (begin_of e f.offset) b) (IsBytes-drop (begin_of e f.offset) b good), shows)
      | inr absent ↦ inr absent
    ]

field_at : (mode : Mode) (e : ℕ) (fs : List Field) (vs : List Value) (b : List ℕ) → IsBytes b → FieldsLay mode e fs vs b → (i : ℕ) (f : Field) → slice_get fs i ≡ Some f → FieldIs mode f (nth_or value.Absent i vs)
field_at mode e [] vs b good h i f at = none_some at
field_at mode e (g ∷ gs) [] b good h i f at = absurd h
field_at mode e (g ∷ gs) (v ∷ vs) b good h zero f at = subst (λ (x : Field). FieldIs mode x v) (some_is at) (field_is mode e g v b good h.0)
field_at mode e (g ∷ gs) (v ∷ vs) b good h (suc i) f at = field_at mode (end_past e g.offset g.kind) gs vs b good h.1 i f at

pub level_field : (mode : Mode) (level : Level) (block : Block) → LevelLies mode level block → (i : ℕ) (f : Field) → slice_get (out-Level level).fields i ≡ Some f →
    FieldIs mode f (nth_or value.Absent i (out-Block block).fields)
level_field mode level block lies i f at = field_at mode 0 (out-Level level).fields (out-Block block).fields lies.front lies.front_good lies.fields i f at

-- ---- data

-- data fits its part, or it is absent
abbrev pub DataIs : DataField → DataVal → Type 0
DataIs d v = PartFits d v ⊎ (v ≡ dataval.Absent)

data_is : (order : Order) (version : ℕ) (d : DataField) (v : DataVal) (b : List ℕ) → DataLays order version d v b → DataIs d v
data_is order version d v b h = elim (one_of (is_alive version d.since) ((bytes : List ℕ) × (v ≡ dataval.Bytes bytes) × DataLies order d bytes b) ((v ≡ dataval.Absent) × (b ≡ [])) h) [
  | inl lies ↦ inl (lies.0, lies.1, lies.2.admitted)
  | inr absent ↦ inr absent.0
]

data_at : (order : Order) (version : ℕ) (ds : List DataField) (vs : List DataVal) (b : List ℕ) → IsConcatenationOfBoth (DataLays order version) ds vs b → (i : ℕ) (d : DataField) → slice_get ds i ≡ Some d →
    DataIs d (nth_or dataval.Absent i vs)
data_at order version [] vs b h i d at = none_some at
data_at order version (e ∷ es) [] b h i d at = absurd h
data_at order version (e ∷ es) (v ∷ vs) b h zero d at = subst (λ (x : DataField). DataIs x v) (some_is at) (data_is order version e v h.0 h.3)
data_at order version (e ∷ es) (v ∷ vs) b h (suc i) d at = data_at order version es vs h.1 h.4 i d at

-- ---- groups

-- a group that is there: its count is admitted, and each entry lies in bytes
pub record GroupThere (mode : Mode) (g : Group) (v : GroupVal) : Type 0 where
  pub blocks : List Block
  pub are : v ≡ groupval.Entries blocks
  pub admitted : is_admitted (out-Group g).dim (codes "numInGroup") (length blocks) ≡ true
  pub lie : Each (λ e. LevelLies mode (level_in g) e) blocks

-- a group is there or absent
abbrev pub GroupIs : Mode → Group → GroupVal → Type 0
GroupIs mode g v = GroupThere mode g v ⊎ (v ≡ groupval.Absent)

entries_lie : (mode : Mode) (level : Level) (k : ℕ) (entries : List Block) (b : List ℕ) → IsBytes b → IsConcatenation (EntryLays (λ entry e. TailLays mode level entry e) (form_of mode level) k) entries b →
    Each (λ e. LevelLies mode level e) entries
entries_lie mode level k [] b good h = tt
entries_lie mode level k (e ∷ es) b good h =
    let whole : IsBytes (h.0 ++ h.1) = subst IsBytes h.2 good in
    let own = IsBytes-front h.0 h.1 whole in (
      record {
        front = take k h.0;
        front_good = IsBytes-take k h.0 own;
        fields = h.3.1.1;
        back = drop k h.0;
        back_good = IsBytes-drop k h.0 own;
        tail = h.3.2;
      },
      entries_lie mode level k es h.1 (IsBytes-back h.0 h.1 whole) h.4,
    )

group_is : (mode : Mode) (g : Group) (v : GroupVal) (b : List ℕ) → IsBytes b → GroupLays mode g v b → GroupIs mode g v
unfolding grouped.out-Group carrier.out
group_is mode (Group' dim level) v b good h =
    elim (one_of (is_alive mode.version (out-Level level).since)
    ((entries : List Block) × (v ≡ groupval.Entries entries) × GroupLies (λ entry e. TailLays mode level entry e) (form_of mode level) dim entries b) ((v ≡ groupval.Absent) × (b ≡ [])) h) [
      | inl lies ↦
          let group = lies.2 in
          let whole : IsBytes (group.1 ++ group.2) = subst IsBytes group.3 good in
          inl (record {
            blocks = lies.0;
            are = lies.1;
            admitted = group.4.admitted;
            lie = entries_lie mode level group.0 lies.0 group.2 (IsBytes-back group.1 group.2 whole) group.5;
          })
      | inr absent ↦ inr absent.0
    ]

row_group : (mode : Mode) {n : _} (row : Row_of-Group n) (vs : List GroupVal) (b : List ℕ) → IsBytes b → GroupsLay mode row vs b → (i : ℕ) (g : Group) → slice_get (items-the_row-Group _ row) i ≡ Some g →
    GroupIs mode g (nth_or groupval.Absent i vs)
row_group mode end_of-Group vs b good h i g at = none_some at
row_group mode (more_of-Group x rest) [] b good h i g at = absurd h
row_group mode (more_of-Group x rest) (v ∷ vs) b good h zero g at =
    let whole : IsBytes (h.0 ++ h.1) = subst IsBytes h.2 good in
    subst (λ y. GroupIs mode y v) (some_is at) (group_is mode x v h.0 (IsBytes-front h.0 h.1 whole) h.3)
row_group mode (more_of-Group x rest) (v ∷ vs) b good h (suc i) g at =
    let whole : IsBytes (h.0 ++ h.1) = subst IsBytes h.2 good in
    row_group mode rest vs h.1 (IsBytes-back h.0 h.1 whole) h.4 i g at

-- ---- groups and data of a level

record TailParts (mode : Mode) (level : Level) (block : Block) : Type 0 where
  groups : (i : ℕ) (g : Group) → slice_get (groups_in level) i ≡ Some g → GroupIs mode g (nth_or groupval.Absent i (out-Block block).groups)
  parts : (i : ℕ) (d : DataField) → slice_get (out-Level level).parts i ≡ Some d → DataIs d (nth_or dataval.Absent i (out-Block block).parts)

tail_parts : (mode : Mode) (level : Level) (block : Block) (b : List ℕ) → IsBytes b → TailLays mode level block b → TailParts mode level block
unfolding levels.out-Level carrier.out
tail_parts mode (Level' name id semantic since block_length fields n groups parts) block b good h =
    let whole : IsBytes (h.0 ++ h.1) = subst IsBytes h.2 good in
    record {
      groups = row_group mode groups (out-Block block).groups h.0 (IsBytes-front h.0 h.1 whole) h.3;
      parts = data_at mode.order mode.version parts (out-Block block).parts h.1 h.4;
    }

pub level_group : (mode : Mode) (level : Level) (block : Block) → LevelLies mode level block → (i : ℕ) (g : Group) → slice_get (groups_in level) i ≡ Some g →
    GroupIs mode g (nth_or groupval.Absent i (out-Block block).groups)
level_group mode level block lies = (tail_parts mode level block lies.back lies.back_good lies.tail).groups

pub level_data : (mode : Mode) (level : Level) (block : Block) → LevelLies mode level block → (i : ℕ) (d : DataField) → slice_get (out-Level level).parts i ≡ Some d →
    DataIs d (nth_or dataval.Absent i (out-Block block).parts)
level_data mode level block lies = (tail_parts mode level block lies.back lies.back_good lies.tail).parts
