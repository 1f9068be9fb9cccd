-- What it is for one schema to extend another: old's parts stand among new's, in order, and the others are later.
-- R: what the lists of names of an enum or set are to each other.
use Rattle.std.specs.Prelude.{◌≡◌, ℕ, ◌≤◌, nat_lt, slice_get, Bool, true, false, Some, List, [], ◌∷◌, ⊤}
use Rattle.std.specs.Bool.{MatchBool}
use Rattle.sbe_types.specs.declared.kind.Named.{Named}
use Rattle.sbe_types.specs.declared.kind.Kind.{Kind, Leaf, Enum, Set, Const, Comp', Row_of-Member, end_of-Member, more_of-Member}
use Rattle.sbe_types.specs.declared.kind.Member.{Member}
use Rattle.sbe_types.specs.declared.schema.Field.{Field}
use Rattle.sbe_types.specs.declared.schema.DataField.{DataField}
use Rattle.sbe_types.specs.declared.schema.Group.{Group, Group'}
use Rattle.sbe_types.specs.declared.schema.Level.{Level, Level', out-Level, Row_of-Group, end_of-Group, more_of-Group}
use Rattle.sbe_types.specs.declared.schema.WireSchema.{WireSchema}
use Rattle.sbe_wire.specs.Faults.{message_named}
use Rattle.sbe_types.specs.Places.{is_const, begin_of, end_past}
use Rattle.version_laws.specs.Differ.{is_old, group_since}
use Rattle.version_laws.specs.Same.{lists_too}

abbrev pub Lists : Type 1
Lists = List Named → List Named → Type 0

abbrev mutual
  pub KindStands : Lists → Kind → Kind → Type 0
  KindStands R (Leaf a) (Leaf b) = a ≡ b
  KindStands R (Enum a xs) (Enum b ys) = (a ≡ b) × R xs ys
  KindStands R (Set p xs) (Set q ys) = (p ≡ q) × R xs ys
  KindStands R (Const c) (Const d) = c ≡ d
  KindStands R (Comp' n old) (Comp' k new) = RowStands R old new
  KindStands R old new = ⊥

  pub RowStands : Lists → {n : _} → Row_of-Member n → {k : _} → Row_of-Member k → Type 0
  RowStands R end_of-Member end_of-Member = ⊤
  RowStands R end_of-Member (more_of-Member name offset kind rest) = ⊥
  RowStands R (more_of-Member name offset kind rest) end_of-Member = ⊥
  RowStands R (more_of-Member name offset kind rest) (more_of-Member name' offset' kind' rest') =
      (offset ≡ offset') × KindStands R kind kind' × RowStands R rest rest'

-- lists of members after e and d, as dimensions and headers have them: names, places and types
abbrev pub MembersStand : Lists → ℕ → List Member → ℕ → List Member → Type 0
MembersStand R e [] d [] = ⊤
MembersStand R e [] d (y ∷ ys) = ⊥
MembersStand R e (x ∷ xs) d [] = ⊥
MembersStand R e (x ∷ xs) d (y ∷ ys) =
    (x.name ≡ y.name) × (is_const x.kind ≡ false → begin_of e x.offset ≡ begin_of d y.offset) × KindStands R x.kind y.kind
    × MembersStand R (end_past e x.offset x.kind) xs (end_past d y.offset y.kind) ys

-- what the test of lists says
abbrev pub Listed : Bool → Lists
Listed more xs ys = lists_too more xs ys ≡ true

-- ---- a field after fields that end at e, and one after fields that end at d

pub record FieldStands (R : Lists) (e : ℕ) (f : Field) (d : ℕ) (g : Field) : Type 0 where
  pub name : f.name ≡ g.name
  pub since : f.since ≡ g.since
  pub place : is_const f.kind ≡ false → begin_of e f.offset ≡ begin_of d g.offset
  pub kind : KindStands R f.kind g.kind

abbrev pub FieldsStand : Lists → ℕ → ℕ → List Field → ℕ → List Field → Type 0
FieldsStand R version e [] d [] = ⊤
FieldsStand R version e (f ∷ fs) d [] = ⊥
FieldsStand R version e [] d (g ∷ gs) = MatchBool (is_old version g.since) ⊥ (FieldsStand R version e [] (end_past d g.offset g.kind) gs)
FieldsStand R version e (f ∷ fs) d (g ∷ gs) =
    MatchBool (is_old version g.since)
    (FieldStands R e f d g × FieldsStand R version (end_past e f.offset f.kind) fs (end_past d g.offset g.kind) gs)
    (FieldsStand R version e (f ∷ fs) (end_past d g.offset g.kind) gs)

pub record PartStands (f g : DataField) : Type 0 where
  pub name : f.name ≡ g.name
  pub since : f.since ≡ g.since
  pub length : f.length ≡ g.length

abbrev pub PartsStand : ℕ → List DataField → List DataField → Type 0
PartsStand version [] [] = ⊤
PartsStand version (f ∷ fs) [] = ⊥
PartsStand version [] (g ∷ gs) = MatchBool (is_old version g.since) ⊥ (PartsStand version [] gs)
PartsStand version (f ∷ fs) (g ∷ gs) =
    MatchBool (is_old version g.since) (PartStands f g × PartsStand version fs gs) (PartsStand version (f ∷ fs) gs)

abbrev mutual
  pub LevelStands : Lists → ℕ → Level → Level → Type 0
  LevelStands R version (Level' _ _ _ _ _ old_fields _ old_groups old_parts) (Level' _ _ _ _ _ fields _ groups parts) =
      FieldsStand R version 0 old_fields 0 fields × GroupsStand R version old_groups groups × PartsStand version old_parts parts

  pub GroupsStand : Lists → ℕ → {n : _} → Row_of-Group n → {k : _} → Row_of-Group k → Type 0
  GroupsStand R version end_of-Group end_of-Group = ⊤
  GroupsStand R version (more_of-Group f fs) end_of-Group = ⊥
  GroupsStand R version end_of-Group (more_of-Group g gs) = MatchBool (is_old version (group_since g)) ⊥ (GroupsStand R version end_of-Group gs)
  GroupsStand R version (more_of-Group f fs) (more_of-Group g gs) =
      MatchBool (is_old version (group_since g)) (GroupStands R version f g × GroupsStand R version fs gs) (GroupsStand R version (more_of-Group f fs) gs)

  pub GroupStands : Lists → ℕ → Group → Group → Type 0
  GroupStands R version (Group' old_dim old) (Group' dim level) =
      ((out-Level old).since ≡ (out-Level level).since) × MembersStand (Listed false) 0 old_dim 0 dim × LevelStands R version old level × ((out-Level old).name ≡ (out-Level level).name)

-- each message of old has its own in new
pub record SchemaStands (old new : WireSchema) : Type 0 where
  pub id : old.id ≡ new.id
  pub order : old.order ≡ new.order
  pub header : MembersStand (Listed false) 0 old.header.members 0 new.header.members
  pub version : old.version ≤ new.version
  pub messages : (i : ℕ) (level : Level) → slice_get old.messages i ≡ Some level →
      (m : ℕ × Level) × (message_named 0 (out-Level level).id new.messages ≡ Some m) × LevelStands (Listed (nat_lt old.version new.version)) old.version level m.1
