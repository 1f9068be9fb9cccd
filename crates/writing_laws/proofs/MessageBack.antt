-- A message that lies in a body at the schema's own version fits.
use Rattle.std.proofs.Common.{◌≡◌, ℕ, true, List, [], ◌∷◌, ◌++◌, take, drop, subst}
use denote.Hole.Carrier as carrier
use Rattle.byte_digits.specs.Digits.{IsBytes}
use Rattle.byte_digits.proofs.Bytes.{IsBytes-front, IsBytes-back, IsBytes-take, IsBytes-drop}
use Rattle.sbe_types.specs.declared.kind.Order.{Order}
use Rattle.sbe_types.specs.declared.schema.Level as levels
use Rattle.sbe_types.specs.declared.schema.Field.{Field}
use Rattle.sbe_types.specs.declared.schema.DataField.{DataField}
use Rattle.sbe_types.specs.declared.schema.Group.{Group, Group'}
use Rattle.sbe_types.specs.declared.schema.Level.{Level, Level', out-Level, Row_of-Group, end_of-Group, more_of-Group}
use Rattle.sbe_types.specs.declared.schema.WireSchema.{WireSchema}
use Rattle.sbe_types.specs.declared.message.Value.{Value}
use Rattle.sbe_types.specs.declared.message.Value.TheVariants as value
use Rattle.sbe_types.specs.declared.message.DataVal.{DataVal}
use Rattle.sbe_types.specs.declared.message.DataVal.TheVariants as dataval
use Rattle.sbe_types.specs.declared.message.Block.{Block, out-Block}
use Rattle.sbe_types.specs.declared.message.GroupVal.{GroupVal}
use Rattle.sbe_types.specs.declared.message.GroupVal.TheVariants as groupval
use Rattle.sbe_types.specs.declared.message.Msg.{Msg}
use Rattle.sbe_types.specs.Places.{width, begin_of, end_past}
use Rattle.sbe_types.specs.Shows.{Shows}
use Rattle.sbe_wire.specs.Versions.{own_mode, form_of}
use Rattle.sbe_wire.specs.Lays.{IsConcatenation, IsConcatenationOfBoth, FieldsLay, BlockLays, DataLies, DataLays, EntryLays, GroupLies, TailLays, GroupsLay, GroupLays, Lays}
use Rattle.sbe_wire.specs.Fits.{FieldsFit, PartFits, PartsFit, EachFits, BlockFits, GroupsFit, GroupFits, Fits}
use Rattle.sbe_wire.specs.Placed.{ArePlaced, IsPlacedLevel, ArePlacedGroups, IsPlacedGroup, IsPlaced}
use Rattle.sbe_wire.proofs.Levels.{placed_fields}
use Rattle.writing_laws.specs.Writable.{AreWritableFields, IsWritablePart, AreWritableParts, IsWritableLevel, AreWritableGroups, IsWritableGroup, IsWritable}
use Rattle.writing_laws.proofs.KindBack.{shown_fits}
use Rattle.writing_laws.proofs.Own.{alive_from, mode_own, writable_fields}

module _ (order : Order) (version : ℕ) where
  -- ---- fields

  fields_back : (e : ℕ) (fs : List Field) (vs : List Value) (b : List ℕ) → ArePlaced e fs → AreWritableFields version fs → IsBytes b → FieldsLay (own_mode order version) e fs vs b → FieldsFit order fs vs
  fields_back e [] [] b placed writable good h = tt
  fields_back e [] (v ∷ vs) b placed writable good h = absurd h
  fields_back e (f ∷ fs) [] b placed writable good h = absurd h
  fields_back e (f ∷ fs) (v ∷ vs) b placed writable good h =
      let slice : List ℕ = take (width f.kind) (drop (begin_of e f.offset) b) in
      let shows : Shows order true f.kind v slice = alive_from (Shows order true f.kind v slice) (v ≡ value.Absent) version f.since writable.1 h.0 in (
        shown_fits order f.kind placed.1 writable.0 v slice (IsBytes-take (width f.kind) (drop (begin_of e f.offset) b) (IsBytes-drop (begin_of e f.offset) b good)) shows,
        fields_back (end_past e f.offset f.kind) fs vs b placed.2 writable.2 good h.1,
      )

  -- ---- data

  part_back : (p : DataField) (v : DataVal) (b : List ℕ) → IsWritablePart version p → DataLays order version p v b → PartFits p v
  part_back p v b writable h =
      let lies = alive_from ((bytes : List ℕ) × (v ≡ dataval.Bytes bytes) × DataLies order p bytes b) ((v ≡ dataval.Absent) × (b ≡ [])) version p.since writable.known h in
      (lies.0, lies.1, lies.2.admitted)

  parts_back : (ps : List DataField) (vs : List DataVal) (b : List ℕ) → AreWritableParts version ps → IsConcatenationOfBoth (DataLays order version) ps vs b → PartsFit ps vs
  parts_back [] [] b writable h = tt
  parts_back [] (v ∷ vs) b writable h = absurd h
  parts_back (p ∷ ps) [] b writable h = absurd h
  parts_back (p ∷ ps) (v ∷ vs) b writable h = (part_back p v h.0 writable.0 h.3, parts_back ps vs h.1 writable.1 h.4)

  -- ---- entries

  each_back : {X : Type 0} (R : X → List ℕ → Type 0) (P : X → Type 0) → ((x : X) (b : List ℕ) → IsBytes b → R x b → P x) → (xs : List X) (b : List ℕ) → IsBytes b → IsConcatenation R xs b → EachFits P xs
  each_back R P each [] b good h = tt
  each_back R P each (x ∷ xs) b good h =
      let whole : IsBytes (h.0 ++ h.1) = subst IsBytes h.2 good in
      (each x h.0 (IsBytes-front h.0 h.1 whole) h.3, each_back R P each xs h.1 (IsBytes-back h.0 h.1 whole) h.4)

  -- ---- levels

  mutual
    unfolding levels.out-Level carrier.out

    pub level_back : (level : Level) → IsPlacedLevel level → IsWritableLevel version level → (block : Block) (b : List ℕ) → IsBytes b →
        FieldsFit order (out-Level level).fields (out-Block block).fields → TailLays (own_mode order version) level block b → BlockFits order level block
    level_back (Level' name id semantic since block_length fields n groups parts) placed writable block b good fit h =
        let whole : IsBytes (h.0 ++ h.1) = subst IsBytes h.2 good in
        (fit, groups_back groups placed.1 writable.2 (out-Block block).groups h.0 (IsBytes-front h.0 h.1 whole) h.3, parts_back parts (out-Block block).parts h.1 writable.3 h.4)

    groups_back : {n : _} (groups : Row_of-Group n) → ArePlacedGroups groups → AreWritableGroups version groups → (vs : List GroupVal) (b : List ℕ) → IsBytes b → GroupsLay (own_mode order version) groups vs b → GroupsFit order groups vs
    groups_back end_of-Group placed writable [] b good h = tt
    groups_back end_of-Group placed writable (v ∷ vs) b good h = absurd h
    groups_back (more_of-Group g rest) placed writable [] b good h = absurd h
    groups_back (more_of-Group g rest) placed writable (v ∷ vs) b good h =
        let whole : IsBytes (h.0 ++ h.1) = subst IsBytes h.2 good in
        (group_back g placed.0 writable.0 v h.0 (IsBytes-front h.0 h.1 whole) h.3, groups_back rest placed.1 writable.1 vs h.1 (IsBytes-back h.0 h.1 whole) h.4)

    group_back : (g : Group) → IsPlacedGroup g → IsWritableGroup version g → (v : GroupVal) (b : List ℕ) → IsBytes b → GroupLays (own_mode order version) g v b → GroupFits order g v
    group_back (Group' dim level) placed writable v b good h =
        let lies = alive_from
        ((entries : List Block) × (v ≡ groupval.Entries entries) × GroupLies (λ entry e. TailLays (own_mode order version) level entry e) (form_of (own_mode order version) level) dim entries b)
        ((v ≡ groupval.Absent) × (b ≡ [])) version (out-Level level).since writable.0 h in
        let group = lies.2 in
        let whole : IsBytes (group.1 ++ group.2) = subst IsBytes group.3 good in (
          lies.0,
          lies.1,
          group.4.admitted,
          each_back (EntryLays (λ entry e. TailLays (own_mode order version) level entry e) (form_of (own_mode order version) level) group.0) (λ entry. BlockFits order level entry)
              (λ entry e ok here. level_back level placed writable.2 entry (drop group.0 e) (IsBytes-drop group.0 e ok)
              (fields_back 0 (out-Level level).fields (out-Block entry).fields (take group.0 e) (placed_fields level placed) (writable_fields version level writable.2) (IsBytes-take group.0 e ok) here.1.1)
              here.2)
              lies.0 group.2 (IsBytes-back group.1 group.2 whole) group.5,
        )

-- ---- a message

pub lies_fits : (schema : WireSchema) → IsPlaced schema → IsWritable schema → (m : Msg) (body : List ℕ) → IsBytes body → m.version ≡ schema.version → Lays schema m body → Fits schema m
lies_fits schema placed writable m body good own h =
    let level = h.0 in
    let header = h.1 in
    let block = h.2 in
    let tail = h.3 in
    let rest = h.4 in
    let same = mode_own schema m.version own in
    let whole : IsBytes (header ++ block ++ tail ++ rest) = subst IsBytes h.6 good in
    let front : IsBytes (header ++ block ++ tail) = IsBytes-front (header ++ block ++ tail) rest whole in
    let tail_good : IsBytes tail = IsBytes-back (header ++ block) tail front in
    let block_good : IsBytes block = IsBytes-back header block (IsBytes-front (header ++ block) tail front) in
    let fields = (out-Level level).fields in
    let values = (out-Block m.block).fields in
    let mode = own_mode schema.order schema.version in
    let block_lies : BlockLays mode fields values block = subst (λ o. BlockLays o fields values block) same h.8 in
    let tail_lies : TailLays mode level m.block tail = subst (λ o. TailLays o level m.block tail) same h.9 in
    let level_placed = placed.levels m.template level h.5 in
    let level_writable = writable.levels m.template level h.5 in
    let fit = fields_back schema.order schema.version 0 fields values block (placed_fields level level_placed) (writable_fields schema.version level level_writable) block_good block_lies.1 in
    (level, h.5, own, level_back schema.order schema.version level level_placed level_writable m.block tail tail_good fit tail_lies)
