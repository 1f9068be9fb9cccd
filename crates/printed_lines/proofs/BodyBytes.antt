-- The texts and the data of a message that lies in bytes are made of bytes.
use Rattle.std.proofs.Common.{◌≡◌, ◌+◌, ℕ, Bool, true, false, cond, Option, Some, None, List, [], ◌∷◌, ◌++◌, take, drop, sym, ap, ◌∙◌, subst}
use Rattle.std.specs.Prelude.{◌&&◌, ℤ, if◌then◌else◌}
use Rattle.std.specs.Bool.{MatchBool}
use Rattle.std.specs.List.{AllByRecursion}
use denote.Hole.Carrier as carrier
use Rattle.byte_digits.specs.Digits.{IsBytes}
use Rattle.byte_digits.proofs.Bytes.{IsBytes-front, IsBytes-back, IsBytes-take, IsBytes-drop}
use Rattle.sbe_types.specs.declared.kind.Order.{Order}
use Rattle.sbe_types.specs.declared.kind.LeafShape.{LeafShape}
use Rattle.sbe_types.specs.declared.kind.LeafShape.TheVariants.{Number, RangedText, EncodedText, Octets, Numbers}
use Rattle.sbe_types.specs.declared.kind.Leaf.{Leaf as LeafOf}
use Rattle.sbe_types.specs.declared.kind.Kind.{Kind, Leaf, Enum, Set, Const, Comp', Row_of-Member, end_of-Member, more_of-Member}
use Rattle.sbe_types.specs.declared.schema.Level as levels
use Rattle.sbe_types.specs.declared.schema.Field.{Field}
use Rattle.sbe_types.specs.declared.schema.DataField.{DataField}
use Rattle.sbe_types.specs.declared.schema.Group.{Group, Group'}
use Rattle.sbe_types.specs.declared.schema.Level.{Level, Level', out-Level, Row_of-Group, end_of-Group, more_of-Group}
use Rattle.sbe_types.specs.declared.message.Value.{Value, items_hidden-the_row-Value-0}
use Rattle.sbe_types.specs.declared.message.Value.TheVariants as value
use Rattle.sbe_types.specs.declared.message.DataVal.{DataVal}
use Rattle.sbe_types.specs.declared.message.DataVal.TheVariants as dataval
use Rattle.sbe_types.specs.declared.message.Block.{Block, out-Block}
use Rattle.sbe_types.specs.declared.message.GroupVal.{GroupVal, items_hidden-the_row-Block-1}
use Rattle.sbe_types.specs.declared.message.GroupVal.TheVariants as groupval
use Rattle.sbe_types.specs.Numbers.{number_of}
use Rattle.sbe_types.specs.Places.{width, is_const, begin_of, end_past}
use Rattle.sbe_types.specs.Shown.{is_null, is_optional, admits}
use Rattle.sbe_types.specs.Shows.{Shows, MembersShow, ShowsLeaf, ShowsText, is_empty}
use Rattle.sbe_types.specs.Wire.{member_values}
use Rattle.sbe_wire.specs.declared.mode.Mode.{Mode}
use Rattle.sbe_wire.specs.Versions.{is_alive, form_of, mode_of}
use Rattle.sbe_wire.specs.Lays.{IsConcatenation, IsConcatenationOfBoth, FieldsLay, DataLies, DataLays, EntryLays, GroupLies, TailLays, GroupsLay, GroupLays}
use Rattle.sbe_wire.specs.Fits.{EachFits}
use Rattle.tree_json.specs.Lines.{entries_in}
use Rattle.line_laws.specs.ValuesBack.{TextHasBytes, HasBytes, RowHasBytes}
use Rattle.line_laws.specs.LinesBack.{FieldsHaveBytes, PartHasBytes, EachThere, BlockHasBytes, GroupsHaveBytes, GroupHasBytes}
use Rattle.printed_lines.specs.ByteConstants.{HasByteConstants, HaveByteConstants, IsByteField, IsByteLevel, AreByteGroups, IsByteGroup, LiesInBytes}

some_is : {a b : Value} → ◌≡◌ {A = Option Value} (Some a) (Some b) → a ≡ b
some_is h = cc

none_some : {a : Value} → ◌≡◌ {A = Option Value} None (Some a) → ⊥
none_some h = cc

-- ---- a leaf

number_by : (t u : Bool) (n : ℤ) (v : Value) → cond t (Some value.Null) (cond u (Some (value.Num n)) None) ≡ Some v → TextHasBytes v
number_by true u n v h = subst TextHasBytes (some_is h) tt
number_by false true n v h = subst TextHasBytes (some_is h) tt
number_by false false n v h = absurd (none_some h)

text_by : (t : Bool) (text : List ℕ) → IsBytes text → TextHasBytes (cond t value.Null (value.Text text))
text_by true text h = tt
text_by false text h = h

text_bytes : (leaf : LeafOf) (v : Value) (b : List ℕ) → IsBytes b → ShowsText leaf v b → TextHasBytes v
text_bytes leaf v b good h =
    let front : IsBytes h.0 = IsBytes-front h.0 h.1 (subst IsBytes h.2 good) in
    subst TextHasBytes (sym h.5) (text_by (is_optional leaf.presence && is_empty h.0) h.0 front)

leaf_bytes : (order : Order) (s : LeafShape) (leaf : LeafOf) (v : Value) (b : List ℕ) → IsBytes b → ShowsLeaf order s leaf v b → TextHasBytes v
leaf_bytes order Number leaf v b good h = number_by (is_null leaf (number_of order leaf.prim b)) (admits leaf (number_of order leaf.prim b)) (number_of order leaf.prim b) v h
leaf_bytes order RangedText leaf v b good h = text_bytes leaf v b good h
leaf_bytes order EncodedText leaf v b good h = text_bytes leaf v b good h
leaf_bytes order Octets leaf v b good h = subst TextHasBytes (sym h.1) tt
leaf_bytes order Numbers leaf v b good h = subst TextHasBytes (sym h.1) tt

-- ---- a kind

mutual
  kind_bytes : (order : Order) (known : Bool) (kind : Kind) → HasByteConstants kind → (v : Value) (b : List ℕ) → IsBytes b → Shows order known kind v b → HasBytes kind v
  kind_bytes order known (Leaf l) constants v b good h = leaf_bytes order l.shape l v b good h.1
  kind_bytes order known (Enum l names) constants v b good h = tt
  kind_bytes order known (Set p names) constants v b good h = tt
  kind_bytes order known (Const c) constants v b good h = constants
  kind_bytes order known (Comp' n members) constants v b good h =
      let values : List Value = h.1.0 in
      let there : member_values v ≡ Some values = ap member_values h.1.1 ∙ ap Some (items_hidden-the_row-Value-0 values) in
      subst (RowHasBytes members) (sym there) (row_bytes order known 0 members constants values b good h.1.2)

  row_bytes : (order : Order) (known : Bool) (e : ℕ) {n : _} (row : Row_of-Member n) → HaveByteConstants row → (vs : List Value) (b : List ℕ) → IsBytes b → MembersShow order known e row vs b → RowHasBytes row (Some vs)
  row_bytes order known e end_of-Member constants [] b good h = tt
  row_bytes order known e end_of-Member constants (v ∷ vs) b good h = absurd h
  row_bytes order known e (more_of-Member name offset kind rest) constants [] b good h = tt
  row_bytes order known e (more_of-Member name offset kind rest) constants (v ∷ vs) b good h =
      let slice : List ℕ = take (width kind) (drop (begin_of e offset) b) in (
        kind_bytes order known kind constants.0 v slice (IsBytes-take (width kind) (drop (begin_of e offset) b) (IsBytes-drop (begin_of e offset) b good)) h.0,
        row_bytes order known (if is_const kind then e else begin_of e offset + width kind) rest constants.1 vs b good h.1,
      )

-- the constants of a kind alone
mutual
  absent_bytes : (kind : Kind) → HasByteConstants kind → HasBytes kind value.Absent
  absent_bytes (Leaf l) constants = tt
  absent_bytes (Enum l names) constants = tt
  absent_bytes (Set p names) constants = tt
  absent_bytes (Const c) constants = constants
  absent_bytes (Comp' n members) constants = none_bytes members

  none_bytes : {n : _} (row : Row_of-Member n) → RowHasBytes row None
  none_bytes end_of-Member = tt
  none_bytes (more_of-Member name offset kind rest) = tt

-- ---- fields, data

field_by : (t : Bool) (kind : Kind) (v : Value) (P : Type 0) → HasByteConstants kind → (P → HasBytes kind v) → MatchBool t P (v ≡ value.Absent) → HasBytes kind v
field_by true kind v P constants shows h = shows h
field_by false kind v P constants shows h = subst (HasBytes kind) (sym h) (absent_bytes kind constants)

fields_bytes : (mode : Mode) (e : ℕ) (fs : List Field) (vs : List Value) (b : List ℕ) → AllByRecursion IsByteField fs → IsBytes b → FieldsLay mode e fs vs b → FieldsHaveBytes fs vs
fields_bytes mode e [] vs b constants good h = tt
fields_bytes mode e (f ∷ fs) [] b constants good h = absurd h
fields_bytes mode e (f ∷ fs) (v ∷ vs) b constants good h =
    let slice : List ℕ = take (width f.kind) (drop (begin_of e f.offset) b) in
    let bytes : IsBytes slice = IsBytes-take (width f.kind) (drop (begin_of e f.offset) b) (IsBytes-drop (begin_of e f.offset) b good) in (
      field_by (is_alive mode.version f.since) f.kind v (Shows mode.order mode.known f.kind v slice) constants.0 (λ shows. kind_bytes mode.order mode.known f.kind constants.0 v slice bytes shows) h.0,
      fields_bytes mode (end_past e f.offset f.kind) fs vs b constants.1 good h.1,
    )

part_by : (t : Bool) (order : Order) (p : DataField) (v : DataVal) (b : List ℕ) → IsBytes b
    → MatchBool t ((bytes : List ℕ) × (v ≡ dataval.Bytes bytes) × DataLies order p bytes b) ((v ≡ dataval.Absent) × (b ≡ [])) → PartHasBytes v
part_by true order p v b good h = subst PartHasBytes (sym h.1) (IsBytes-back h.2.before h.0 (subst IsBytes h.2.whole good))
part_by false order p v b good h = subst PartHasBytes (sym h.0) tt

parts_bytes : (order : Order) (version : ℕ) (ps : List DataField) (vs : List DataVal) (b : List ℕ) → IsBytes b → IsConcatenationOfBoth (DataLays order version) ps vs b → AllByRecursion PartHasBytes vs
parts_bytes order version [] [] b good h = tt
parts_bytes order version [] (v ∷ vs) b good h = absurd h
parts_bytes order version (p ∷ ps) [] b good h = absurd h
parts_bytes order version (p ∷ ps) (v ∷ vs) b good h =
    let whole : IsBytes (h.0 ++ h.1) = subst IsBytes h.2 good in (
      part_by (is_alive version p.since) order p v h.0 (IsBytes-front h.0 h.1 whole) h.3,
      parts_bytes order version ps vs h.1 (IsBytes-back h.0 h.1 whole) h.4,
    )

-- ---- entries

each_bytes : {X : Type 0} (R : X → List ℕ → Type 0) (P : X → Type 0) → ((x : X) (b : List ℕ) → IsBytes b → R x b → P x) → (xs : List X) (b : List ℕ) → IsBytes b → IsConcatenation R xs b → EachFits P xs
each_bytes R P each [] b good h = tt
each_bytes R P each (x ∷ xs) b good h =
    let whole : IsBytes (h.0 ++ h.1) = subst IsBytes h.2 good in
    (each x h.0 (IsBytes-front h.0 h.1 whole) h.3, each_bytes R P each xs h.1 (IsBytes-back h.0 h.1 whole) h.4)

-- ---- levels

byte_fields : (level : Level) → IsByteLevel level → AllByRecursion IsByteField (out-Level level).fields
unfolding levels.out-Level carrier.out
byte_fields (Level' name id semantic since block_length fields n groups parts) h = h.0

module _ (mode : Mode) where
  -- the bytes of each entry's tail, where its fields are made of bytes
  abbrev Below : Level → Type 0
  Below level =
      (entry : Block) (b : List ℕ) → IsBytes b → FieldsHaveBytes (out-Level level).fields (out-Block entry).fields → TailLays mode level entry b → BlockHasBytes level entry

  group_by : (t : Bool) (dim : _) (level : Level) → IsByteLevel level → Below level → (v : GroupVal) (b : List ℕ) → IsBytes b
      → MatchBool t
      ((entries : List Block) × (v ≡ groupval.Entries entries) × GroupLies (λ entry e. TailLays mode level entry e) (form_of mode level) dim entries b)
      ((v ≡ groupval.Absent) × (b ≡ [])) → EachThere (λ entry. BlockHasBytes level entry) (entries_in v)
  group_by false dim level constants below v b good h = subst (λ x. EachThere (λ entry. BlockHasBytes level entry) (entries_in x)) (sym h.0) tt
  group_by true dim level constants below v b good h =
      let entries : List Block = h.0 in
      let group = h.2 in
      let whole : IsBytes (group.1 ++ group.2) = subst IsBytes group.3 good in
      let there : entries_in v ≡ Some entries = ap entries_in h.1 ∙ ap Some (items_hidden-the_row-Block-1 entries) in
      subst (EachThere (λ entry. BlockHasBytes level entry)) (sym there)
      (each_bytes (EntryLays (λ entry e. TailLays mode level entry e) (form_of mode level) group.0) (λ entry. BlockHasBytes level entry)
      (λ entry e ok here. below entry (drop group.0 e) (IsBytes-drop group.0 e ok)
      (fields_bytes mode 0 (out-Level level).fields (out-Block entry).fields (take group.0 e) (byte_fields level constants) (IsBytes-take group.0 e ok) here.1.1)
      here.2)
      entries group.2 (IsBytes-back group.1 group.2 whole) group.5)

  mutual
    unfolding levels.out-Level carrier.out

    level_bytes : (level : Level) → IsByteLevel level → Below level
    level_bytes (Level' name id semantic since block_length fields n groups parts) constants block b good own h =
        let whole : IsBytes (h.0 ++ h.1) = subst IsBytes h.2 good in
        (own, groups_bytes groups constants.1 (out-Block block).groups h.0 (IsBytes-front h.0 h.1 whole) h.3, parts_bytes mode.order mode.version parts (out-Block block).parts h.1 (IsBytes-back h.0 h.1 whole) h.4)

    groups_bytes : {n : _} (groups : Row_of-Group n) → AreByteGroups groups → (vs : List GroupVal) (b : List ℕ) → IsBytes b → GroupsLay mode groups vs b → GroupsHaveBytes groups vs
    groups_bytes end_of-Group constants vs b good h = tt
    groups_bytes (more_of-Group g rest) constants [] b good h = absurd h
    groups_bytes (more_of-Group g rest) constants (v ∷ vs) b good h =
        let whole : IsBytes (h.0 ++ h.1) = subst IsBytes h.2 good in
        (group_bytes g constants.0 v h.0 (IsBytes-front h.0 h.1 whole) h.3, groups_bytes rest constants.1 vs h.1 (IsBytes-back h.0 h.1 whole) h.4)

    group_bytes : (g : Group) → IsByteGroup g → (v : GroupVal) (b : List ℕ) → IsBytes b → GroupLays mode g v b → GroupHasBytes g v
    group_bytes (Group' dim level) constants v b good h =
        group_by (is_alive mode.version (out-Level level).since) dim level constants (λ entry e ok own here. level_bytes level constants entry e ok own here) v b good h

-- ---- a message

some_level : {a b : Level} → ◌≡◌ {A = Option Level} (Some a) (Some b) → a ≡ b
some_level h = cc

pub lies_in_bytes : LiesInBytes
lies_in_bytes schema m body level at constants good h =
    let header = h.1 in
    let block = h.2 in
    let tail = h.3 in
    let rest = h.4 in
    let mode = mode_of schema m.version in
    let same : h.0 ≡ level = some_level (sym h.5 ∙ at) in
    let whole : IsBytes (header ++ block ++ tail ++ rest) = subst IsBytes h.6 good in
    let front : IsBytes (header ++ block ++ tail) = IsBytes-front (header ++ block ++ tail) rest whole in
    let tail_good : IsBytes tail = IsBytes-back (header ++ block) tail front in
    let block_good : IsBytes block = IsBytes-back header block (IsBytes-front (header ++ block) tail front) in
    let own_constants : IsByteLevel h.0 = subst IsByteLevel (sym same) constants in
    let own = fields_bytes mode 0 (out-Level h.0).fields (out-Block m.block).fields block (byte_fields h.0 own_constants) block_good h.8.1 in
    subst (λ l. BlockHasBytes l m.block) same (level_bytes mode h.0 own_constants m.block tail tail_good own h.9)
