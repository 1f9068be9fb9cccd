-- What is found of the fields of a level, at its parts. Own profile.
use Rattle.std.specs.Prelude.{◌≡◌, ◌<◌, ℕ, List, length, slice_get, Option, Some}
use Rattle.sbe_types.specs.declared.message.DataVal.{DataVal}
use Rattle.sbe_types.specs.declared.message.DataVal.TheVariants as dataval
use Rattle.sbe_types.specs.declared.message.GroupVal.{GroupVal}
use Rattle.sbe_types.specs.declared.message.Value.{Value}
use Rattle.sbe_types.specs.declared.message.Value as value
use Rattle.sbe_types.specs.declared.schema.DataField.{DataField}
use Rattle.sbe_types.specs.declared.schema.Field.{Field}
use Rattle.sbe_types.specs.declared.schema.Group.{Group, out-Group}
use Rattle.sbe_types.specs.declared.schema.Level.{Level, out-Level}
use Rattle.bridge_terms.specs.Blocks.{AreHeld}
use Rattle.bridge_terms.specs.Gathering.{count_admitted, group_in, text_at, value_found, values_of_fields}
use Rattle.bridge_terms.specs.Parts.{Part, part_at, parts_of}
use Rattle.bridge_terms.specs.Plans.{Each, Plan, Repeat, Slot, Tree, owns}
use Rattle.field_judge.specs.declared.field.AppField.{AppField}
use Rattle.field_judge.specs.declared.level.BackGroup.{BackGroup}
use Rattle.field_judge.specs.declared.level.BackLevel.{BackLevel}
use Rattle.field_judge.specs.Fields.{fields_of}
use Rattle.field_judge.specs.Heads.{group_head, heads, slot_head, AreLocated}
use Rattle.field_judge.specs.Levels.{IsLevel, IsNumbered}
use Rattle.field_blocks.specs.Blocks.{HasEntriesOf}
use Rattle.field_blocks.specs.Wired.{IsWired}

-- the parts of fields, by a level's plan
abbrev pub parts_in : Plan → List AppField → List Part
parts_in p fields = parts_of (owns p) (fields_of fields)

-- the level is one of a plan
pub record AreRowsOf (levels : List BackLevel) (p : Plan) (back : BackLevel) : Type 0 where
  pub level : IsLevel levels p back
  pub numbered : IsNumbered p

-- it is, and the places are those of its first fields
pub record AreFound (levels : List BackLevel) (p : Plan) (back : BackLevel) (places : List ℕ) (fields : List AppField) : Type 0 where
  pub rows : AreRowsOf levels p back
  pub located : AreLocated p places fields

-- the level of a group's entries is that of a plan
pub record IsGroupLevel (levels : List BackLevel) (b : BackGroup) (inner : Plan) : Type 0 where
  pub own : BackLevel
  pub there : slice_get levels b.level ≡ Some own
  pub rows : AreRowsOf levels inner own

-- ---- entries

-- what is found of a group's count field and its run
abbrev pub run_found : (g : Repeat) (inner : Plan) → Option Part → Option (List (Tree Value inner))
run_found g inner found = group_in (count_admitted g.count) g.delimiter (values_of_fields inner) found

-- the same in the parts of a level
abbrev pub entries_found : (g : Repeat) (inner : Plan) → List Part → Option (List (Tree Value inner))
entries_found g inner parts = run_found g inner (part_at g.tag parts)

-- the group of a template is that of a plan
pub record IsGroupOf (g : Repeat) (inner : Plan) (found : Group) : Type 0 where
  pub id : (out-Level (out-Group found).level).id ≡ g.tag
  pub level : (out-Group found).level ≡ g.level
  pub wired : IsWired g.level inner

-- ---- lists of values

-- each value is the one that is found for the field at its place among these
abbrev pub HoldsFields : Plan → List Part → List Field → List Value → Type 0
HoldsFields p parts own values = (k i : ℕ) (s : Slot) (f : Field) (found : Value) → i < length values → slice_get (heads p) k ≡ Some (slot_head s)
    → slice_get own i ≡ Some f → f.id ≡ s.tag → value_found s.rule (text_at s.tag parts) ≡ Some found → slice_get values i ≡ Some found

-- the same of data, which have the bytes that are found
abbrev pub HoldsData : Plan → List Part → List DataField → List DataVal → Type 0
HoldsData p parts own values = (k i : ℕ) (s : Slot) (d : DataField) (bytes : List ℕ) → i < length values → slice_get (heads p) k ≡ Some (slot_head s)
    → slice_get own i ≡ Some d → d.id ≡ s.tag → value_found s.rule (text_at s.tag parts) ≡ Some (value.Text bytes)
    → slice_get values i ≡ Some (dataval.Bytes bytes)

-- the same of groups, which have the entries that are found
abbrev pub HoldsGroups : Plan → List Part → List Group → List GroupVal → Type 0
HoldsGroups p parts own values = (k i : ℕ) (g : Repeat) (inner : Plan) (found : Group) (es : List (Tree Value inner)) → i < length values → slice_get (heads p) k ≡ Some (group_head g inner)
    → slice_get own i ≡ Some found → IsGroupOf g inner found → Each (λ e. AreHeld inner e) es → entries_found g inner parts ≡ Some es
    → (v : GroupVal) × (slice_get values i ≡ Some v) × HasEntriesOf g inner es v
