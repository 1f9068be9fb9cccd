-- What a level has for a tag, and the rows that precede those of a plan. Own profile.
use Rattle.std.specs.Prelude.{◌≡◌, ℕ, Bool, true, false, List, [], ◌∷◌, ◌++◌, map, length, Option, Some, None, ⊤}
use Rattle.std.specs.Borrow.{Bor}
use Rattle.structure_rows.specs.declared.row.PlaceRow.{PlaceRow}
use Rattle.sbe_types.specs.declared.kind.Kind.{Kind, Leaf, Enum, Set, Const, Comp'}
use Rattle.sbe_types.specs.declared.schema.Field.{Field}
use Rattle.sbe_types.specs.declared.schema.DataField.{DataField}
use Rattle.sbe_types.specs.declared.schema.Group.{Group, out-Group}
use Rattle.sbe_types.specs.declared.schema.Level.{Level, out-Level}
use Rattle.reference_graph.specs.Expansion.{Structure}
use Rattle.bridge_rules.specs.Rules.{Rule}
use Rattle.bridge_rules.specs.Members.{and_then}
use Rattle.bridge_rules.specs.Table.{rule_of, data_rule}
use Rattle.bridge_terms.specs.MessageFields.{length_in}
use Rattle.bridge_terms.specs.Parts.{TagLists}
use Rattle.bridge_terms.specs.Plans.{Plan, Slot, in_fields, in_data}
use Rattle.bridge_plan.specs.Mappings.{Mapping, datatype_of}
use Rattle.bridge_plan.specs.Covers.{group_before, group_of, groups_in, plan_of}
use Rattle.message_walk.specs.declared.plan.PlanRow.{PlanRow}
use Rattle.message_walk.specs.Rows.{size_of, AreRows, IsSlotAt}
use Rattle.plan_rows.specs.declared.found.Found.{Found as FoundRow}
use Rattle.plan_rows.specs.declared.found.Found.TheVariants as found
use Rattle.plan_rows.specs.declared.ids.LevelIds.{LevelIds}

-- ---- ids

-- the id of a group
abbrev pub group_id : Group → ℕ
group_id g = (out-Level (out-Group g).level).id

-- the ids are those of the level's parts
pub record HasIds (level : Level) (ids : LevelIds) : Type 0 where
  pub fields : ids.fields ≡ map (λ (f : Field). f.id) (out-Level level).fields
  pub parts : ids.parts ≡ map (λ (d : DataField). d.id) (out-Level level).parts
  pub groups : ids.groups ≡ map group_id (out-Level level).groups

-- ---- a field or data

-- the slot of a field, by its rule
abbrev pub field_slot_with : ℕ → ℕ → Rule → Slot
field_slot_with tag i rule = record { tag = tag; place = in_fields i; rule = rule }

-- the slot of a data part, by its rule
abbrev pub data_slot_with : ℕ → ℕ → Rule → Slot
data_slot_with tag i rule = record { tag = tag; place = in_data i; rule = rule }

-- the slot of a field with this kind, if the table has a rule for it
abbrev pub field_slot_by : Mapping → ℕ → ℕ → Kind → Option Slot
field_slot_by m tag i kind = and_then (rule_of kind (datatype_of m tag)) (λ rule. Some (field_slot_with tag i rule))

-- the same for a data part
abbrev pub data_slot_by : Mapping → ℕ → ℕ → DataField → Option Slot
data_slot_by m tag i d = and_then (data_rule d (datatype_of m tag)) (λ rule. Some (data_slot_with tag i rule))

-- what was found is the slot, if there is one; nothing is required of one that can't be made
abbrev pub IsFound : {R : Type 0} → (R → Rule → Type 0) → TagLists → Option Slot → FoundRow R → Type 0
IsFound follows lists o found.Nothing = o ≡ None
IsFound follows lists o (found.Row r) =
    (s : Slot) × (o ≡ Some s) × (r.lead ≡ s.tag) × IsSlotAt follows (length_in s.tag lists.lengths) s r.number r.part
IsFound follows lists o found.Unmade = ⊤

-- the rows of what was found
abbrev pub found_rows : {R : Type 0} → FoundRow R → Option (List (PlanRow R))
found_rows found.Nothing = Some []
found_rows (found.Row r) = Some (r ∷ [])
found_rows found.Unmade = None

-- ---- rows before others

-- with these rows before them, the rows of one plan become the rows of another
pub record Goes {R : Type 0} (follows : R → Rule → Type 0) (lists : TagLists) (whole rest : Plan) (rows : List (PlanRow R)) : Type 0 where
  pub front : (others : List (PlanRow R)) → AreRows follows lists rest others → AreRows follows lists whole (rows ++ others)

-- the rows are those of parts that are put before a plan, whatever it is
abbrev pub AreFront : {R : Type 0} → (R → Rule → Type 0) → TagLists → (Plan → Plan) → List (PlanRow R) → Type 0
AreFront follows lists before rows = (p : Plan) → Goes follows lists (before p) p rows

-- ---- groups

-- the group with this tag, by the places of its entries, before the rest of a plan
abbrev pub group_front : Mapping → ℕ → Structure → Level → Plan → Plan
group_front m tag inner level rest = group_before (group_of tag 0 (groups_in level)) tag inner (λ below. plan_of m inner below) rest

-- the rows are that of a group and those of its entries
pub record AreGroupRows {R : Type 0} (lists : TagLists) (tag number : ℕ) (entries rows : List (PlanRow R)) : Type 0 where
  pub own : PlanRow R
  pub whole : rows ≡ own ∷ entries
  pub tagged : own.lead ≡ tag
  pub numbered : own.number ≡ number
  pub size : size_of own.part ≡ Some (length entries)
  pub unpaired : length_in tag lists.lengths ≡ None

-- how many rows of places a group's entries have
abbrev pub own_length : Option (Bor (List PlaceRow)) → ℕ
own_length None = 0
own_length (Some places) = length places.now

-- the kind is a leaf
abbrev pub is_leaf : Kind → Bool
is_leaf (Leaf l) = true
is_leaf (Enum l names) = false
is_leaf (Set p names) = false
is_leaf (Const c) = false
is_leaf (Comp' n members) = false
