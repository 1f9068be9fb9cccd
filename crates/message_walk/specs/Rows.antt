-- The rows of a plan, and the views that it is walked over. Own profile.
use Rattle.std.specs.Prelude.{◌≡◌, ◌<◌, ℕ, List, [], ◌∷◌, ◌++◌, length, slice_get, Option, Some, None, ⊤}
use Rattle.std.specs.Fmt.{decimal}
use Rattle.sbe_types.specs.declared.kind.Kind.{Kind}
use Rattle.sbe_types.specs.declared.kind.Leaf.{Leaf as LeafOf}
use Rattle.sbe_types.specs.declared.schema.Field.{Field as FieldOf}
use Rattle.sbe_types.specs.declared.schema.DataField.{DataField}
use Rattle.sbe_types.specs.declared.schema.Group.{Group, out-Group}
use Rattle.sbe_types.specs.declared.schema.Level.{out-Level}
use Rattle.sbe_types.specs.declared.message.Block.{out-Block}
use Rattle.sbe_types.specs.declared.message.Value.{Value}
use Rattle.sbe_types.specs.declared.message.Value.TheVariants as value
use Rattle.flyweight_view.specs.TypedBlocks.{TypedBlock}
use Rattle.bridge_rules.specs.Datatypes.{Datatype}
use Rattle.bridge_rules.specs.Rules.{Rule, raw_data, text_data}
use Rattle.bridge_rules.specs.Table.{rule_of}
use Rattle.bridge_terms.specs.Parts.{TagLists}
use Rattle.bridge_terms.specs.Plans.{Plan, Place, in_fields, in_data, Slot, done, single, group}
use Rattle.bridge_terms.specs.Blocks.{nth_or, values_of}
use Rattle.bridge_terms.specs.MessageFields.{begins, length_in}
use Rattle.bridge_terms.specs.Places.{Places, begun_places, places_of, no_places, then_places, place_of, entries_places}
use Rattle.message_walk.specs.declared.plan.PlanRow.{PlanRow}
use Rattle.message_walk.specs.declared.plan.Part.{Part}
use Rattle.message_walk.specs.declared.plan.Part.TheVariants as part

-- ---- rows

-- the rule is that of raw data
pub record IsRaw (rule : Rule) : Type 0 where
  pub leaf : LeafOf
  pub is : rule ≡ raw_data leaf

-- the rule is that of data as a text
pub record IsPassage (rule : Rule) : Type 0 where
  pub leaf : LeafOf
  pub is : rule ≡ text_data leaf

-- the row's part is the field or data part of a slot; `lead`: the tag of its length field, if it has one
abbrev pub IsSlotAt : {R : Type 0} → (R → Rule → Type 0) → Option ℕ → Slot → ℕ → Part R → Type 0
IsSlotAt spells lead s n (part.Field by) = (s.place ≡ in_fields n) × (lead ≡ None) × spells by s.rule
IsSlotAt spells lead s n (part.Data (Some own)) = (s.place ≡ in_data n) × (lead ≡ Some own) × IsRaw s.rule
IsSlotAt spells lead s n (part.Data None) = (s.place ≡ in_data n) × (lead ≡ None) × IsPassage s.rule
IsSlotAt spells lead s n (part.Group size) = ⊥

-- how many rows a group's entries have
abbrev pub size_of : {R : Type 0} → Part R → Option ℕ
size_of (part.Field by) = None
size_of (part.Data lead) = None
size_of (part.Group size) = Some size

-- the rows are those of the plan: one for each place, with those of a group's entries after the group's
abbrev pub AreRows : {R : Type 0} → (R → Rule → Type 0) → TagLists → Plan → List (PlanRow R) → Type 0
AreRows spells lists done rows = rows ≡ []
AreRows spells lists (single s rest) rows =
    (r : PlanRow _) × (others : List (PlanRow _)) × (rows ≡ r ∷ others) × (r.lead ≡ s.tag)
    × IsSlotAt spells (length_in s.tag lists.lengths) s r.number r.part × AreRows spells lists rest others
AreRows spells lists (group g inner rest) rows =
    (r : PlanRow _) × (own : List (PlanRow _)) × (others : List (PlanRow _)) × (rows ≡ r ∷ (own ++ others)) × (r.lead ≡ g.tag)
    × (r.number ≡ g.place) × (length_in g.tag lists.lengths ≡ None) × (size_of r.part ≡ Some (length own))
    × AreRows spells lists inner own × AreRows spells lists rest others

-- the rule is that of a kind and a datatype by the table
pub record IsByTable (k : Kind) (rule : Rule) : Type 0 where
  pub datatype : Datatype
  pub is : rule_of k datatype ≡ Some rule

-- the rule is one for the field with this number
pub record IsForField (rule : Rule) (i : ℕ) (fields : List FieldOf) : Type 0 where
  pub field : FieldOf
  pub there : slice_get fields i ≡ Some field
  pub by_table : IsByTable field.kind rule

-- the place is one of a level with these fields and data, and the rule is one for it
abbrev pub IsThere : Rule → Place → List FieldOf → List DataField → Type 0
IsThere rule (in_fields i) fields parts = IsForField rule i fields
IsThere rule (in_data i) fields parts = i < length parts

-- the places of the plan are some of those of a level with these parts
abbrev pub Fits : Plan → List FieldOf → List Group → List DataField → Type 0
Fits done fields groups parts = ⊤
Fits (single s rest) fields groups parts = IsThere s.rule s.place fields parts × Fits rest fields groups parts
Fits (group g inner rest) fields groups parts =
    ((found : Group) × (slice_get groups g.place ≡ Some found)
    × Fits inner (out-Level (out-Group found).level).fields (out-Level (out-Group found).level).groups (out-Level (out-Group found).level).parts)
    × Fits rest fields groups parts

-- the same for what a view of a level shows
abbrev pub FitsBlock : Plan → TypedBlock → Type 0
FitsBlock p seen = Fits p seen.fields seen.groups seen.parts

-- ---- views

-- the value of the field with this number
abbrev pub field_of : TypedBlock → ℕ → Value
field_of seen i = nth_or value.Absent i (out-Block seen.block).fields

-- the value of the data that a view shows
abbrev pub value_of_bytes : Option (List ℕ) → Value
value_of_bytes None = value.Absent
value_of_bytes (Some bytes) = value.Text bytes

-- the entries that a view shows
abbrev pub entries_shown : Option (List TypedBlock) → List TypedBlock
entries_shown None = []
entries_shown (Some es) = es

-- the places of an entry that a view shows
abbrev pub entry_places : Plan → TypedBlock → Places
entry_places p e = begun_places (begins p (values_of p e.block)) (places_of p (values_of p e.block))

-- the places of a group's count and its entries, without the step to the group
abbrev pub run_inside : {X : Type 0} → ℕ → (X → Places) → List X → Places
run_inside tag entry [] = no_places
run_inside tag entry (e ∷ es) = then_places (place_of tag (decimal (length (e ∷ es)))) (entries_places entry 0 (e ∷ es))
