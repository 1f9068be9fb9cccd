-- A message's block, and its values in the order of the structure. From SBE 1.0, Message structure.
use Rattle.std.specs.Prelude.{◌≡◌, ◌<◌, ⊤, true, false, ℕ, zero, suc, ◌==◌, if◌then◌else◌, List, [], ◌∷◌, ◌++◌, length, map, Option, Some, None}
use Rattle.sbe_types.specs.declared.schema.Level.{Level, out-Level}
use Rattle.sbe_types.specs.declared.message.Value.{Value}
use Rattle.sbe_types.specs.declared.message.Value as value
use Rattle.sbe_types.specs.declared.message.DataVal.{DataVal}
use Rattle.sbe_types.specs.declared.message.DataVal.TheVariants as dataval
use Rattle.sbe_types.specs.declared.message.Block.{Block, out-Block}
use Rattle.sbe_types.specs.declared.message.GroupVal.{GroupVal, items-the_row-Block}
use Rattle.sbe_types.specs.declared.message.GroupVal as groupval
use Rattle.bridge_rules.specs.Members.{text_in}
use Rattle.bridge_rules.specs.Good.{Good}
use Rattle.tagvalue_codec.specs.Fields.{Field}
use Rattle.bridge_terms.specs.WayBack.{IsBack}
use Rattle.bridge_terms.specs.Plans.{Plan, Place, Tree, Each, is_in, done, single, group, in_fields, in_data}

-- ---- from a block

-- the item with an index, or another if there is none
abbrev pub nth_or : {X : Type 0} → X → ℕ → List X → X
nth_or none n [] = none
nth_or none zero (x ∷ xs) = x
nth_or none (suc n) (x ∷ xs) = nth_or none n xs

-- data as the text of its bytes
abbrev pub data_value : DataVal → Value
data_value dataval.Absent = value.Absent
data_value (dataval.Bytes bytes) = value.Text bytes

-- the entries of a group
abbrev pub entries_of : GroupVal → List Block
entries_of groupval.Absent = []
entries_of (groupval.Entries' n row) = items-the_row-Block _ row

-- the value at a place
abbrev pub value_at : Place → Block → Value
value_at (in_fields i) block = nth_or value.Absent i (out-Block block).fields
value_at (in_data i) block = data_value (nth_or dataval.Absent i (out-Block block).parts)

-- the values of a block in the order of the structure
abbrev pub values_of : (p : Plan) → Block → Tree Value p
values_of done block = tt
values_of (single s rest) block = (value_at s.place block, values_of rest block)
values_of (group g inner rest) block =
    (map (λ entry. values_of inner entry) (entries_of (nth_or groupval.Absent g.place (out-Block block).groups)), values_of rest block)

-- ---- to a block

-- what is at the places of a level, in any order
pub record PlacedValues : Type 0 where
  pub fields : List (ℕ × Value)
  pub groups : List (ℕ × GroupVal)
  pub parts : List (ℕ × DataVal)

-- the data with these bytes; absent without bytes
abbrev pub data_of : Option (List ℕ) → DataVal
data_of None = dataval.Absent
data_of (Some bytes) = dataval.Bytes bytes

-- the placed values, with a field or data part at its place
abbrev pub with_slot : Place → Value → PlacedValues → PlacedValues
with_slot (in_fields i) v filled = record filled { fields = (i, v) ∷ filled.fields }
with_slot (in_data i) v filled = record filled { parts = (i, data_of (text_in v)) ∷ filled.parts }

-- the placed values, with a group at its place
abbrev pub with_group : ℕ → GroupVal → PlacedValues → PlacedValues
with_group i v filled = record filled { groups = (i, v) ∷ filled.groups }

-- what is placed at a number
abbrev pub at_number : {X : Type 0} → X → ℕ → List (ℕ × X) → X
at_number none i [] = none
at_number none i (x ∷ xs) = if x.0 == i then x.1 else at_number none i xs

-- what is placed at n numbers from i on
abbrev pub in_numbers : {X : Type 0} → X → ℕ → ℕ → List (ℕ × X) → List X
in_numbers none zero i xs = []
in_numbers none (suc n) i xs = at_number none i xs ∷ in_numbers none n (suc i) xs

-- the block of a level with the placed values
abbrev pub block_with : Level → PlacedValues → Block
block_with level filled = record {
  fields = in_numbers value.Absent (length (out-Level level).fields) 0 filled.fields;
  groups = in_numbers groupval.Absent (length (out-Level level).groups) 0 filled.groups;
  parts = in_numbers dataval.Absent (length (out-Level level).parts) 0 filled.parts;
}

-- the values of a plan at their places
abbrev pub placed_values : (p : Plan) → Tree Value p → PlacedValues
placed_values done t = record { fields = []; groups = []; parts = [] }
placed_values (single s rest) t = with_slot s.place t.0 (placed_values rest t.1)
placed_values (group g inner rest) t =
    with_group g.place (groupval.Entries (map (λ e. block_with g.level (placed_values inner e)) t.0)) (placed_values rest t.1)

-- the block with these values
abbrev pub block_of : Level → (p : Plan) → Tree Value p → Block
block_of level p t = block_with level (placed_values p t)

-- ---- blocks and plans that match

-- the number of a field, if it is one
abbrev pub field_number : Place → List ℕ
field_number (in_fields i) = i ∷ []
field_number (in_data i) = []

-- the number of a data part, if it is one
abbrev pub data_number : Place → List ℕ
data_number (in_fields i) = []
data_number (in_data i) = i ∷ []

-- the numbers of the fields that have a place in a plan
abbrev pub field_places : Plan → List ℕ
field_places done = []
field_places (single s rest) = field_number s.place ++ field_places rest
field_places (group g inner rest) = field_places rest

-- the numbers of the data that have a place in a plan
abbrev pub data_places : Plan → List ℕ
data_places done = []
data_places (single s rest) = data_number s.place ++ data_places rest
data_places (group g inner rest) = data_places rest

-- the numbers of the groups that have a place in a plan
abbrev pub group_places : Plan → List ℕ
group_places done = []
group_places (single s rest) = group_places rest
group_places (group g inner rest) = g.place ∷ group_places rest

-- each of n parts has a place
abbrev pub HasAll : ℕ → List ℕ → Type 0
HasAll n places = (i : ℕ) → i < n → is_in i places ≡ true

-- each part of the level has a place in the plan
pub record IsComplete (level : Level) (p : Plan) : Type 0 where
  pub fields : HasAll (length (out-Level level).fields) (field_places p)
  pub groups : HasAll (length (out-Level level).groups) (group_places p)
  pub parts : HasAll (length (out-Level level).parts) (data_places p)

-- the same for the levels of its groups
abbrev pub AreComplete : Plan → Type 0
AreComplete done = ⊤
AreComplete (single s rest) = AreComplete rest
AreComplete (group g inner rest) = IsComplete g.level inner × AreComplete inner × AreComplete rest

-- the block has as many values as the level has parts
pub record HasLengths (level : Level) (block : Block) : Type 0 where
  pub fields : length (out-Block block).fields ≡ length (out-Level level).fields
  pub groups : length (out-Block block).groups ≡ length (out-Level level).groups
  pub parts : length (out-Block block).parts ≡ length (out-Level level).parts

-- each group has its entries, which have as many values as their level has parts
abbrev pub HasEntries : Plan → Block → Type 0
HasEntries done block = ⊤
HasEntries (single s rest) block = HasEntries rest block
HasEntries (group g inner rest) block =
    ((entries : List Block) × (nth_or groupval.Absent g.place (out-Block block).groups ≡ groupval.Entries entries)
    × Each (λ e. HasLengths g.level e × HasEntries inner e) entries)
    × HasEntries rest block

-- no number occurs twice
abbrev pub AreApart : List ℕ → Type 0
AreApart [] = ⊤
AreApart (n ∷ ns) = (is_in n ns ≡ false) × AreApart ns

-- the places of the plan are those of different parts of the level
pub record IsSeparate (level : Level) (p : Plan) : Type 0 where
  pub fields : AreApart (field_places p) × Each (λ i. i < length (out-Level level).fields) (field_places p)
  pub groups : AreApart (group_places p) × Each (λ i. i < length (out-Level level).groups) (group_places p)
  pub parts : AreApart (data_places p) × Each (λ i. i < length (out-Level level).parts) (data_places p)

-- the same for the levels of its groups
abbrev pub AreSeparate : Plan → Type 0
AreSeparate done = ⊤
AreSeparate (single s rest) = AreSeparate rest
AreSeparate (group g inner rest) = IsSeparate g.level inner × AreSeparate inner × AreSeparate rest

-- the value of data is the text of its bytes
abbrev pub IsHeld : Place → Value → Type 0
IsHeld (in_fields i) v = ⊤
IsHeld (in_data i) v = (bytes : List ℕ) × (v ≡ value.Text bytes)

-- the same for all values of a plan
abbrev pub AreHeld : (p : Plan) → Tree Value p → Type 0
AreHeld done t = ⊤
AreHeld (single s rest) t = IsHeld s.place t.0 × AreHeld rest t.1
AreHeld (group g inner rest) t = Each (λ e. AreHeld inner e) t.0 × AreHeld rest t.1

-- each good value at data is the text of its bytes
abbrev pub HoldsData : Plan → Type 0
HoldsData done = ⊤
HoldsData (single s rest) = ((v : Value) → Good s.rule v → IsHeld s.place v) × HoldsData rest
HoldsData (group g inner rest) = HoldsData inner × HoldsData rest

-- the plan is one of the level: each part has one place in it
pub record IsPlanOf (level : Level) (p : Plan) : Type 0 where
  pub complete : IsComplete level p
  pub all_complete : AreComplete p
  pub separate : IsSeparate level p
  pub all_separate : AreSeparate p
  pub holds : HoldsData p

-- the block of the message that fields are translated to: it has a value for each part of the level, its values are
-- good, and their items are those of the fields
pub record IsBackBlock (level : Level) (p : Plan) (fields : List Field) (block : Block) : Type 0 where
  pub lengths : HasLengths level block
  pub entries : HasEntries p block
  pub back : IsBack p fields (values_of p block)
