-- Which parts of a template a mapping covers, and the plan of a covered one. From SBE 1.0 and FIX Orchestra. Own
-- profile.
use Rattle.std.specs.Prelude.{ℕ, suc, Bool, true, false, not, ◌&&◌, ◌==◌, if◌then◌else◌, List, [], ◌∷◌, ◌++◌, map, codes, Option, Some, None, is_some, filter, bytes_eq}
use Rattle.sbe_types.specs.declared.kind.Leaf.{Leaf as LeafOf}
use Rattle.sbe_types.specs.declared.schema.Field.{Field}
use Rattle.sbe_types.specs.declared.schema.DataField.{DataField}
use Rattle.sbe_types.specs.declared.schema.Group.{Group, Group', out-Group}
use Rattle.sbe_types.specs.declared.schema.Level.{Level, Level', Row_of-Group, end_of-Group, more_of-Group, items-the_row-Group, out-Level}
use Rattle.sbe_wire.specs.Named.{spot_named}
use Rattle.bridge_rules.specs.Rules.{Rule}
use Rattle.bridge_rules.specs.Members.{and_then}
use Rattle.bridge_rules.specs.Table.{rule_of, data_rule}
use Rattle.bridge_terms.specs.Parts.{TagLists}
use Rattle.bridge_terms.specs.Plans.{Plan, Slot, Repeat, done, single, group, in_fields, in_data, is_in}
use Rattle.reference_graph.specs.Expansion.{Structure, ended, plain, counted, structure_tags}
use Rattle.bridge_plan.specs.Mappings.{Mapping, is_plain, inner_of, delimiter_of, datatype_of, structure_for}

-- ---- coverage, in the order of the schema

-- the tags of length fields
abbrev pub length_tags : TagLists → List ℕ
length_tags lists = map (λ pair. pair.0) lists.lengths

-- the tags of data fields that have a length field
abbrev pub data_tags : TagLists → List ℕ
data_tags lists = map (λ pair. pair.1) lists.lengths

-- the tag isn't one of the header, of length fields, or of earlier parts of the level
abbrev pub is_free : Mapping → List ℕ → ℕ → Bool
is_free m before tag = not (is_in tag m.lists.header) && (not (is_in tag (length_tags m.lists)) && not (is_in tag before))

-- the tag is a field's in the structure and is free, and the kind and datatype have a row
abbrev pub is_covered : Mapping → Structure → List ℕ → ℕ → Option Rule → Bool
is_covered m s before tag rule = is_plain tag s && (is_free m before tag && is_some rule)

-- the first of two paths
abbrev pub or_path : Option (List (List ℕ)) → Option (List (List ℕ)) → Option (List (List ℕ))
or_path None q = q
or_path (Some p) q = Some p

-- a path inside a named part
abbrev pub inside : List ℕ → Option (List (List ℕ)) → Option (List (List ℕ))
inside name None = None
inside name (Some path) = Some (name ∷ path)

-- the first field that isn't covered
abbrev pub fields_uncovered : Mapping → Structure → List ℕ → List Field → Option (List (List ℕ))
fields_uncovered m s before [] = None
fields_uncovered m s before (f ∷ fs) =
    if is_covered m s before f.id (rule_of f.kind (datatype_of m f.id)) then fields_uncovered m s (f.id ∷ before) fs else Some (f.name ∷ [])

-- the first data part that isn't covered
abbrev pub data_uncovered : Mapping → Structure → List ℕ → List DataField → Option (List (List ℕ))
data_uncovered m s before [] = None
data_uncovered m s before (d ∷ ds) =
    if is_covered m s before d.id (data_rule d (datatype_of m d.id)) then data_uncovered m s (d.id ∷ before) ds else Some (d.name ∷ [])

-- the delimiter of a group's entries: a field of the group, and not a header, length or data field
abbrev pub is_delimiter : Mapping → List Field → Option ℕ → Bool
is_delimiter m fields None = false
is_delimiter m fields (Some tag) = is_free m (data_tags m.lists) tag && is_in tag (map (λ (f : Field). f.id) fields)

-- what isn't covered inside a group, if its tag is free and its delimiter is one; else the group itself
abbrev pub group_by : Bool → List ℕ → Option (List (List ℕ)) → Option (List (List ℕ))
group_by true name within = inside name within
group_by false name within = Some (name ∷ [])

-- the places of a group's entries; none if the tag isn't a group's
abbrev pub inner_or : Option Structure → Structure
inner_or None = ended
inner_or (Some s) = s

abbrev mutual
  -- the path of the first part that isn't covered
  pub uncovered : Mapping → Structure → Level → Option (List (List ℕ))
  uncovered m s (Level' name id semantic since block_length fields _ groups parts) =
      or_path (fields_uncovered m s [] fields) (groups_uncovered m s (map (λ (f : Field). f.id) fields) groups parts)

  -- groups, and then data
  pub groups_uncovered : Mapping → Structure → List ℕ → {n : _} → Row_of-Group n → List DataField → Option (List (List ℕ))
  groups_uncovered m s before end_of-Group parts = data_uncovered m s before parts
  groups_uncovered m s before (more_of-Group g rest) parts = or_path (group_uncovered m s before g) (groups_uncovered m s (group_tag g ∷ before) rest parts)

  -- the same for one group: itself, or the first part in it
  pub group_uncovered : Mapping → Structure → List ℕ → Group → Option (List (List ℕ))
  group_uncovered m s before (Group' dim level) =
      group_by (is_free m (before ++ data_tags m.lists) (out-Level level).id
      && is_delimiter m (out-Level level).fields (delimiter_of (inner_or (inner_of (out-Level level).id s))))
      (out-Level level).name (uncovered m (inner_or (inner_of (out-Level level).id s)) level)

  -- the tag of a group's count
  pub group_tag : Group → ℕ
  group_tag (Group' dim level) = (out-Level level).id

-- ---- the plan of a covered level

-- the slot of the field with this id, if there is one; the fields are numbered from i on
abbrev pub field_slot : Mapping → ℕ → ℕ → List Field → Option Slot
field_slot m tag i [] = None
field_slot m tag i (f ∷ fs) =
    if f.id == tag
    then and_then (rule_of f.kind (datatype_of m tag)) (λ rule. Some (record { tag = tag; place = in_fields i; rule = rule }))
    else field_slot m tag (suc i) fs

-- the slot of the data part with this id, if there is one; the parts are numbered from i on
abbrev pub data_slot : Mapping → ℕ → ℕ → List DataField → Option Slot
data_slot m tag i [] = None
data_slot m tag i (d ∷ ds) =
    if d.id == tag
    then and_then (data_rule d (datatype_of m tag)) (λ rule. Some (record { tag = tag; place = in_data i; rule = rule }))
    else data_slot m tag (suc i) ds

-- the first of two slots
abbrev pub or_slot : Option Slot → Option Slot → Option Slot
or_slot None s = s
or_slot (Some s) t = Some s

-- the slot of the field or data part with this tag
abbrev pub slot_of : Mapping → ℕ → Level → Option Slot
slot_of m tag level = or_slot (field_slot m tag 0 (out-Level level).fields) (data_slot m tag 0 (out-Level level).parts)

-- the groups of a level, in a form that computes
abbrev pub groups_in : Level → List Group
groups_in (Level' name id semantic since block_length fields _ groups parts) = items-the_row-Group _ groups

-- the level of a group's entries
abbrev pub level_in : Group → Level
level_in (Group' dim level) = level

-- the group with this tag, and its number
abbrev pub group_of : ℕ → ℕ → List Group → Option (ℕ × Group)
group_of tag i [] = None
group_of tag i (g ∷ gs) = if group_tag g == tag then Some (i, g) else group_of tag (suc i) gs

-- the type of a group's count
abbrev pub count_leaf : Group → Option LeafOf
count_leaf g = and_then (spot_named 0 (codes "numInGroup") (out-Group g).dim) (λ spot. Some spot.leaf)

-- a slot, if there is one, before the rest of a plan
abbrev pub slot_before : Option Slot → Plan → Plan
slot_before None rest = rest
slot_before (Some slot) rest = single slot rest

-- the group's repeat, if its delimiter and count are there
abbrev pub repeat_of : ℕ → ℕ → Structure → Group → Option Repeat
repeat_of tag place inner g =
    and_then (delimiter_of inner) (λ delimiter. and_then (count_leaf g) (λ count.
    Some (record { tag = tag; level = level_in g; place = place; delimiter = delimiter; count = count; owned = structure_tags inner })))

-- a group, if there is one, before the rest of a plan
abbrev pub repeat_before : Option Repeat → Plan → Plan → Plan
repeat_before None inner rest = rest
repeat_before (Some g) inner rest = group g inner rest

-- the group that was found, before the rest of a plan
abbrev pub group_before : Option (ℕ × Group) → ℕ → Structure → (Level → Plan) → Plan → Plan
group_before None tag inner plan rest = rest
group_before (Some found) tag inner plan rest = repeat_before (repeat_of tag found.0 inner found.1) (plan (level_in found.1)) rest

-- the parts of the level in the order of the structure
abbrev pub plan_of : Mapping → Structure → Level → Plan
plan_of m ended level = done
plan_of m (plain tag rest) level = slot_before (slot_of m tag level) (plan_of m rest level)
plan_of m (counted tag inner rest) level =
    group_before (group_of tag 0 (groups_in level)) tag inner (λ below. plan_of m inner below) (plan_of m rest level)

-- whether a mapping covers a template: it does, with this plan; it has no such message; or it lacks the part at this
-- path
pub data Cover : Type 0 where
  covered_by : Plan → Cover
  no_message : Cover
  unmapped : List (List ℕ) → Cover

-- the plan, unless something isn't covered
abbrev pub cover_by : Mapping → Structure → Level → Option (List (List ℕ)) → Cover
cover_by m s level None = covered_by (plan_of m s level)
cover_by m s level (Some path) = unmapped path

-- the same by the structure, if the mapping has one; else it has no such message
abbrev pub cover_in : Mapping → Level → Option Structure → Cover
cover_in m level None = no_message
cover_in m level (Some s) = cover_by m s level (uncovered m s level)

-- whether a mapping covers a template
abbrev pub cover_of : Mapping → Level → Cover
cover_of m level = cover_in m level (structure_for m (out-Level level).semantic)

-- ---- the template of a message

-- the templates with this MsgType
abbrev pub templates_of : List ℕ → List Level → List Level
templates_of kind levels = filter (λ level. bytes_eq (out-Level level).semantic kind) levels

-- the item of a list, if it has exactly one
abbrev pub lone : {X : Type 0} → List X → Option X
lone [] = None
lone (x ∷ []) = Some x
lone (x ∷ y ∷ xs) = None

-- the template of the texts with a MsgType: the only one that has it, if the mapping has a message with it
abbrev pub template_for : Mapping → List ℕ → List Level → Option Level
template_for m kind levels = and_then (structure_for m kind) (λ structure. lone (templates_of kind levels))
