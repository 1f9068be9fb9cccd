-- The rules for the parts of a level: fields, groups and data, and the visit of a level with those of its groups.
use Rattle.std.specs.Prelude.{ℕ, ◌+◌, ◌==◌, ◌&&◌, ◌||◌, not, min, max, nat_le, nat_lt, Bool, true, false, is_some, is_none, if◌then◌else◌, List, [], ◌∷◌, ◌++◌, codes, Option, Some, None, unwrap_or, Ok}
use Rattle.std.specs.Option.{option_or}
use Rattle.std.specs.Str.{bytes_eq}
use Rattle.sbe_types.specs.declared.kind.Primitive.{Primitive}
use Rattle.sbe_types.specs.declared.kind.Presence.{Presence}
use Rattle.sbe_types.specs.declared.kind.Presence.TheVariants.{Required, Optional, Constant}
use Rattle.sbe_types.specs.declared.kind.Member.{Member}
use Rattle.sbe_types.specs.declared.tree.ValueRef.{ValueRef}
use Rattle.sbe_types.specs.declared.tree.TypeEl.{TypeEl}
use Rattle.sbe_types.specs.declared.tree.FieldEl.{FieldEl}
use Rattle.sbe_types.specs.declared.tree.DataEl.{DataEl}
use Rattle.sbe_types.specs.declared.tree.PartItem.{PartItem, Row_of-PartItem, end_of-PartItem, more_of-PartItem}
use Rattle.sbe_types.specs.declared.tree.PartItem as part
use Rattle.sbe_types.specs.declared.tree.TypesItem.{TypesItem}
use Rattle.sbe_types.specs.declared.tree.TypesItem.TheVariants as item
use Rattle.schema_rules.specs.declared.codes.CCode.TheVariants as rule
use Rattle.schema_rules.specs.declared.codes.PartClass.{PartClass}
use Rattle.schema_rules.specs.declared.codes.PartClass.TheVariants as class
use Rattle.schema_rules.specs.declared.facts.Fact.{Fact}
use Rattle.schema_rules.specs.declared.levels.LevelScope.{LevelScope}
use Rattle.schema_rules.specs.declared.levels.LevelFacts.{LevelFacts}
use Rattle.schema_rules.specs.declared.levels.PartHead.{PartHead}
use Rattle.schema_rules.specs.Judging.{CheckResult, ◌>>=◌, Rules, first_of, at_element}
use Rattle.schema_rules.specs.Names.{integral, is_among, names_fraction, type_named}
use Rattle.schema_rules.specs.declared.encodings.Encoding.{Encoding}
use Rattle.schema_rules.specs.Kinds.{encoding_named, effective, members_named}
use Rattle.schema_rules.specs.Facts.{past, field_fact}
use Rattle.schema_rules.specs.TypeRules.{is_constant, is_bad_constant, is_bad_text, refers_to_none}
use Rattle.schema_rules.specs.CompositeRules.{begins_early, most_bytes}
use Rattle.schema_rules.specs.Counters.{is_dimension, is_data, holds}

-- ---- a level, and what is before a part of it

-- the most groups nested in one another
abbrev pub most_groups : ℕ
most_groups = 6

-- the declared types, and the level
pub record Scope : Type 0 where
  pub types : List TypesItem
  pub level : LevelScope

-- a part's effective since: the largest of its own and those of the groups around it
abbrev pub since_in : LevelScope → ℕ → ℕ
since_in level own = max level.since own

-- the entries of a group with this sinceVersion; more than seven groups around count as seven
abbrev pub entries_level : LevelScope → ℕ → LevelScope
entries_level level own = record { version = level.version; around = min (level.around + 1) 7; since = since_in level own }

-- the parts before: their names, and what is known of them
pub record PartsBefore : Type 0 where
  pub names : List (List ℕ)
  pub all : LevelFacts

-- Before the first part.
abbrev pub no_facts : LevelFacts
no_facts = record { last = class.Field; reached = 0; floor = 0; fields_since = 0; groups_since = 0; data_since = 0; alive = false }

-- Before the first part, without names.
abbrev pub no_part : PartsBefore
no_part = record { names = []; all = no_facts }

-- The parts before, and a field that ends at `reached`.
abbrev pub field_past : LevelScope → LevelFacts → Bool → ℕ → ℕ → LevelFacts
field_past level all is_fixed own reached =
    record {
      last = class.Field;
      reached = reached;
      floor = if not is_fixed && nat_le own level.since then reached else all.floor;
      fields_since = if is_fixed then all.fields_since else max all.fields_since (since_in level own);
      groups_since = all.groups_since;
      data_since = all.data_since;
      alive = all.alive;
    }

-- The parts before, and a field.
abbrev pub with_field : LevelScope → LevelFacts → Fact → Option ℕ → ℕ → LevelFacts
with_field level all fact offset own = field_past level all fact.is_fixed own (past all.reached offset fact)

-- The parts before, and a group.
abbrev pub with_group : LevelScope → LevelFacts → ℕ → LevelFacts
with_group level all own =
    record {
      last = class.Group;
      reached = all.reached;
      floor = all.floor;
      fields_since = all.fields_since;
      groups_since = max all.groups_since (since_in level own);
      data_since = all.data_since;
      alive = all.alive || nat_le own level.since;
    }

-- The parts before, and a data part.
abbrev pub with_data : LevelScope → LevelFacts → ℕ → LevelFacts
with_data level all own =
    record {
      last = class.Data;
      reached = all.reached;
      floor = all.floor;
      fields_since = all.fields_since;
      groups_since = all.groups_since;
      data_since = max all.data_since (since_in level own);
      alive = all.alive || nat_le own level.since;
    }

-- The parts before, and one more.
abbrev pub facts_with : Scope → LevelFacts → PartItem → LevelFacts
facts_with scope all (part.Field f) = with_field scope.level all (field_fact scope.types f) f.offset f.since_version
facts_with scope all (part.Group' name id dimension since length n row) = with_group scope.level all since
facts_with scope all (part.Data d) = with_data scope.level all d.since_version

-- The name of a part.
abbrev pub part_name : PartItem → List ℕ
part_name (part.Field f) = f.name
part_name (part.Group' name id dimension since length n row) = name
part_name (part.Data d) = d.name

-- The parts before, and one more, with its name.
abbrev pub with_part : Scope → PartsBefore → PartItem → PartsBefore
with_part scope before p = record { names = before.names ++ part_name p ∷ []; all = facts_with scope before.all p }

-- ---- the rules for each part

-- Fields come first, then groups, then data.
abbrev pub rank : PartClass → ℕ
rank class.Field = 0
rank class.Group = 1
rank class.Data = 2

-- The largest effective since of the parts of a class.
abbrev pub greatest_since : LevelFacts → PartClass → ℕ
greatest_since all class.Field = all.fields_since
greatest_since all class.Group = all.groups_since
greatest_since all class.Data = all.data_since

-- C15 Since: its sinceVersion is above the schema's version; or it isn't a constant, and its effective since is below
-- that of an earlier part of the same class in its level.
abbrev pub begins_wrong : LevelScope → LevelFacts → PartHead → Bool
begins_wrong level all head =
    nat_lt level.version head.since || (not head.is_fixed && nat_lt (since_in level head.since) (greatest_since all head.class))

-- C13 DuplicateName: a part's name occurs earlier in its level. C14 Order: a field follows a group or data, or a group
-- follows data.
abbrev pub part_rules : LevelScope → PartsBefore → List ℕ → PartHead → Rules
part_rules level before name head =
    (rule.DuplicateName, is_among before.names name)
    ∷ ((rule.Order, nat_lt (rank head.class) (rank before.all.last))
    ∷ ((rule.Since, begins_wrong level before.all head)
    ∷ []))

-- ---- fields

-- the field is constant, and the text of its type isn't a value of the type
abbrev pub has_bad_text_in : FieldEl → TypeEl → Option Primitive → Bool
has_bad_text_in f t None = false
has_bad_text_in f t (Some prim) = is_constant (effective f.presence t.presence) && is_bad_text prim t.text

-- The field is constant, and the text of its type isn't a value of the type.
abbrev pub has_bad_text : FieldEl → Option TypesItem → Bool
has_bad_text f None = false
has_bad_text f (Some (item.Type t)) = has_bad_text_in f t (integral t.primitive_type)
has_bad_text f (Some (item.Composite c)) = false
has_bad_text f (Some (item.Enum e)) = false
has_bad_text f (Some (item.Set s)) = false

-- The presence of an encoding.
abbrev pub presence_in : Option Encoding → Option Presence
presence_in None = None
presence_in (Some e) = e.presence

-- a valueRef into another enum, or no valueRef
abbrev pub refers_elsewhere : List ℕ → Option ValueRef → Bool
refers_elsewhere name None = true
refers_elsewhere name (Some ref) = not (bytes_eq ref.enum_name name)

-- A constant enum without a valueRef into it, or a valueRef of one that isn't constant.
abbrev pub is_bad_code : Presence → List ℕ → Option ValueRef → Bool
is_bad_code Constant name ref = refers_elsewhere name ref
is_bad_code Required name ref = is_some ref
is_bad_code Optional name ref = is_some ref

-- A constant without a value or with two, or a valueRef of a field that isn't constant.
abbrev pub is_bad_type : FieldEl → TypeEl → Presence → Bool
is_bad_type f t Constant = is_bad_constant Constant t.text (option_or f.value_ref t.value_ref)
is_bad_type f t Required = is_some f.value_ref
is_bad_type f t Optional = is_some f.value_ref

-- C19 Presence: a constant without a value, or with both text and valueRef; a constant set or composite; a valueRef
-- without constant; a constant enum without a valueRef into it.
abbrev pub has_bad_presence : List TypesItem → FieldEl → Option TypesItem → Bool
has_bad_presence types f None = false
has_bad_presence types f (Some (item.Type t)) = is_bad_type f t (effective f.presence t.presence)
has_bad_presence types f (Some (item.Enum e)) = is_bad_code (effective f.presence (presence_in (encoding_named types e.encoding_type))) e.name f.value_ref
has_bad_presence types f (Some (item.Set s)) = is_constant (effective f.presence None) || is_some f.value_ref
has_bad_presence types f (Some (item.Composite c)) = is_constant (effective f.presence None) || is_some f.value_ref

-- C12 BadData, for a field: its type contains a member of length 0.
abbrev pub field_rules : List TypesItem → ℕ → FieldEl → Rules
field_rules types reached f =
    (rule.UnknownType, is_none (type_named types f.type_name) || refers_to_none types f.value_ref)
    ∷ ((rule.Float, names_fraction types f.type_name)
    ∷ ((rule.BadNumber, has_bad_text f (type_named types f.type_name))
    ∷ ((rule.Offset, begins_early reached f.offset (field_fact types f))
    ∷ ((rule.BadData, (field_fact types f).holds_empty)
    ∷ []))))

-- What the rules for every part need to know of a field.
abbrev pub field_head : Scope → FieldEl → PartHead
field_head scope f = record { class = class.Field; since = f.since_version; is_fixed = (field_fact scope.types f).is_fixed }

-- One field.
abbrev pub field_check : Scope → PartsBefore → FieldEl → CheckResult (Unit {0})
field_check scope before f = do
  _ ← first_of (field_rules scope.types before.all.reached f)
  _ ← first_of (part_rules scope.level before f.name (field_head scope f))
  first_of ((rule.Presence, has_bad_presence scope.types f (type_named scope.types f.type_name)) ∷ [])

-- ---- data

-- C12 BadData: the type of a data part isn't a composite of `length` and `varData`.
abbrev pub data_rules : List TypesItem → DataEl → Rules
data_rules types d =
    (rule.UnknownType, is_none (type_named types d.type_name))
    ∷ ((rule.Float, names_fraction types d.type_name)
    ∷ ((rule.BadData, not (is_data (members_named types d.type_name)))
    ∷ []))

-- One data part.
abbrev pub data_check : Scope → PartsBefore → DataEl → CheckResult (Unit {0})
data_check scope before d = do
  _ ← first_of (data_rules scope.types d)
  first_of (part_rules scope.level before d.name (record { class = class.Data; since = d.since_version; is_fixed = false }))

-- ---- groups

-- C11 BadDimension: the dimension type isn't a composite of exactly blockLength and numInGroup.
abbrev pub dimension_rules : List TypesItem → List ℕ → Rules
dimension_rules types name =
    (rule.UnknownType, is_none (type_named types name))
    ∷ ((rule.Float, names_fraction types name)
    ∷ ((rule.BadDimension, not (is_dimension (members_named types name)))
    ∷ []))

-- the stated block length is below the end of the fields
abbrev pub is_short : Option ℕ → ℕ → Bool
is_short None reached = false
is_short (Some stated) reached = nat_lt stated reached

-- a block of this length is too long, or the member blockLength can't hold the number
abbrev pub is_bad_block : List Member → ℕ → Bool
is_bad_block members block = nat_lt most_bytes block || not (holds members (codes "blockLength") block)

-- C09 BlockShort: the stated blockLength is below the end of the fields.
-- C16 EmptyGroup: at the group's effective since, its floor is 0 and no group or data of its entries is alive.
-- C17 Depth: it is a group with exactly six groups around it.
-- C18 Width: its block is above 1,048,576, or doesn't fit its dimension.
abbrev pub group_rules : ℕ → List Member → Option ℕ → LevelFacts → Rules
group_rules around dimension stated all =
    (rule.BlockShort, is_short stated all.reached)
    ∷ ((rule.EmptyGroup, all.floor == 0 && not all.alive)
    ∷ ((rule.Depth, around == most_groups)
    ∷ ((rule.Width, is_bad_block dimension (unwrap_or stated all.reached))
    ∷ [])))

-- ---- the visit

abbrev mutual
  -- the parts of a level in order, each with what is before it; a group's own parts right after it
  pub level_check : Scope → PartsBefore → {n : _} → Row_of-PartItem n → CheckResult PartsBefore
  level_check scope before end_of-PartItem = Ok before
  level_check scope before (more_of-PartItem p rest) = do
    _ ← at_element (codes ".") (part_name p) (part_check scope before p)
    level_check scope (with_part scope before p) rest

  -- One part; for a group, also the parts inside it.
  pub part_check : Scope → PartsBefore → PartItem → CheckResult (Unit {0})
  part_check scope before (part.Field f) = field_check scope before f
  part_check scope before (part.Data d) = data_check scope before d
  part_check scope before (part.Group' name id dimension since length n row) = do
    _ ← first_of (dimension_rules scope.types dimension)
    _ ← first_of (part_rules scope.level before name (record { class = class.Group; since = since; is_fixed = false }))
    parts ← level_check (record { types = scope.types; level = entries_level scope.level since }) no_part row
    first_of (group_rules scope.level.around (members_named scope.types dimension) length parts.all)

-- The parts of a level in order, as a list.
abbrev pub parts_check : Scope → PartsBefore → List PartItem → CheckResult PartsBefore
parts_check scope before [] = Ok before
parts_check scope before (p ∷ ps) = do
  _ ← at_element (codes ".") (part_name p) (part_check scope before p)
  parts_check scope (with_part scope before p) ps
