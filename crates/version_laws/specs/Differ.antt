-- The first difference between two schemas, with its path and reason.
use Rattle.std.specs.Prelude.{ℕ, nat_le, nat_lt, Bool, true, false, ◌&&◌, ◌==◌, if◌then◌else◌, Option, Some, None, List, [], ◌∷◌, ◌++◌, codes}
use Rattle.std.specs.Str.{bytes_eq}
use Rattle.sbe_types.specs.declared.kind.Order.{Order}
use Rattle.sbe_types.specs.declared.kind.Order.TheVariants.{Little, Big}
use Rattle.sbe_types.specs.declared.kind.Member.{Member}
use Rattle.sbe_types.specs.declared.schema.Field.{Field}
use Rattle.sbe_types.specs.declared.schema.DataField.{DataField}
use Rattle.sbe_types.specs.declared.schema.Group.{Group, Group'}
use Rattle.sbe_types.specs.declared.schema.Level.{Level, Level', out-Level, Row_of-Group, end_of-Group, more_of-Group}
use Rattle.sbe_types.specs.declared.schema.WireSchema.{WireSchema}
use Rattle.sbe_types.specs.Places.{begin_of, end_past}
use Rattle.sbe_wire.specs.Faults.{message_named}
use Rattle.version_laws.specs.declared.difference.Difference.{Difference}
use Rattle.version_laws.specs.declared.difference.Reason.{Reason}
use Rattle.version_laws.specs.declared.difference.Reason.TheVariants as reason
use Rattle.version_laws.specs.Same.{same_leaf, same_kind, same_members, same_place, same_places, same_header}

-- a difference at the part with this name
abbrev pub differs : List ℕ → Reason → Option Difference
differs name reason = Some (record { path = name; reason = reason })

-- the first of two differences
abbrev pub or_else : Option Difference → Option Difference → Option Difference
or_else None more = more
or_else (Some d) more = Some d

-- the difference inside a part: its path begins with the part's name and a dot
abbrev pub in_part : List ℕ → Option Difference → Option Difference
in_part name None = None
in_part name (Some d) = differs (name ++ codes "." ++ d.path) d.reason

-- the reason, unless the test holds; in that case what follows
abbrev pub asks : Bool → Reason → Option Reason → Option Reason
asks true reason more = more
asks false reason more = Some reason

-- a difference at the part, or else those that follow
abbrev pub unless_for : List ℕ → Option Reason → Option Difference → Option Difference
unless_for name None more = more
unless_for name (Some reason) more = differs name reason

-- the same byte order
abbrev pub same_order : Order → Order → Bool
same_order Little Little = true
same_order Little Big = false
same_order Big Little = false
same_order Big Big = true

-- a part with this since exists at old's version, `version`
abbrev pub is_old : ℕ → ℕ → Bool
is_old version since = nat_le since version

-- ---- fields, and data: old's, and those of new that are effective at old's version, in order.
-- `more`: enums and sets of new may list more

-- the ends of the fields before, in old and in new
pub record Ends : Type 0 where
  pub old : ℕ
  pub new : ℕ

-- before the first field
abbrev pub no_fields : Ends
no_fields = record { old = 0; new = 0 }

-- after a field of new that old doesn't have
abbrev pub past_added : Ends → Field → Ends
past_added ends g = record { old = ends.old; new = end_past ends.new g.offset g.kind }

-- after a field of old, and the one of new that is compared with it
abbrev pub past_both : Ends → Field → Field → Ends
past_both ends f g = record { old = end_past ends.old f.offset f.kind; new = end_past ends.new g.offset g.kind }

-- the field begins at the same offset in both, and so does each member of a composite
abbrev pub field_stays : Ends → Field → Field → Bool
field_stays ends f g = same_place f.kind (begin_of ends.old f.offset) g.kind (begin_of ends.new g.offset) && same_places f.kind g.kind

-- why the field g of new isn't the field f of old
abbrev pub field_reason : Bool → Ends → Field → Field → Option Reason
field_reason more ends f g =
    asks (bytes_eq f.name g.name) reason.Part
    (asks (f.since == g.since) reason.Since
    (asks (field_stays ends f g) reason.Place
    (asks (same_kind more f.kind g.kind) reason.Kind None)))

-- the first difference of fields, after fields with these ends
abbrev pub fields_differ : ℕ → Bool → Ends → List Field → List Field → Option Difference
fields_differ version more ends [] [] = None
fields_differ version more ends (f ∷ fs) [] = differs f.name reason.Part
fields_differ version more ends [] (g ∷ gs) =
    if is_old version g.since then differs g.name reason.Part else fields_differ version more (past_added ends g) [] gs
fields_differ version more ends (f ∷ fs) (g ∷ gs) =
    if is_old version g.since
    then unless_for f.name (field_reason more ends f g) (fields_differ version more (past_both ends f g) fs gs)
    else fields_differ version more (past_added ends g) (f ∷ fs) gs

-- why the data part g of new isn't the data part f of old
abbrev pub data_reason : DataField → DataField → Option Reason
data_reason f g =
    asks (bytes_eq f.name g.name) reason.Part
    (asks (f.since == g.since) reason.Since
    (asks (same_leaf f.length g.length) reason.Kind None))

-- the first difference of data parts
abbrev pub parts_differ : ℕ → List DataField → List DataField → Option Difference
parts_differ version [] [] = None
parts_differ version (f ∷ fs) [] = differs f.name reason.Part
parts_differ version [] (g ∷ gs) = if is_old version g.since then differs g.name reason.Part else parts_differ version [] gs
parts_differ version (f ∷ fs) (g ∷ gs) =
    if is_old version g.since
    then unless_for f.name (data_reason f g) (parts_differ version fs gs)
    else parts_differ version (f ∷ fs) gs

-- ---- groups, each with its own level after it

-- the name of a group
abbrev pub group_name : Group → List ℕ
group_name (Group' dim level) = (out-Level level).name

-- the version since which a group is effective
abbrev pub group_since : Group → ℕ
group_since (Group' dim level) = (out-Level level).since

-- the members of a group's dimension
abbrev pub group_dimension : Group → List Member
group_dimension (Group' dim level) = dim

-- why the group g of new isn't the group f of old; its level is compared after it
abbrev pub group_reason : Group → Group → Option Reason
group_reason f g =
    asks (bytes_eq (group_name f) (group_name g)) reason.Part
    (asks (group_since f == group_since g) reason.Since (asks (same_members (group_dimension f) (group_dimension g)) reason.Kind None))

unfoldable mutual
  -- the first difference of two levels: fields, then groups, then data
  pub level_differs : ℕ → Bool → Level → Level → Option Difference
  level_differs version more (Level' _ _ _ _ _ old_fields _ old_groups old_parts) (Level' _ _ _ _ _ fields _ groups parts) =
      or_else (fields_differ version more no_fields old_fields fields)
      (or_else (groups_differ version more old_groups groups) (parts_differ version old_parts parts))

  -- the first difference of groups; the level of a group is compared right after it
  pub groups_differ : ℕ → Bool → {n : _} → Row_of-Group n → {k : _} → Row_of-Group k → Option Difference
  groups_differ version more end_of-Group end_of-Group = None
  groups_differ version more (more_of-Group f fs) end_of-Group = differs (group_name f) reason.Part
  groups_differ version more end_of-Group (more_of-Group g gs) =
      if is_old version (group_since g) then differs (group_name g) reason.Part else groups_differ version more end_of-Group gs
  groups_differ version more (more_of-Group f fs) (more_of-Group g gs) =
      if is_old version (group_since g)
      then unless_for (group_name f) (group_reason f g) (or_else (in_part (group_name f) (group_differs version more f g)) (groups_differ version more fs gs))
      else groups_differ version more (more_of-Group f fs) gs

  -- the first difference inside a group that both have
  pub group_differs : ℕ → Bool → Group → Group → Option Difference
  group_differs version more (Group' old_dim old) (Group' dim level) = level_differs version more old level

-- ---- messages, and the whole

-- the first difference between old's message and new's message with its id
abbrev pub message_differs : ℕ → Bool → Level → Option (ℕ × Level) → Option Difference
message_differs version more old None = differs (out-Level old).name reason.Message
message_differs version more old (Some m) =
    if bytes_eq (out-Level old).name (out-Level m.1).name
    then in_part (out-Level old).name (level_differs version more old m.1)
    else differs (out-Level old).name reason.Message

-- the first difference of old's messages, in their order
abbrev pub messages_differ : ℕ → Bool → List Level → List Level → Option Difference
messages_differ version more [] new = None
messages_differ version more (old ∷ olds) new =
    or_else (message_differs version more old (message_named 0 (out-Level old).id new)) (messages_differ version more olds new)

-- why the schemas themselves differ
abbrev pub schema_reason : WireSchema → WireSchema → Option Reason
schema_reason old new =
    asks (old.id == new.id) reason.Id
    (asks (same_order old.order new.order) reason.ByteOrder
    (asks (same_header 0 old.header.members 0 new.header.members) reason.Header
    (asks (nat_le old.version new.version) reason.Version None)))

-- the first difference with its path and reason, or none
abbrev pub differ : WireSchema → WireSchema → Option Difference
differ old new = unless_for [] (schema_reason old new) (messages_differ old.version (nat_lt old.version new.version) old.messages new.messages)
