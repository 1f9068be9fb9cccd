-- All rules that are asked of a schema, in the order of the visit: the declared types, each with its members right
-- after it, the header type, and the messages, each with its parts. Own profile.
use Rattle.std.specs.Prelude.{ℕ, Bool, if◌then◌else◌, false, List, [], ◌∷◌, ◌++◌, codes, Ok, Err}
use Rattle.sbe_types.specs.declared.kind.Member.{Member}
use Rattle.sbe_types.specs.declared.tree.CompositeEl.{CompositeEl}
use Rattle.sbe_types.specs.declared.tree.MemberItem.{MemberItem, Row_of-MemberItem, end_of-MemberItem, more_of-MemberItem}
use Rattle.sbe_types.specs.declared.tree.MemberItem as part
use Rattle.sbe_types.specs.declared.tree.TypesItem.{TypesItem}
use Rattle.sbe_types.specs.declared.tree.TypesItem.TheVariants as item
use Rattle.sbe_types.specs.declared.tree.FieldEl.{FieldEl}
use Rattle.sbe_types.specs.declared.tree.DataEl.{DataEl}
use Rattle.sbe_types.specs.declared.tree.PartItem.{PartItem, Row_of-PartItem, end_of-PartItem, more_of-PartItem}
use Rattle.sbe_types.specs.declared.tree.PartItem as piece
use Rattle.sbe_types.specs.declared.tree.MessageEl.{MessageEl}
use Rattle.sbe_types.specs.declared.tree.Schema.{Schema}
use Rattle.sbe_types.specs.declared.schema.WireSchema.{WireSchema}
use Rattle.schema_rules.specs.declared.codes.CCode.{CCode}
use Rattle.schema_rules.specs.declared.codes.CCode.TheVariants as rule
use Rattle.schema_rules.specs.declared.codes.PartClass.TheVariants as class
use Rattle.schema_rules.specs.Judging.{CheckResult, Rules, refused}
use Rattle.schema_rules.specs.Names.{name_of, is_among, type_named, messages_of}
use Rattle.schema_rules.specs.Chains.{is_endless}
use Rattle.schema_rules.specs.Kinds.{member_name, members_named}
use Rattle.schema_rules.specs.TypeRules.{type_rules, type_constant_rules, enum_rules, set_rules}
use Rattle.schema_rules.specs.CompositeRules.{Inside, deeper, MembersBefore, no_member, with_one, first_rules, member_rules, last_rules, composite_rules}
use Rattle.schema_rules.specs.PartRules.{Scope, PartsBefore, no_part, with_part, part_name, entries_level, part_rules, field_rules, field_head, has_bad_presence, data_rules, dimension_rules, group_rules}
use Rattle.schema_rules.specs.Checked.{Outline, outline_of, header_members, header_rules, MessagesBefore, no_message, with_message, message_rules, message_end_rules, message_scope}

-- A rule that is asked of an element: its code, the element's path, and whether it is broken.
pub record Question : Type 0 where
  pub code : CCode
  pub path : List ℕ
  pub broken : Bool

-- Rules in number order, asked of the element itself.
abbrev pub here : Rules → List Question
here [] = []
here (r ∷ rs) = record { code = r.0; path = []; broken = r.1 } ∷ here rs

-- A question of an element of that name, with the path from the element around it.
abbrev pub outer : List ℕ → List ℕ → Question → Question
outer front name q = record { code = q.code; path = front ++ name ++ q.path; broken = q.broken }

-- The questions of an element of that name, with the paths from the element around it.
abbrev pub around : List ℕ → List ℕ → List Question → List Question
around front name [] = []
around front name (q ∷ qs) = outer front name q ∷ around front name qs

-- ---- declared types

-- The rules for a member, before those for the members inside it.
abbrev pub of_entering : Inside → MembersBefore → MemberItem → List Question
of_entering inside before m =
    here (first_rules inside.types m) ++ (here (member_rules inside.types before m) ++ here (last_rules inside m))

-- What is before a member that follows these.
abbrev pub past_row : Inside → MembersBefore → {n : _} → Row_of-MemberItem n → MembersBefore
past_row inside before end_of-MemberItem = before
past_row inside before (more_of-MemberItem m rest) = past_row inside (with_one inside.types before m) rest

abbrev mutual
  -- The questions of a row of members.
  pub of_row : Inside → MembersBefore → {n : _} → Row_of-MemberItem n → List Question
  of_row inside before end_of-MemberItem = []
  of_row inside before (more_of-MemberItem m rest) =
      around (codes ".") (member_name m) (of_member inside before m) ++ of_row inside (with_one inside.types before m) rest

  -- The questions of one member; a composite's own members are asked before the rules for its width and depth.
  pub of_member : Inside → MembersBefore → MemberItem → List Question
  of_member inside before (part.Type t) = of_entering inside before (part.Type t)
  of_member inside before (part.Enum e) = of_entering inside before (part.Enum e)
  of_member inside before (part.Set s) = of_entering inside before (part.Set s)
  of_member inside before (part.Ref r) = of_entering inside before (part.Ref r)
  of_member inside before (part.Composite' name offset since n row) =
      of_entering inside before (part.Composite' name offset since n row)
      ++ (of_row (deeper inside) no_member row ++ here (composite_rules inside.around (past_row (deeper inside) no_member row).all))

-- What is before a member that follows those of a list.
abbrev pub past_members : Inside → MembersBefore → List MemberItem → MembersBefore
past_members inside before [] = before
past_members inside before (m ∷ ms) = past_members inside (with_one inside.types before m) ms

-- The questions of the members of a list.
abbrev pub of_members : Inside → MembersBefore → List MemberItem → List Question
of_members inside before [] = []
of_members inside before (m ∷ ms) =
    around (codes ".") (member_name m) (of_member inside before m) ++ of_members inside (with_one inside.types before m) ms

-- The questions of a declared composite.
abbrev pub of_composite : List TypesItem → CompositeEl → List Question
of_composite types c =
    here ((rule.Cycle, is_endless types c) ∷ [])
    ++ (of_members (record { types = types; around = 1 }) no_member c.children
    ++ here (composite_rules 0 (past_members (record { types = types; around = 1 }) no_member c.children).all))

-- The questions of a declared type, except that of its name.
abbrev pub of_item : List TypesItem → TypesItem → List Question
of_item types (item.Type t) = here (type_rules types false t) ++ here (type_constant_rules t)
of_item types (item.Enum e) = here (enum_rules types e)
of_item types (item.Set s) = here (set_rules types s)
of_item types (item.Composite c) = of_composite types c

-- The questions of the declared types in order, each after the names before it.
abbrev pub of_types : List TypesItem → List (List ℕ) → List TypesItem → List Question
of_types types earlier [] = []
of_types types earlier (t ∷ ts) =
    around (codes "types/") (name_of t) (here ((rule.DuplicateType, is_among earlier (name_of t)) ∷ []) ++ of_item types t)
    ++ of_types types (earlier ++ name_of t ∷ []) ts

-- ---- messages

-- The questions of a field.
abbrev pub of_field : Scope → PartsBefore → FieldEl → List Question
of_field scope before f =
    here (field_rules scope.types before.all.reached f)
    ++ (here (part_rules scope.level before f.name (field_head scope f))
    ++ here ((rule.Presence, has_bad_presence scope.types f (type_named scope.types f.type_name)) ∷ []))

-- The questions of a data part.
abbrev pub of_data : Scope → PartsBefore → DataEl → List Question
of_data scope before d =
    here (data_rules scope.types d)
    ++ here (part_rules scope.level before d.name (record { class = class.Data; since = d.since_version; is_fixed = false }))

-- What is before a part that follows these.
abbrev pub past_level : Scope → PartsBefore → {n : _} → Row_of-PartItem n → PartsBefore
past_level scope before end_of-PartItem = before
past_level scope before (more_of-PartItem p rest) = past_level scope (with_part scope before p) rest

-- The level of a group's entries.
abbrev pub entries_scope : Scope → ℕ → Scope
entries_scope scope since = record { types = scope.types; level = entries_level scope.level since }

abbrev mutual
  -- The questions of a row of parts.
  pub of_level : Scope → PartsBefore → {n : _} → Row_of-PartItem n → List Question
  of_level scope before end_of-PartItem = []
  of_level scope before (more_of-PartItem p rest) =
      around (codes ".") (part_name p) (of_part scope before p) ++ of_level scope (with_part scope before p) rest

  -- The questions of one part; a group's own parts are asked before the rules for its block.
  pub of_part : Scope → PartsBefore → PartItem → List Question
  of_part scope before (piece.Field f) = of_field scope before f
  of_part scope before (piece.Data d) = of_data scope before d
  of_part scope before (piece.Group' name id dimension since length n row) =
      here (dimension_rules scope.types dimension)
      ++ (here (part_rules scope.level before name (record { class = class.Group; since = since; is_fixed = false }))
      ++ (of_level (entries_scope scope since) no_part row
      ++ here (group_rules scope.level.around (members_named scope.types dimension) length (past_level (entries_scope scope since) no_part row).all)))

-- What is before a part that follows those of a list.
abbrev pub past_parts : Scope → PartsBefore → List PartItem → PartsBefore
past_parts scope before [] = before
past_parts scope before (p ∷ ps) = past_parts scope (with_part scope before p) ps

-- The questions of the parts of a list.
abbrev pub of_parts : Scope → PartsBefore → List PartItem → List Question
of_parts scope before [] = []
of_parts scope before (p ∷ ps) =
    around (codes ".") (part_name p) (of_part scope before p) ++ of_parts scope (with_part scope before p) ps

-- The questions of a message; its parts are asked before the rules for its block.
abbrev pub of_message : List Member → Scope → MessagesBefore → MessageEl → List Question
of_message header scope before m =
    here (message_rules scope.level.version before m)
    ++ (of_parts scope no_part m.children ++ here (message_end_rules header m (past_parts scope no_part m.children).all))

-- The questions of the messages in order, each after those before it.
abbrev pub of_messages : List Member → Scope → MessagesBefore → List MessageEl → List Question
of_messages header scope before [] = []
of_messages header scope before (m ∷ ms) =
    around (codes "messages/") m.name (of_message header scope before m) ++ of_messages header scope (with_message before m) ms

-- ---- the schema

-- The questions of an outline and messages.
abbrev pub of_outline : Outline → List MessageEl → List Question
of_outline outline messages =
    of_types outline.types [] outline.types
    ++ (around (codes "types/") outline.header_type (here (header_rules outline))
    ++ of_messages (header_members outline) (message_scope outline) no_message messages)

-- All rules that are asked of a schema, in order.
abbrev pub questions : Schema → List Question
questions schema = of_outline (outline_of schema) (messages_of schema)

-- The refusal of the first rule that is broken; if there is none, this schema.
abbrev pub check_by : List Question → WireSchema → CheckResult WireSchema
check_by [] schema = Ok schema
check_by (q ∷ qs) schema = if q.broken then Err (refused q.code q.path) else check_by qs schema
