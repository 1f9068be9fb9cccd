-- The checked schema of a schema tree, or the first rule that it breaks.
use Rattle.std.specs.Prelude.{ℕ, ◌||◌, not, nat_lt, nat_eq, is_none, List, [], ◌∷◌, ◌++◌, codes, unwrap_or, Ok}
use Rattle.std.specs.List.{list_any}
use Rattle.sbe_types.specs.declared.kind.Member.{Member}
use Rattle.sbe_types.specs.declared.schema.WireSchema.{WireSchema}
use Rattle.sbe_types.specs.declared.tree.Schema.{Schema}
use Rattle.sbe_types.specs.declared.tree.MessageEl.{MessageEl}
use Rattle.sbe_types.specs.declared.tree.TypesItem.{TypesItem}
use Rattle.schema_rules.specs.declared.codes.CCode.TheVariants as rule
use Rattle.schema_rules.specs.declared.levels.LevelFacts.{LevelFacts}
use Rattle.schema_rules.specs.Judging.{CheckResult, ◌>>=◌, Rules, first_of, at_element}
use Rattle.schema_rules.specs.Names.{declared_types, messages_of, is_among, names_fraction, type_named}
use Rattle.schema_rules.specs.CompositeRules.{types_check}
use Rattle.schema_rules.specs.Counters.{is_header, holds}
use Rattle.schema_rules.specs.Kinds.{members_named}
use Rattle.schema_rules.specs.PartRules.{Scope, no_part, parts_check, is_short, is_bad_block}
use Rattle.schema_rules.specs.Resolved.{resolved}

-- what the rules for the header type and for messages need of a schema
pub record Outline : Type 0 where
  pub types : List TypesItem
  pub header_type : List ℕ
  pub id : ℕ
  pub version : ℕ

-- The outline of a schema.
abbrev pub outline_of : Schema → Outline
outline_of schema =
    record { types = declared_types schema; header_type = schema.header_type; id = schema.id; version = schema.version }

-- The members of the header.
abbrev pub header_members : Outline → List Member
header_members outline = members_named outline.types outline.header_type

-- ---- the header type

-- C10 BadHeader: the header type isn't a composite of exactly the header's four members.
-- C18 Width: the schema's id or version doesn't fit its member.
abbrev pub header_rules : Outline → Rules
header_rules outline =
    (rule.UnknownType, is_none (type_named outline.types outline.header_type))
    ∷ ((rule.Float, names_fraction outline.types outline.header_type)
    ∷ ((rule.BadHeader, not (is_header (header_members outline)))
    ∷ ((rule.Width, not (holds (header_members outline) (codes "schemaId") outline.id) || not (holds (header_members outline) (codes "version") outline.version))
    ∷ [])))

-- ---- messages

-- the names and ids of the messages before
pub record MessagesBefore : Type 0 where
  pub names : List (List ℕ)
  pub ids : List ℕ

-- Before the first message.
abbrev pub no_message : MessagesBefore
no_message = record { names = []; ids = [] }

-- The messages before, and one more.
abbrev pub with_message : MessagesBefore → MessageEl → MessagesBefore
with_message before m = record { names = before.names ++ m.name ∷ []; ids = before.ids ++ m.id ∷ [] }

-- C13 DuplicateName: a message's name or id occurs earlier. C15 Since: its sinceVersion is above the schema's version.
abbrev pub message_rules : ℕ → MessagesBefore → MessageEl → Rules
message_rules version before m =
    (rule.DuplicateName, is_among before.names m.name || list_any (nat_eq m.id) before.ids)
    ∷ ((rule.Since, nat_lt version m.since_version)
    ∷ [])

-- C09 BlockShort: the stated blockLength is below the end of the fields. C18 Width: its block is above 1,048,576, or
-- its id or its block doesn't fit the header.
abbrev pub message_end_rules : List Member → MessageEl → LevelFacts → Rules
message_end_rules header m all =
    (rule.BlockShort, is_short m.block_length all.reached)
    ∷ ((rule.Width, not (holds header (codes "templateId") m.id) || is_bad_block header (unwrap_or m.block_length all.reached))
    ∷ [])

-- the scope of a message's parts; the message's own sinceVersion isn't counted
abbrev pub message_scope : Outline → Scope
message_scope outline = record { types = outline.types; level = record { version = outline.version; around = 0; since = 0 } }

-- One message: its own rules, its parts, and the rules that follow them.
abbrev pub message_check : List Member → Scope → MessagesBefore → MessageEl → CheckResult (Unit {0})
message_check header scope before m = do
  _ ← first_of (message_rules scope.level.version before m)
  parts ← parts_check scope no_part m.children
  first_of (message_end_rules header m parts.all)

-- The messages in order, each after those before it.
abbrev pub messages_check : List Member → Scope → MessagesBefore → List MessageEl → CheckResult (Unit {0})
messages_check header scope before [] = Ok tt
messages_check header scope before (m ∷ ms) = do
  _ ← at_element (codes "messages/") m.name (message_check header scope before m)
  messages_check header scope (with_message before m) ms

-- ---- the schema

-- the declared types in order, the header type, and the messages in order
abbrev pub tree_check : Outline → List MessageEl → CheckResult (Unit {0})
tree_check outline messages = do
  _ ← types_check outline.types [] outline.types
  _ ← at_element (codes "types/") outline.header_type (first_of (header_rules outline))
  messages_check (header_members outline) (message_scope outline) no_message messages

-- the schema with every type name resolved, or the first rule that an element breaks, with its path
abbrev pub checked_of : Schema → CheckResult WireSchema
checked_of schema = do
  _ ← tree_check (outline_of schema) (messages_of schema)
  Ok (resolved schema)
