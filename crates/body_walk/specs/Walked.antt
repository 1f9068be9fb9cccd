-- The message that a body is.
use Rattle.std.specs.Prelude.{◌≡◌, ℕ, Some, Result, Ok, Err, List, [], slice_get}
use Rattle.sbe_types.specs.declared.message.Msg.{Msg}
use Rattle.sbe_types.specs.declared.schema.Level.{Level}
use Rattle.sbe_types.specs.declared.schema.WireSchema.{WireSchema}
use Rattle.sbe_wire.specs.Faults.{Fault}
use Rattle.sbe_wire.specs.Reading.{message_of}
use Rattle.sbe_wire.specs.Versions.{mode_of}
use Rattle.schema_facts.specs.Levels.{root_of}
use Rattle.body_walk.specs.declared.body.Walked.{Walked}
use Rattle.body_walk.specs.Heads.{start_in}

-- a message without parts
abbrev pub no_message : Msg
no_message = record { template = 0; version = 0; block = record { fields = []; groups = []; parts = [] } }

-- the message that was read, or one without parts
abbrev pub read_message : Result Msg Fault → Msg
read_message (Ok m) = m
read_message (Err f) = no_message

-- the message that the body is
abbrev pub message_in : WireSchema → List ℕ → Msg
message_in schema body = read_message (message_of schema body)

-- the body is a message of this template and version, with this root level
pub record IsRead (schema : WireSchema) (level : Level) (body : List ℕ) (template version : ℕ) : Type 0 where
  pub reads : message_of schema body ≡ Ok (message_in schema body)
  pub template_is : (message_in schema body).template ≡ template
  pub version_is : (message_in schema body).version ≡ version
  pub level_is : slice_get schema.messages template ≡ Some level

-- what the walk gives is right for the message: its root's block is as long as the header says; the number of the
-- root's level, and how values are read, are those of its template and its version
pub record IsWalked (schema : WireSchema) (body : List ℕ) (w : Walked) : Type 0 where
  pub read : IsRead schema w.level.now body w.template w.start.version
  pub block_is : w.start.block ≡ (start_in schema body).block
  pub root_is : w.root ≡ root_of schema w.template
  pub mode_is : w.mode ≡ mode_of schema w.start.version
