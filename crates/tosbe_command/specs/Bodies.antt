-- The body of the message that a text is translated to. Own profile.
use Rattle.std.specs.Prelude.{◌≡◌, ℕ, List, Some}
use Rattle.sbe_types.specs.declared.message.Msg.{Msg}
use Rattle.sbe_wire.specs.Canonical.{canonical}
use Rattle.sbe_wire.specs.Fits.{Fits}
use Rattle.tagvalue_codec.specs.Fields.{Field}
use Rattle.tagvalue_codec.specs.Texts.{FixText}
use Rattle.fixcheck_command.specs.FixCheck.{type_of}
use Rattle.sbe_translation.specs.Translations.{IsMessage}
use Rattle.tosbe_command.specs.Bridges.{mapping_in, tags_in, BackBridge}

-- The body is the canonical one of the message of a text of these fields, which fits the schema.
pub record IsTextBody (b : BackBridge) (fields : List Field) (body : List ℕ) : Type 0 where
  pub message : Msg
  pub is : IsMessage (mapping_in b) b.schema (type_of fields) fields message
  pub fits : Fits b.schema message
  pub written : canonical b.schema message ≡ Some body

-- The bytes are a text, and the body is that of its message.
pub record IsTextWithBody (b : BackBridge) (text body : List ℕ) : Type 0 where
  pub fields : List Field
  pub read : FixText (tags_in b) fields text
  pub own : IsTextBody b fields body
