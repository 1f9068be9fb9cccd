-- The frame of a writer, and the line that a reader prints for it. Own profile.
use Rattle.std.specs.Prelude.{◌≡◌, ℕ, Bool, true, List, [], ◌++◌, codes}
use Rattle.sbe_types.specs.declared.schema.WireSchema.{WireSchema}
use Rattle.sbe_types.specs.declared.message.Msg.{Msg}
use Rattle.sbe_wire.specs.Lays.{Lays}
use Rattle.open_framing.specs.Frames.{Item}
use Rattle.tree_json.specs.Lines.{line_of}
use Rattle.dump_lines.specs.Dumped.{encoding_of, IsDumped}
use Rattle.dump_lines.specs.declared.schemas.Schemas.{Schemas}

-- a writer with this schema sent the message in the frame: the encoding type is the schema's, and the message lies in
-- the body
pub record IsSent (schema : WireSchema) (m : Msg) (item : Item) : Type 0 where
  pub encoding : item.encoding ≡ encoding_of schema.order
  pub lies : Lays schema m item.body

-- the schemas of a run with only this one
abbrev pub alone : WireSchema → Schemas
alone schema = record { first = schema; also = [] }

-- the line of a message, with its line end
abbrev pub shown_line : WireSchema → Msg → List ℕ
shown_line schema m = line_of schema m ++ codes "\n"

-- the frame with this number is answered by this line of a message, and by nothing else
pub record IsShown (schemas : Schemas) (number : ℕ) (item : Item) (line : List ℕ) : Type 0 where
  pub answered : IsDumped schemas number item line true
  pub only : (other : List ℕ) (is_message : Bool) → IsDumped schemas number item other is_message → (other ≡ line) × (is_message ≡ true)
