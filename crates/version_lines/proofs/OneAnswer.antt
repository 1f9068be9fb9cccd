-- A frame in which a message lies is answered by its line, and by nothing else.
use Rattle.std.proofs.Common.{◌≡◌, ℕ, refl, sym, ap, ◌∙◌, subst}
use Rattle.std.specs.Prelude.{codes}
use Rattle.sbe_types.specs.declared.schema.WireSchema.{WireSchema}
use Rattle.sbe_types.specs.declared.message.Msg.{Msg}
use Rattle.sbe_wire.specs.Lays.{Lays}
use Rattle.sbe_wire.specs.Placed.{IsPlaced}
use Rattle.sbe_wire.proofs.Messages.{one_message, not_both}
use Rattle.open_framing.specs.Frames.{Item}
use Rattle.layout_tables.specs.Heads.{header_number}
use Rattle.dump_lines.specs.Chosen.{schema_for}
use Rattle.dump_lines.specs.Dumped.{encoding_of, message_line, other_encoding, a_message, a_fault}
use Rattle.dump_lines.specs.declared.schemas.Schemas.{Schemas}
use Rattle.dump_lines.proofs.Finding.{lone_schema}
use Rattle.version_lines.specs.Answered.{IsSent, alone, shown_line, IsShown}

-- by the schema that the run chooses
chosen_shows : (schemas : Schemas) (item : Item) (m : Msg) (number : ℕ) → IsPlaced (schema_for schemas item.body) → item.encoding ≡ encoding_of schemas.first.order →
    Lays (schema_for schemas item.body) m item.body → IsShown schemas number item (message_line schemas (schema_for schemas item.body) m)
chosen_shows schemas item m number placed same lies =
    let schema = schema_for schemas item.body in
    record {
      answered = a_message same m lies refl refl;
      only = λ other is_message h. elim h [
        | other_encoding differs a b ↦ absurd (differs same)
        | a_message e n there a b ↦ (a ∙ ap (message_line schemas schema) (one_message schema placed n m item.body there lies), b)
        | a_fault e fault first a b ↦ absurd (not_both schema placed m fault item.body lies first)
      ];
    }

-- of several schemas
pub shows_among : (schemas : Schemas) (schema : WireSchema) (item : Item) (m : Msg) (number : ℕ) → IsPlaced schema → schema_for schemas item.body ≡ schema → item.encoding ≡ encoding_of schemas.first.order →
    Lays schema m item.body → IsShown schemas number item (message_line schemas schema m)
shows_among schemas schema item m number placed chosen same lies =
    subst (λ s. IsShown schemas number item (message_line schemas s m)) chosen
    (chosen_shows schemas item m number (subst IsPlaced (sym chosen) placed) same (subst (λ s. Lays s m item.body) (sym chosen) lies))

-- of one schema
pub shows : (schema : WireSchema) (item : Item) (m : Msg) (number : ℕ) → IsPlaced schema → item.encoding ≡ encoding_of schema.order → Lays schema m item.body →
    IsShown (alone schema) number item (shown_line schema m)
shows schema item m number placed same lies =
    shows_among (alone schema) schema item m number placed (sym (lone_schema (alone schema) (header_number schema (codes "schemaId") item.body) refl)) same lies

-- a frame of one schema's writer has the encoding type of another one of the same byte order
pub encoding_is : (schema other : WireSchema) (m : Msg) (item : Item) → IsSent schema m item → schema.order ≡ other.order → item.encoding ≡ encoding_of other.order
encoding_is schema other m item sent same = sent.encoding ∙ ap encoding_of same
