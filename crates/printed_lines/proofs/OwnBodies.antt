-- The body of a message that was read, printed again and found canonical.
use Rattle.std.proofs.Common.{◌≡◌, ℕ, ◌≤◌, List, Option, Some, Ok, length, sym, ap, ◌∙◌, subst}
use Rattle.std.specs.Prelude.{slice_get}
use Rattle.std.specs.List.{All}
use Rattle.std.proofs.lemmas.List.Elements.{All-get_or}
use Rattle.std.proofs.lemmas.Option.{slice_get_within, get_or_from_slice_get}
use Rattle.byte_digits.specs.Digits.{IsBytes}
use Rattle.serde_json.specs.Written.{compact_text}
use Rattle.sbe_types.specs.declared.schema.Level.{Level}
use Rattle.sbe_types.specs.declared.schema.WireSchema.{WireSchema}
use Rattle.sbe_types.specs.declared.message.Msg.{Msg}
use Rattle.sbe_wire.specs.Fits.{Fits}
use Rattle.sbe_wire.specs.Lays.{Lays}
use Rattle.schema_facts.specs.IsChecked.{IsChecked}
use Rattle.writing_laws.proofs.MessageBack.{lies_fits}
use Rattle.writing_laws.proofs.MessageMisfit.{fits_none}
use Rattle.writable_schemas.proofs.CheckedSchemas.{schema_writable}
use Rattle.tree_json.specs.Lines.{line_of, message_at}
use Rattle.clean_bodies.specs.Bodies.{IsCanonicalOf}
use Rattle.flyweight_view.specs.TypedBlocks.{TypedMessage}
use Rattle.line_reading.specs.Lines.{tree_of}
use Rattle.line_laws.specs.LinesBack.{MessageHasBytes}
use Rattle.line_laws.proofs.MessageBack.{line_back}
use Rattle.printed_lines.specs.Bodies.{IsBodyOf, IsOwnBody}
use Rattle.printed_lines.specs.ByteConstants.{IsByteLevel}
use Rattle.printed_lines.proofs.BodyBytes.{lies_in_bytes}

some_level : {a b : Level} → ◌≡◌ {A = Option Level} (Some a) (Some b) → a ≡ b
some_level h = cc

-- the line that a message in a body of bytes is printed as holds the message
reads_back : (schema : WireSchema) (m : Msg) (level : Level) (line body : List ℕ) → IsChecked schema → Fits schema m → Lays schema m body → IsBytes body → slice_get schema.messages m.template ≡ Some level →
    IsByteLevel level → line ≡ compact_text (message_at (Some level) m) → tree_of schema line ≡ Ok m
reads_back schema m level line body checked fits lies good at constants printed =
    let is : line ≡ line_of schema m = printed ∙ ap (λ o. compact_text (message_at o m)) (sym at) in
    let bytes : MessageHasBytes schema m = λ l has. lies_in_bytes schema m body l has (subst IsByteLevel (some_level (sym at ∙ has)) constants) good lies in
    ap (tree_of schema) is ∙ line_back schema m checked bytes fits

-- what a view shows of a body
pub shown_own : (schema : WireSchema) (seen : TypedMessage) (template : ℕ) (line body : List ℕ) → IsChecked schema → All IsByteLevel schema.messages → IsBytes body → Lays schema seen.message body →
    slice_get schema.messages seen.message.template ≡ Some seen.level → template ≡ seen.message.template → seen.message.version ≡ schema.version →
    line ≡ compact_text (message_at (Some seen.level) seen.message) → IsCanonicalOf schema template body → IsOwnBody schema line body
shown_own schema seen template line body checked constants good lies at is current printed clean =
    let m : Msg = seen.message in
    let fits : Fits schema m = lies_fits schema checked.placed (schema_writable schema checked) m body good current lies in
    let here : IsByteLevel seen.level =
    subst IsByteLevel (get_or_from_slice_get schema.messages m.template seen.level seen.level at)
    (All-get_or IsByteLevel schema.messages m.template seen.level (slice_get_within schema.messages m.template seen.level at) constants) in
    record {
      m = m;
      read = reads_back schema m seen.level line body checked fits lies good at here printed;
      fits = fits;
      written = clean m (sym is) current lies;
    }

-- within a limit it is written
pub within_limit : (schema : WireSchema) (line body : List ℕ) (limit : ℕ) → IsChecked schema → IsOwnBody schema line body → length body ≤ limit → IsBodyOf schema line limit body
within_limit schema line body limit checked own within =
    (own.m, record { read = own.read; fits = fits_none schema own.m limit checked.placed (schema_writable schema checked) own.fits (body, own.written, within); written = own.written })
