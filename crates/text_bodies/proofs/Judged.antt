-- The body of a message that was read and written as its text.
use Rattle.std.proofs.Common.{◌≡◌, ◌<◌, ℕ, List, Some, length, sym, ap, ◌∙◌, subst}
use Rattle.std.specs.Prelude.{slice_get}
use Rattle.byte_digits.specs.Digits.{IsBytes}
use Rattle.sbe_types.specs.declared.message.Msg.{Msg}
use Rattle.sbe_types.specs.declared.schema.Level.{Level}
use Rattle.sbe_types.specs.declared.schema.WireSchema.{WireSchema}
use Rattle.sbe_wire.specs.Lays.{Lays}
use Rattle.schema_facts.specs.IsChecked.{IsChecked}
use Rattle.writing_laws.proofs.MessageBack.{lies_fits}
use Rattle.writable_schemas.proofs.CheckedSchemas.{schema_writable}
use Rattle.clean_bodies.specs.Bodies.{IsCanonicalOf}
use Rattle.bridge_rules.specs.Rules.{Rule}
use Rattle.bridge_rules.proofs.OptionLemmas.{some_is}
use Rattle.bridge_terms.specs.Blocks.{values_of}
use Rattle.bridge_terms.specs.Places.{places_of}
use Rattle.bridge_terms.specs.Plans.{Plan}
use Rattle.bridge_terms.specs.Parts.{TagLists}
use Rattle.bridge_plan.specs.Covers.{plan_of}
use Rattle.flyweight_view.specs.TypedBlocks.{TypedBlock, TypedMessage, typed_level}
use Rattle.message_walk.specs.Rows.{AreRows, FitsBlock}
use Rattle.fix_messages.specs.declared.text.MessageRows.{MessageRows}
use Rattle.fix_messages.specs.Heads.{Head}
use Rattle.back_texts.specs.Backs.{HasFewFields, IsOwnMessage, IsReadBack, IsTextOf, IsWrittenAs, Writing}
use Rattle.text_bodies.specs.Bodies.{IsBodyOfText, IsHeadFor, IsPlannedBy, Reading}

-- the law of messages and their texts
abbrev pub AreOfTheirTexts : Type 0
AreOfTheirTexts =
    (schema : WireSchema) (by : Writing) (message : Msg) (text body : List ℕ) → IsOwnMessage schema by.level message body → IsWrittenAs by message text → IsReadBack by message text

-- what is known of a view of a body: a message of the template and of the schema's own version lies there
pub record IsViewOf (schema : WireSchema) (template : ℕ) (body : List ℕ) (seen : TypedMessage) : Type 0 where
  pub checked : IsChecked schema
  pub bytes : IsBytes body
  pub lies : Lays schema seen.message body
  pub there : slice_get schema.messages seen.message.template ≡ Some seen.level
  pub template_is : seen.message.template ≡ template
  pub version : seen.message.version ≡ schema.version
  pub clean : IsCanonicalOf schema template body

-- the message is written as the text with this head, whatever plan the rows belong to
abbrev pub IsWrittenBy : {R : Type 0} → (R → Rule → Type 0) → MessageRows R → ℕ → Head → List ℕ → TypedBlock → Type 0
IsWrittenBy spells own limit head text root =
    (lists : TagLists) (p : Plan) → AreRows spells lists p own.rows.now → FitsBlock p root
    → IsTextOf lists limit own.msg_type.now head (places_of p (values_of p root.block)) text

module _ {R : Type 0} (spells : R → Rule → Type 0) (law : AreOfTheirTexts) (schema : WireSchema) (template limit : ℕ) (own : MessageRows R) (head : Head)
    (text body : List ℕ) (seen : TypedMessage) (is : IsViewOf schema template body seen) (put : IsWrittenBy spells own limit head text (typed_level seen.level seen.message.block))
    (few : HasFewFields text) (short : length text < 1000000000) (r : Reading) (by : IsPlannedBy spells schema template own r) (good : IsHeadFor head r) where
  level_is : seen.level ≡ r.level
  level_is = some_is (sym is.there ∙ ap (slice_get schema.messages) is.template_is ∙ by.there)

  here : IsWrittenBy spells own limit head text (typed_level r.level seen.message.block)
  here = subst (λ (l : Level). IsWrittenBy spells own limit head text (typed_level l seen.message.block)) level_is put

  abbrev p : Plan
  p = plan_of r.m r.s r.level

  abbrev writing : Writing
  writing = record { m = r.m; s = r.s; level = r.level; tags = r.tags; head = head }

  message_written : IsWrittenAs writing seen.message text
  message_written = record {
    plan = by.plan;
    good = good;
    limit = limit;
    written = subst (λ (kind : List ℕ). IsTextOf r.m.lists limit kind head (places_of p (values_of p seen.message.block)) text) by.kind (here r.m.lists p by.rows by.fits);
    few = few;
    short = short;
  }

  own_message : IsOwnMessage schema r.level seen.message body
  own_message = record {
    checked = is.checked;
    there = ap (slice_get schema.messages) is.template_is ∙ by.there;
    version = is.version;
    bytes = is.bytes;
    lies = is.lies;
  }

  pub body_is : IsBodyOfText schema template r text body
  body_is =
      let back : IsReadBack writing seen.message text = law schema writing seen.message text body own_message message_written in
      record {
        fields = back.fields;
        read = back.read;
        message = seen.message;
        template_is = is.template_is;
        version = is.version;
        is = back.is;
        fits = lies_fits schema is.checked.placed (schema_writable schema is.checked) seen.message body is.bytes is.version is.lies;
        written = is.clean seen.message is.template_is is.version is.lies;
      }
