-- A text that a message is written as is read as fields that are translated to this message.
use Rattle.std.proofs.Common.{◌≡◌, ◌<◌, ℕ, true, List, [], ◌∷◌, ◌++◌, length, Ok, refl, sym, ◌∙◌, subst}
use Rattle.sbe_types.specs.declared.message.Msg.{Msg}
use Rattle.sbe_types.specs.declared.message.Value.{Value}
use Rattle.sbe_types.specs.declared.schema.Level.{Level}
use Rattle.sbe_types.specs.declared.schema.WireSchema.{WireSchema}
use Rattle.sbe_wire.specs.Fits.{BlockFits, Fits}
use Rattle.writing_laws.proofs.MessageBack.{lies_fits}
use Rattle.writable_schemas.proofs.CheckedSchemas.{schema_writable}
use Rattle.tagvalue_codec.specs.Drafts.{typed}
use Rattle.tagvalue_codec.specs.Fields.{Field}
use Rattle.tagvalue_codec.specs.Texts.{FixText, fields_over, size_field, sized, sum_field}
use Rattle.bridge_rules.specs.Good.{IsItemForm}
use Rattle.bridge_rules.proofs.OptionLemmas.{some_is}
use Rattle.bridge_terms.specs.Blocks.{IsBackBlock, values_of}
use Rattle.bridge_terms.specs.MessageFields.{fields_of}
use Rattle.bridge_terms.specs.Parts.{TagLists}
use Rattle.bridge_terms.specs.Places.{place_fields}
use Rattle.bridge_terms.specs.PlanFacts.{EachRule, EachValue}
use Rattle.bridge_terms.specs.Plans.{Each, Plan, Tree, done, single, group, is_in}
use Rattle.bridge_terms.proofs.Telling.{told_fields}
use Rattle.bridge_terms.proofs.Writing.{each_more}
use Rattle.bridge_plan.specs.Covers.{plan_of}
use Rattle.bridge_plan.specs.Translation.{Draft}
use Rattle.bridge_plan.proofs.BackFits.{KindsAreWritable}
use Rattle.bridge_plan.proofs.Canonical.{fitting_canonical}
use Rattle.bridge_plan.proofs.FittingMessages.{fits_come_back}
use Rattle.bridge_plan.proofs.SchemaGives.{checked_kinds}
use Rattle.bridge_plan.proofs.Translating.{canonical_back}
use Rattle.fix_messages.specs.Heads.{given_fields}
use Rattle.fix_messages.specs.Texts.{message_text}
use Rattle.fix_messages.proofs.Texts.{none_refused}
use Rattle.back_texts.specs.Backs.{HasFewFields, IsExact, IsHeader, IsOwnMessage, IsReadBack, IsWrittenAs, Writing, kind_by, places_by}
use Rattle.back_texts.proofs.Following.{given_follow}
use Rattle.back_texts.proofs.Passing.{front_fields, front_headed, text_fields}
use Rattle.back_texts.proofs.Texts.{between, between_few, body_bytes, fields_short, sent_text}

-- ---- values in the one form of their item

each_of : {X : Type 0} (P : X → Type 0) → ((x : X) → P x) → (xs : List X) → Each P xs
each_of P all [] = tt
each_of P all (x ∷ xs) = (all x, each_of P all xs)

exact_values : (p : Plan) (t : Tree Value p) → EachRule IsExact p → EachValue IsItemForm p t
exact_values done t exact = tt
exact_values (single s rest) t exact = (exact.0 t.0, exact_values rest t.1 exact.1)
exact_values (group g inner rest) t exact = (each_of (λ e. EachValue IsItemForm inner e) (λ e. exact_values inner e exact.0) t.0, exact_values rest t.1 exact.1)

-- ---- a message

module _ (schema : WireSchema) (by : Writing) (message : Msg) (text body : List ℕ) (is : IsOwnMessage schema by.level message body) (so : IsWrittenAs by message text) where
  abbrev p : Plan
  p = plan_of by.m by.s by.level

  abbrev values : Tree Value p
  values = values_of p message.block

  abbrev lists : TagLists
  lists = by.m.lists

  abbrev own : List Field
  own = place_fields (places_by by message).places

  written : fields_of p values ≡ Ok own
  written = told_fields p values (none_refused lists so.limit (kind_by by) by.head (places_by by message) so.written.unrefused)

  fits : BlockFits schema.order by.level message.block
  fits =
      let whole : Fits schema message = lies_fits schema is.checked.placed (schema_writable schema is.checked) message body is.bytes is.version is.lies in
      subst (λ (l : Level). BlockFits schema.order l message.block) (some_is (sym whole.1 ∙ is.there)) whole.3

  abbrev text_body : List ℕ
  text_body = body_bytes lists (kind_by by) by.head own

  -- the fields of the text
  abbrev fields : List Field
  fields = fields_over by.head.begin (typed (kind_by by)) (between lists (kind_by by) by.head own) text_body

  read : FixText by.tags fields text
  read =
      let come = fits_come_back schema.order by.m by.s by.level message.block (record { head = []; fields = own }) so.plan.plan.covered tt fits written in
      let small : length (message_text lists (kind_by by) by.head own) < 1000000000 = subst (λ (t : List ℕ). length t < 1000000000) so.written.is so.short in
      let few : HasFewFields (message_text lists (kind_by by) by.head own) = subst (λ (t : List ℕ). HasFewFields t) so.written.is so.few in
      let follow = given_follow by.m by.s by.level values own by.tags (given_fields by.head) so.plan.pairs so.plan.tagged so.good.framed so.good.alone so.plan.plan.covered so.plan.plan.clear
      come.there.shown come.there.counted written (fields_short lists (kind_by by) by.head own 1000000000 small) in
      subst (λ (t : List ℕ). FixText by.tags fields t) (sym so.written.is)
      (sent_text lists (kind_by by) by.head own by.tags so.good.begin so.good.typed small follow (between_few lists (kind_by by) by.head own few))

  -- the fields of the text, without the last one, as a draft
  abbrev draft : Draft
  draft = record { head = front_fields lists so.good.framed (kind_by by) by.head own text_body; fields = own }

  headed : Each (λ f. is_in f.tag lists.header ≡ true) draft.head
  headed =
      front_headed lists so.good.framed (kind_by by) by.head own text_body
      (each_more (IsHeader by.tags lists) (λ f. is_in f.tag lists.header ≡ true) (λ f h. h.header) (given_fields by.head) so.good.given)

  pub message_back : KindsAreWritable → IsReadBack by message text
  message_back writable =
      let kinds = checked_kinds schema by.s message.template by.level is.checked is.there in
      let canonical = fitting_canonical writable schema.order by.m by.s by.level message.block draft kinds.0 kinds.1 so.plan.plan.covered headed fits (exact_values p values so.plan.plan.exact) written in
      record {
        fields = fields;
        read = record {
          read = read;
          begin = record { tag = 8; value = by.head.begin };
          size = size_field (length text_body);
          others = between lists (kind_by by) by.head own ++ (sum_field (sized by.head.begin text_body) ∷ []);
          are = refl;
        };
        is = subst (λ (fs : List Field). IsBackBlock by.level p fs message.block) (sym (text_fields lists so.good.framed (kind_by by) by.head own text_body))
            (canonical_back by.m by.s by.level message.block draft canonical);
      }
