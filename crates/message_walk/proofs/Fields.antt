-- A field that a writer takes, or has no room for.
use Rattle.std.proofs.Common.{◌≡◌, ◌≤◌, ◌<◌, ℕ, true, false, List, [], ◌∷◌, ◌++◌, length, Some, None, Ok, refl, sym, ap, subst, ◌∙◌}
use Rattle.std.specs.Prelude.{decimal, min, if◌then◌else◌}
use Rattle.std.proofs.lemmas.List.{append-nil}
use Rattle.std.proofs.lemmas.Bool.{le-ltb, lt-ltb}
use Rattle.tagvalue_codec.specs.declared.write.Full.{Full}
use Rattle.tagvalue_codec.specs.Fields.{Field, tag_bytes, field_bytes, bytes_of}
use Rattle.tagvalue_codec.specs.Drafts.{Draft, IsFull, begun, ready_bytes, ready_data_bytes}
use Rattle.tagvalue_codec.specs.Texts.{text_over}
use Rattle.bridge_terms.specs.Parts.{TagLists}
use Rattle.bridge_terms.specs.MessageFields.{after_length, length_in}
use Rattle.message_walk.specs.declared.halt.Halt.{Halt}
use Rattle.message_walk.specs.declared.halt.Cause.TheVariants as cause
use Rattle.message_walk.specs.declared.put.Put.TheVariants as put
use Rattle.message_walk.specs.States.{fields_bytes, full_at, is_over, text_size, with_fields, IsPut}

abbrev field : ℕ → List ℕ → Field
field tag text = record { tag = tag; value = text }

-- the bytes of one field, by those of its tag
one_field : (lists : TagLists) (lead : List ℕ) (tag : ℕ) (text : List ℕ) → lead ≡ tag_bytes tag → length_in tag lists.lengths ≡ None
    → fields_bytes lists (field tag text ∷ []) ≡ ready_bytes lead text
one_field lists lead tag text same unpaired =
    ap (λ o. bytes_of (after_length o (field tag text) ++ [])) unpaired
    ∙ append-nil (field_bytes (field tag text)) ∙ ap (λ l. ready_bytes l text) (sym same)

-- the same of a data field after its length field
one_data : (lists : TagLists) (length_lead lead : List ℕ) (own tag : ℕ) (text : List ℕ) → length_lead ≡ tag_bytes own → lead ≡ tag_bytes tag
    → length_in tag lists.lengths ≡ Some own → fields_bytes lists (field tag text ∷ []) ≡ ready_data_bytes length_lead lead text
one_data lists length_lead lead own tag text first second paired =
    ap (λ o. bytes_of (after_length o (field tag text) ++ [])) paired
    ∙ ap (λ more. field_bytes (field own (decimal (length text))) ++ more) (append-nil (field_bytes (field tag text)))
    ∙ ap (λ l. ready_bytes l (decimal (length text)) ++ field_bytes (field tag text)) (sym first)
    ∙ ap (λ l. ready_bytes length_lead (decimal (length text)) ++ ready_bytes l text) (sym second)

-- a field by its bytes that was taken
pub taken : (lists : TagLists) (d e : Draft) (h : Halt) (tag : ℕ) (text piece : List ℕ) → fields_bytes lists (field tag text ∷ []) ≡ piece
    → e ≡ begun d.limit d.begin (d.body ++ piece) → length (text_over d.begin (d.body ++ piece)) ≤ d.limit
    → IsPut lists d tag (Ok (Some text)) (record { put = put.Written; draft = e; halt = h })
taken lists d e h tag text piece bytes is fits =
    let within : is_over lists d (field tag text ∷ []) ≡ false =
    le-ltb d.limit (text_size lists d (field tag text ∷ [])) (subst (λ p. length (text_over d.begin (d.body ++ p)) ≤ d.limit) (sym bytes) fits) in (
      ap (λ e. record { draft = e; halt = None }) (is ∙ ap (λ p. begun d.limit d.begin (d.body ++ p)) (sym bytes))
          ∙ sym (ap (λ b. if b then record { draft = d; halt = Some (full_at lists d (record { way = []; fields = field tag text ∷ [] })) } else record { draft = with_fields lists d (field tag text ∷ []); halt = None }) within),
      refl,
    )

-- one that had no room
pub untaken : (lists : TagLists) (d e : Draft) (h : Halt) (tag : ℕ) (text piece : List ℕ) (full : Full) → fields_bytes lists (field tag text ∷ []) ≡ piece
    → e ≡ d → h ≡ record { cause = cause.Full full.needed; way = [] } → IsFull d.limit d.begin (d.body ++ piece) full
    → IsPut lists d tag (Ok (Some text)) (record { put = put.Refused; draft = e; halt = h })
untaken lists d e h tag text piece full bytes is halted over =
    let above : is_over lists d (field tag text ∷ []) ≡ true =
    lt-ltb d.limit (text_size lists d (field tag text ∷ [])) (subst (λ p. d.limit < length (text_over d.begin (d.body ++ p))) (sym bytes) over.over) in
    let needed : full.needed ≡ min (text_size lists d (field tag text ∷ [])) 18446744073709551615 =
    over.needed ∙ ap (λ p. min (length (text_over d.begin (d.body ++ p))) 18446744073709551615) (sym bytes) in (
      ap (λ d. record { draft = d; halt = Some h }) is
          ∙ ap (λ h. record { draft = d; halt = Some h }) (halted ∙ ap (λ n. record { cause = cause.Full n; way = [] }) needed)
          ∙ sym (ap (λ b. if b then record { draft = d; halt = Some (full_at lists d (record { way = []; fields = field tag text ∷ [] })) } else record { draft = with_fields lists d (field tag text ∷ []); halt = None }) above),
      refl,
    )

pub field_taken : (lists : TagLists) (d e : Draft) (h : Halt) (lead : List ℕ) (tag : ℕ) (text : List ℕ) → lead ≡ tag_bytes tag → length_in tag lists.lengths ≡ None
    → e ≡ begun d.limit d.begin (d.body ++ ready_bytes lead text) → length (text_over d.begin (d.body ++ ready_bytes lead text)) ≤ d.limit
    → IsPut lists d tag (Ok (Some text)) (record { put = put.Written; draft = e; halt = h })
field_taken lists d e h lead tag text same unpaired is fits = taken lists d e h tag text (ready_bytes lead text) (one_field lists lead tag text same unpaired) is fits

pub field_untaken : (lists : TagLists) (d e : Draft) (h : Halt) (lead : List ℕ) (tag : ℕ) (text : List ℕ) (full : Full) → lead ≡ tag_bytes tag → length_in tag lists.lengths ≡ None
    → e ≡ d → h ≡ record { cause = cause.Full full.needed; way = [] } → IsFull d.limit d.begin (d.body ++ ready_bytes lead text) full
    → IsPut lists d tag (Ok (Some text)) (record { put = put.Refused; draft = e; halt = h })
field_untaken lists d e h lead tag text full same unpaired is halted over =
    untaken lists d e h tag text (ready_bytes lead text) full (one_field lists lead tag text same unpaired) is halted over

pub data_taken : (lists : TagLists) (d e : Draft) (h : Halt) (length_lead lead : List ℕ) (own tag : ℕ) (text : List ℕ) → length_lead ≡ tag_bytes own → lead ≡ tag_bytes tag
    → length_in tag lists.lengths ≡ Some own
    → e ≡ begun d.limit d.begin (d.body ++ ready_data_bytes length_lead lead text) → length (text_over d.begin (d.body ++ ready_data_bytes length_lead lead text)) ≤ d.limit
    → IsPut lists d tag (Ok (Some text)) (record { put = put.Written; draft = e; halt = h })
data_taken lists d e h length_lead lead own tag text first second paired is fits =
    taken lists d e h tag text (ready_data_bytes length_lead lead text) (one_data lists length_lead lead own tag text first second paired) is fits

pub data_untaken : (lists : TagLists) (d e : Draft) (h : Halt) (length_lead lead : List ℕ) (own tag : ℕ) (text : List ℕ) (full : Full) → length_lead ≡ tag_bytes own → lead ≡ tag_bytes tag
    → length_in tag lists.lengths ≡ Some own → e ≡ d → h ≡ record { cause = cause.Full full.needed; way = [] }
    → IsFull d.limit d.begin (d.body ++ ready_data_bytes length_lead lead text) full
    → IsPut lists d tag (Ok (Some text)) (record { put = put.Refused; draft = e; halt = h })
data_untaken lists d e h length_lead lead own tag text full first second paired is halted over =
    untaken lists d e h tag text (ready_data_bytes length_lead lead text) full (one_data lists length_lead lead own tag text first second paired) is halted over
