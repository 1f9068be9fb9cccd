-- What the fields of a head leave, written one after another.
use Rattle.std.proofs.Common.{◌≡◌, ◌≤◌, ◌<◌, ◌∷◌, ◌++◌, ℕ, Bool, true, false, List, [], length, Some, None, refl, sym, ap, ◌∙◌, arith}
use Rattle.std.specs.Prelude.{decimal}
use Rattle.std.specs.Fmt.{digits}
use Rattle.std.proofs.lemmas.List.{append-nil, map-append}
use Rattle.tagvalue_codec.specs.declared.write.Full.{Full}
use Rattle.tagvalue_codec.specs.declared.write.Phase.TheVariants.{Open}
use Rattle.tagvalue_codec.specs.Drafts.{Draft, IsFull, IsReady, begun, field_of, finished, finished_in, ready_bytes}
use Rattle.tagvalue_codec.specs.Fields.{Field, field_bytes, tag_bytes}
use Rattle.tagvalue_codec.specs.Texts.{is_locked, text_over}
use Rattle.bridge_terms.specs.Places.{Written, then_places}
use Rattle.message_walk.specs.declared.halt.Halt.{Halt}
use Rattle.message_walk.specs.declared.halt.Cause.TheVariants as cause
use Rattle.message_walk.specs.States.{State, after, fields_bytes, outcome}
use Rattle.message_walk.proofs.Fields.{taken, untaken}
use Rattle.message_walk.proofs.Steps.{step_on, step_off}
use Rattle.fix_messages.specs.Heads.{field_places, given, no_lists}
use Rattle.fix_messages.specs.Texts.{IsHeadLeft}

-- the places of fields and of further ones
places_both : (fs gs : List Field) → field_places (fs ++ gs) ≡ then_places (field_places fs) (field_places gs)
places_both fs gs = ap (λ (ps : List Written). record { places = ps; refused = None }) (map-append (λ (f : Field). record { way = []; fields = f ∷ [] }) fs gs)

-- fields that were written, and what further ones leave
pub fields_on : (d e : Draft) (h : Halt) (fs gs : List Field) → outcome true e h ≡ after no_lists d (field_places fs)
    → after no_lists d (field_places (fs ++ gs)) ≡ after no_lists e (field_places gs)
fields_on d e h fs gs done = ap (after no_lists d) (places_both fs gs) ∙ step_on no_lists d e h (field_places fs) (field_places gs) done

-- a field that wasn't
pub fields_off : (d e : Draft) (h : Halt) (fs gs : List Field) → outcome false e h ≡ after no_lists d (field_places fs)
    → outcome false e h ≡ after no_lists d (field_places (fs ++ gs))
fields_off d e h fs gs done = step_off no_lists d e h (field_places fs) (field_places gs) done ∙ ap (after no_lists d) (sym (places_both fs gs))

-- ---- one field

own_bytes : (tag : ℕ) (text : List ℕ) → fields_bytes no_lists (field_of tag text ∷ []) ≡ field_bytes (field_of tag text)
own_bytes tag text = append-nil (field_bytes (field_of tag text))

led_bytes : (tag : ℕ) (lead text : List ℕ) → lead ≡ tag_bytes tag → fields_bytes no_lists (field_of tag text ∷ []) ≡ ready_bytes lead text
led_bytes tag lead text same = own_bytes tag text ∙ ap (λ l. ready_bytes l text) (sym same)

-- the same by the bytes of its tag
pub led_on : (d e : Draft) (h : Halt) (tag : ℕ) (lead text : List ℕ) → lead ≡ tag_bytes tag → e ≡ begun d.limit d.begin (d.body ++ ready_bytes lead text)
    → length (text_over d.begin (d.body ++ ready_bytes lead text)) ≤ d.limit
    → outcome true e h ≡ after no_lists d (field_places (given tag (Some text)))
led_on d e h tag lead text same is fits = (taken no_lists d e h tag text (ready_bytes lead text) (led_bytes tag lead text same) is fits).0

pub led_off : (d e : Draft) (h : Halt) (tag : ℕ) (lead text : List ℕ) (full : Full) → lead ≡ tag_bytes tag → e ≡ d → h ≡ record { cause = cause.Full full.needed; way = [] }
    → IsFull d.limit d.begin (d.body ++ ready_bytes lead text) full
    → outcome false e h ≡ after no_lists d (field_places (given tag (Some text)))
led_off d e h tag lead text full same is halted over = (untaken no_lists d e h tag text (ready_bytes lead text) full (led_bytes tag lead text same) is halted over).0

pub field_on : (d e : Draft) (h : Halt) (tag : ℕ) (text : List ℕ) → e ≡ begun d.limit d.begin (d.body ++ field_bytes (field_of tag text))
    → length (text_over d.begin (d.body ++ field_bytes (field_of tag text))) ≤ d.limit
    → outcome true e h ≡ after no_lists d (field_places (given tag (Some text)))
field_on d e h tag text is fits = (taken no_lists d e h tag text (field_bytes (field_of tag text)) (own_bytes tag text) is fits).0

pub field_off : (d e : Draft) (h : Halt) (tag : ℕ) (text : List ℕ) (full : Full) → e ≡ d → h ≡ record { cause = cause.Full full.needed; way = [] }
    → IsFull d.limit d.begin (d.body ++ field_bytes (field_of tag text)) full
    → outcome false e h ≡ after no_lists d (field_places (given tag (Some text)))
field_off d e h tag text full is halted over = (untaken no_lists d e h tag text (field_bytes (field_of tag text)) full (own_bytes tag text) is halted over).0

-- ---- the tags of a head

sender_digits : decimal 49 ≡ 52 ∷ 57 ∷ []
unfolding digits
sender_digits = refl

target_digits : decimal 56 ≡ 53 ∷ 54 ∷ []
unfolding digits
target_digits = refl

number_digits : decimal 34 ≡ 51 ∷ 52 ∷ []
unfolding digits
number_digits = refl

time_digits : decimal 52 ≡ 53 ∷ 50 ∷ []
unfolding digits
time_digits = refl

-- two digits and =, as a tag begins a field
lead_of : (tag a b : ℕ) → decimal tag ≡ a ∷ b ∷ [] → a ∷ b ∷ 61 ∷ [] ≡ tag_bytes tag
lead_of tag a b is = sym (ap (λ (d : List ℕ). d ++ (61 ∷ [])) is)

pub sender_lead : 52 ∷ 57 ∷ 61 ∷ [] ≡ tag_bytes 49
sender_lead = lead_of 49 52 57 sender_digits

pub target_lead : 53 ∷ 54 ∷ 61 ∷ [] ≡ tag_bytes 56
target_lead = lead_of 56 53 54 target_digits

pub number_lead : 51 ∷ 52 ∷ 61 ∷ [] ≡ tag_bytes 34
number_lead = lead_of 34 51 52 number_digits

pub time_lead : 53 ∷ 50 ∷ 61 ∷ [] ≡ tag_bytes 52
time_lead = lead_of 52 53 50 time_digits

pub ready_lead : (tag : ℕ) (lead : List ℕ) → 10 < tag → tag < 100 → is_locked tag ≡ false → lead ≡ tag_bytes tag → IsReady lead
ready_lead tag lead above below unlocked is = record { tag = tag; tagged = record { above = omega arith; below = omega arith }; unlocked = unlocked; bytes_are = is }

-- ---- a head

pub no_text : (d : Draft) → d.phase ≡ Open → finished d ≡ []
no_text d begun = ap (λ p. finished_in p d) begun

pub left_by : (s : State) (r : Bool) (d : Draft) (h : Halt) → outcome r d h ≡ s → d.phase ≡ Open → IsHeadLeft s r d h
left_by s true d h is begun = sym is
left_by s false d h is begun = (ap (λ s. s.halt) (sym is), no_text d begun)

pub unstarted : (s : State) (d e : Draft) (h : Halt) → outcome false e h ≡ s → finished d ≡ [] → IsHeadLeft s false d h
unstarted s d e h is none = (ap (λ s. s.halt) (sym is), none)
