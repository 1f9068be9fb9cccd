-- Limits: a draft keeps its own, and a text that isn't refused is within it.
use Rattle.std.proofs.Common.{◌≡◌, ◌≤◌, ◌∷◌, ◌++◌, inl, inr, ℕ, Bool, true, false, cond, List, [], length, Option, Some, None, refl, sym, ap, subst, ◌∙◌}
use Rattle.std.specs.Prelude.{nat_lt}
use Rattle.std.proofs.lemmas.Bool.{ltb-false}
use Rattle.std.proofs.lemmas.List.{append-nil}
use Rattle.bridge_rules.proofs.BoolLemmas.{either, if_true, if_false}
use Rattle.tagvalue_codec.specs.Drafts.{Draft, begun, typed}
use Rattle.tagvalue_codec.specs.Fields.{Field, bytes_of}
use Rattle.tagvalue_codec.specs.Texts.{text_over}
use Rattle.bridge_terms.specs.MessageFields.{with_lengths}
use Rattle.bridge_terms.specs.Parts.{TagLists}
use Rattle.bridge_terms.specs.Places.{Over, Places, Refused, Unsent, Written, first_over, or_refused, place_fields}
use Rattle.bridge_terms.proofs.Limits.{under_limit}
use Rattle.message_walk.specs.declared.halt.Halt.{Halt}
use Rattle.message_walk.specs.Messages.{refusal_of}
use Rattle.message_walk.specs.States.{State, after, after_places, full_at, is_over, outcome, text_size, with_fields}
use Rattle.fix_messages.specs.Heads.{Head, field_places, given_fields, head_fields, headed, no_lists}
use Rattle.fix_messages.specs.Texts.{message_text, or_later, text_refusal}
use Rattle.fix_messages.proofs.Texts.{no_lengths, same_fields}

-- ---- a draft keeps its limit

either_limit : (b : Bool) (n : ℕ) (s t : State) → s.draft.limit ≡ n → t.draft.limit ≡ n → (cond b s t).draft.limit ≡ n
either_limit true n s t h k = h
either_limit false n s t h k = k

places_limit : (lists : TagLists) (d : Draft) (xs : List Written) (r : Option Refused) → (after_places lists d xs r).draft.limit ≡ d.limit
places_limit lists d [] r = refl
places_limit lists d (x ∷ xs) r =
    either_limit (is_over lists d x.fields) d.limit (record { draft = d; halt = Some (full_at lists d x) }) (after_places lists (with_fields lists d x.fields) xs r) refl
    (places_limit lists (with_fields lists d x.fields) xs r)

outcome_draft : (b : Bool) (e : Draft) (h : Halt) → (outcome b e h).draft ≡ e
outcome_draft true e h = refl
outcome_draft false e h = refl

pub kept_limit : (lists : TagLists) (d e : Draft) (h : Halt) (b : Bool) (all : Places) → outcome b e h ≡ after lists d all → e.limit ≡ d.limit
kept_limit lists d e h b all is =
    ap (λ (d : Draft). d.limit) (sym (outcome_draft b e h)) ∙ ap (λ (s : State). s.draft.limit) is ∙ places_limit lists d all.places all.refused

-- ---- a text is within its limit

no_over : (o : Option Over) (r : Option Refused) → or_refused o r ≡ None → o ≡ None
no_over None r is = refl
no_over (Some o) r is = absurd cc

both_none : (a b : Option Unsent) → or_later a b ≡ None → (a ≡ None) × (b ≡ None)
both_none None b is = (refl, is)
both_none (Some u) b is = absurd cc

some_none : {A Z : Type 0} {x : A} → ◌≡◌ {A = Option A} (Some x) None → Z
some_none h = absurd cc

first_within : (size : List Field → ℕ) (limit : ℕ) (x : Written) (xs : List Written) → first_over size limit [] (x ∷ xs) ≡ None → size (x.fields ++ place_fields xs) ≤ limit
first_within size limit x xs none = elim (either (nat_lt limit (size x.fields))) [
  | inl t ↦ some_none (sym (if_true (nat_lt limit (size x.fields)) (Some (record { way = x.way; size = size x.fields })) (first_over size limit x.fields xs) t) ∙ none)
  | inr f ↦
      under_limit size limit x.fields xs (ltb-false limit (size x.fields) f)
      (sym (if_false (nat_lt limit (size x.fields)) (Some (record { way = x.way; size = size x.fields })) (first_over size limit x.fields xs) f) ∙ none)
]

module _ (lists : TagLists) (limit : ℕ) (kind : List ℕ) (head : Head) (all : Places) where
  abbrev blank : Draft
  blank = begun limit head.begin []

  abbrev heads : Places
  heads = field_places (head_fields kind head)

  head_within : first_over (text_size no_lists blank) limit [] heads.places ≡ None → length (text_over head.begin (bytes_of (head_fields kind head))) ≤ limit
  head_within none =
      let own : text_size no_lists blank (place_fields heads.places) ≤ limit =
      first_within (text_size no_lists blank) limit (record { way = []; fields = typed kind ∷ [] }) (field_places (given_fields head)).places none in
      subst (λ fields. length (text_over head.begin (bytes_of fields)) ≤ limit) (ap (with_lengths no_lists) (same_fields (head_fields kind head)) ∙ no_lengths (head_fields kind head)) own

  pub text_within : text_refusal lists limit kind head all ≡ None → length (message_text lists kind head (place_fields all.places)) ≤ limit
  text_within none =
      let parts = both_none (refusal_of no_lists blank heads) (refusal_of lists (headed limit kind head) all) none in
      let begun_so = head_within (no_over (first_over (text_size no_lists blank) limit [] heads.places) heads.refused parts.0) in
      under_limit (text_size lists (headed limit kind head)) limit [] all.places
      (subst (λ bytes. length (text_over head.begin bytes) ≤ limit) (sym (append-nil (bytes_of (head_fields kind head)))) begun_so)
      (no_over (first_over (text_size lists (headed limit kind head)) limit [] all.places) all.refused parts.1)
