-- The text of a message, by what its head and its places leave.
use Rattle.std.proofs.Common.{◌≡◌, ◌∷◌, ℕ, true, false, List, [], Option, Some, None, refl, sym, ap, subst, ◌∙◌}
use Rattle.tagvalue_codec.specs.declared.write.Phase.TheVariants.{Open}
use Rattle.tagvalue_codec.specs.Drafts.{Draft, begun, done}
use Rattle.tagvalue_codec.specs.Fields.{Field, bytes_of}
use Rattle.tagvalue_codec.specs.Texts.{text_over}
use Rattle.bridge_terms.specs.Parts.{TagLists}
use Rattle.bridge_terms.specs.MessageFields.{with_lengths}
use Rattle.bridge_terms.specs.Places.{Over, Places, Refused, Unsent, first_over, or_refused, place_fields}
use Rattle.message_walk.specs.declared.halt.Halt.{Halt}
use Rattle.message_walk.specs.Messages.{refusal_of, IsMessagePut, IsPutOr}
use Rattle.message_walk.specs.States.{State, after, outcome, text_size, with_fields}
use Rattle.message_walk.proofs.Messages.{message_put}
use Rattle.fix_messages.specs.Heads.{Head, field_places, head_fields, headed, no_lists}
use Rattle.fix_messages.specs.Texts.{message_text, or_later, text_refusal, IsHeadLeft, IsTextBy}
use Rattle.fix_messages.proofs.Heads.{no_text}

pub same_fields : (fs : List Field) → place_fields (field_places fs).places ≡ fs
same_fields [] = refl
same_fields (f ∷ fs) = ap (λ gs. f ∷ gs) (same_fields fs)

pub no_lengths : (fs : List Field) → with_lengths no_lists fs ≡ fs
no_lengths [] = refl
no_lengths (f ∷ fs) = ap (λ gs. f ∷ gs) (no_lengths fs)

module _ (lists : TagLists) (limit : ℕ) (kind : List ℕ) (head : Head) (all : Places) where
  abbrev blank : Draft
  blank = begun limit head.begin []

  abbrev head_left : State
  head_left = after no_lists blank (field_places (head_fields kind head))

  abbrev IsPut : Draft → Option Halt → Type 0
  IsPut d h = IsPutOr (refusal_of no_lists blank (field_places (head_fields kind head))) (with_fields no_lists blank (place_fields (field_places (head_fields kind head)).places)) d h

  head_put : IsPut head_left.draft head_left.halt
  head_put = message_put no_lists blank (field_places (head_fields kind head)) head_left refl refl

  whole_head : with_fields no_lists blank (place_fields (field_places (head_fields kind head)).places) ≡ headed limit kind head
  whole_head =
      ap (with_fields no_lists blank) (same_fields (head_fields kind head))
      ∙ ap (λ fs. begun limit head.begin (bytes_of fs)) (no_lengths (head_fields kind head))

  -- a field of the head has no room
  pub head_refused : (d : Draft) (h : Halt) (text : List ℕ) → IsHeadLeft head_left false d h → IsTextBy (text_refusal lists limit kind head all) text false d h
  head_refused d h text left =
      let told = subst (IsPut head_left.draft) left.0 head_put in
      subst (λ r. IsTextBy r text false d h) (sym (ap (λ u. or_later u (refusal_of lists (headed limit kind head) all)) told.1)) (refl, told.2, left.1)

  -- all of it is written
  head_written : (d : Draft) (h : Halt) → IsHeadLeft head_left true d h → (refusal_of no_lists blank (field_places (head_fields kind head)) ≡ None) × (d ≡ headed limit kind head)
  head_written d h left =
      let told : IsPut d None = subst (λ s. IsPut s.draft s.halt) left head_put in
      (told.0, told.1 ∙ whole_head)

  no_refusal : (d : Draft) (h : Halt) (later : Option Unsent) → IsHeadLeft head_left true d h → refusal_of lists (headed limit kind head) all ≡ later
      → text_refusal lists limit kind head all ≡ later
  no_refusal d h later left is = ap (λ u. or_later u (refusal_of lists (headed limit kind head) all)) (head_written d h left).0 ∙ is

  -- a place of the message isn't written
  pub message_refused : (d e : Draft) (h g : Halt) (text : List ℕ) → IsHeadLeft head_left true d h → e.phase ≡ Open → IsMessagePut lists d all (outcome false e g)
      → IsTextBy (text_refusal lists limit kind head all) text false e g
  message_refused d e h g text left begun put =
      let told : IsMessagePut lists (headed limit kind head) all (outcome false e g) = subst (λ d. IsMessagePut lists d all (outcome false e g)) (head_written d h left).1 put in
      subst (λ r. IsTextBy r text false e g) (sym (no_refusal d h (Some told.0) left told.1)) (refl, told.2, no_text e begun)

  -- all of it is
  pub message_written : (d e : Draft) (h g : Halt) → IsHeadLeft head_left true d h → IsMessagePut lists d all (outcome true e g)
      → IsTextBy (text_refusal lists limit kind head all) (message_text lists kind head (place_fields all.places)) true (done e) g
  message_written d e h g left put =
      let told : IsMessagePut lists (headed limit kind head) all (outcome true e g) = subst (λ d. IsMessagePut lists d all (outcome true e g)) (head_written d h left).1 put in
      subst (λ r. IsTextBy r (message_text lists kind head (place_fields all.places)) true (done e) g) (sym (no_refusal d h None left told.0)) (refl, ap (λ e. text_over e.begin e.body) told.1)

-- ---- no refusal

later_none : (a b : Option Unsent) → or_later a b ≡ None → b ≡ None
later_none None b is = is
later_none (Some u) b is = absurd cc

unrefused : (o : Option Over) (r : Option Refused) → or_refused o r ≡ None → r ≡ None
unrefused (Some o) r is = absurd cc
unrefused None None is = refl
unrefused None (Some u) is = absurd cc

pub none_refused : (lists : TagLists) (limit : ℕ) (kind : List ℕ) (head : Head) (all : Places) → text_refusal lists limit kind head all ≡ None → all.refused ≡ None
none_refused lists limit kind head all none =
    unrefused (first_over (text_size lists (headed limit kind head)) limit [] all.places) all.refused
    (later_none (refusal_of no_lists (begun limit head.begin []) (field_places (head_fields kind head))) (refusal_of lists (headed limit kind head) all) none)
