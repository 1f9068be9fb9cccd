-- The head that words give may begin a text.
use Rattle.std.proofs.Common.{◌≡◌, ◌≢◌, ◌≤◌, ◌<◌, ℕ, zero, suc, Bool, true, false, List, [], ◌∷◌, length, Option, Some, None, refl, ap, subst, arith, ◌∙◌, sym}
use Rattle.std.specs.Prelude.{◌&&◌, nat_le, nat_lt}
use Rattle.std.specs.List.{list_all, AllByRecursion}
use Rattle.std.proofs.lemmas.Bool.{leb-true}
use Rattle.std.proofs.lemmas.Bool.Decides.{nat_tests}
use Rattle.tagvalue_codec.specs.Drafts.{IsValue}
use Rattle.tagvalue_codec.specs.Fields.{soh}
use Rattle.command_words.specs.declared.options.HeadWords.{HeadWords}
use Rattle.command_words.specs.declared.options.TheConstants.{MOST_FIELD_BYTES}
use Rattle.command_words.specs.Words.{is_field_text, is_printed, HasFields, IsField}
use Rattle.fix_messages.specs.Heads.{Head, IsGivenValue, IsHeadReady}
use Rattle.tofix_replies.specs.ToFix.{head_after}
use Rattle.tofix_command.specs.Bridges.{head_in, seq_in}

both : (a b : Bool) → (a && b) ≡ true → (a ≡ true) × (b ≡ true)
both true true h = (refl, refl)
both true false h = cc
both false b h = cc

printed_plain : (b : ℕ) → is_printed b ≡ true → b ≢ soh
printed_plain b h same =
    let blank = leb-true 32 b (both (nat_le 32 b) (nat_le b 126) h).0 in
    omega (arith, blank, same)

all_plain : (bs : List ℕ) → list_all is_printed bs ≡ true → AllByRecursion (λ b. b ≢ soh) bs
all_plain [] h = tt
all_plain (b ∷ bs) h =
    let is = both (is_printed b) (list_all is_printed bs) h in
    (printed_plain b is.0, all_plain bs is.1)

some_bytes : (n : ℕ) → nat_lt 0 n ≡ true → 0 < n
some_bytes n h = grind (arith, nat_tests)

-- a header field may be the value of a field
field_value : (text : List ℕ) → is_field_text text ≡ true → IsValue text
field_value text h =
    let is = both (nat_lt 0 (length text) && nat_le (length text) MOST_FIELD_BYTES) (list_all is_printed text) h in
    let some = (both (nat_lt 0 (length text)) (nat_le (length text) MOST_FIELD_BYTES) is.0).0 in
    record { some = some_bytes (length text) some; plain = all_plain text is.1 }

given_value : (text : Option (List ℕ)) → IsField text → IsGivenValue text
given_value None h = tt
given_value (Some text) h = field_value text h

pub head_ready : (words : HeadWords) → HasFields words → IsHeadReady (head_in words)
head_ready words h = record {
  begin = field_value words.begin h.begin;
  sender = given_value words.sender h.sender;
  target = given_value words.target h.target;
  time = given_value words.time h.time;
}

-- the head of a later text is as ready
pub ready_after : (translated : ℕ) (head : Head) → IsHeadReady head → IsHeadReady (head_after translated head)
ready_after translated head h = record { begin = h.begin; sender = h.sender; target = h.target; time = h.time }

-- ---- the sequence number of the first text

pub no_number : (n : ℕ) → n ≡ 0 → None ≡ seq_in n
no_number zero h = refl
no_number (suc n) h = absurd (omega (arith, h))

pub first_number : (n : ℕ) → (n ≡ 0 → ⊥) → Some n ≡ seq_in n
first_number zero h = absurd (h refl)
first_number (suc n) h = refl
