-- Texts that are written, run by run.
use Rattle.std.proofs.Common.{◌≡◌, ℕ, suc, ◌+◌, ◌-◌, ◌<◌, ◌≤◌, ◌==◌, ◌||◌, Bool, true, false, List, [], ◌∷◌, ◌++◌, length, take, drop, get_or, Ok, refl, sym, ap, ◌∙◌, arith, subst, append-nil, append_assoc, take-append-drop, eq-eqb, length-take-le, length-drop}
use Rattle.std.proofs.lemmas.Bool.Decides.{nat_tests}
use Rattle.std.proofs.lemmas.List.{drop-take}
use Rattle.std.proofs.Math.Seq.{drop-cons}
use Rattle.std.proofs.lemmas.List.Folds.{list_any-append}
use Rattle.byte_places.specs.Places.{IsPlaced}
use Rattle.fix_values.specs.declared.rule.Code.{Code}
use Rattle.fix_values.specs.declared.text.TheConstants.{SOH}
use Rattle.fix_values.specs.Codes.{bits_of, codes_in, has_soh, judged_set, set_text, spaced_texts}
use Rattle.set_texts.specs.declared.texts.Written.{Written}
use Rattle.set_texts.specs.Parts.{spaced, IsPart, Part}
use Rattle.set_texts.specs.Runs.{AreRuns, IsRun, Run}
use Rattle.set_texts.specs.Texts.{IsWritten}
use Rattle.set_texts.proofs.Grown.{codes-append, joined}

either_false : (a b : Bool) → a ≡ false → b ≡ false → (a || b) ≡ false
either_false true b h g = absurd cc
either_false false b h g = g

plain-append : (a b : List ℕ) → has_soh a ≡ false → has_soh b ≡ false → has_soh (a ++ b) ≡ false
plain-append a b h g = list_any-append (λ x. x == SOH) a b ∙ either_false (has_soh a) (has_soh b) h g

-- a part is written after a text
pub more_written : (written : Written) (old new : List ℕ) (before codes : List Code) (bits end shown : ℕ) (part : Part) → IsWritten written old before bits → IsPart part (codes_in codes bits)
    → IsPlaced old new written.end part.text end → end ≤ length old → shown ≡ written.shown + part.shown → IsWritten (record { end = end; shown = shown }) new (before ++ codes) bits
more_written written old new before codes bits end shown part is own placed within sum = record {
  within = omega (arith, within, placed.long);
  part =
      let text = take written.end old in
      let grown : take end new ≡ text ++ spaced (codes_in codes bits) = placed.front ∙ ap (λ t. text ++ t) own.text in
      let plain : has_soh (take end new) ≡ false = ap has_soh placed.front ∙ plain-append text part.text is.part.plain own.plain in
      subst (IsPart (record { text = take end new; shown = shown })) (sym (codes-append before codes bits))
      (joined text written.shown (take end new) shown (codes_in before bits) (codes_in codes bits) is.part grown plain (omega (arith, sum, own.shown)));
}

-- how far the runs of a list of codes were written: these codes are, and the runs from a place on are those of the rest
pub record IsWrittenTo (runs : List Run) (i : ℕ) (codes : List Code) (written : Written) (room : List ℕ) (bits : ℕ) : Type 0 where
  pub before : List Code
  pub rest : List Code
  pub whole : before ++ rest ≡ codes
  pub done : IsWritten written room before bits
  pub left : AreRuns (drop i runs) rest

pub none_written : (runs : List Run) (codes : List Code) (room : List ℕ) (bits : ℕ) → AreRuns runs codes → IsWrittenTo runs 0 codes (record { end = 0; shown = 0 }) room bits
none_written runs codes room bits are = record {
  before = [];
  rest = codes;
  whole = refl;
  done = record { within = omega arith; part = record { text = refl; plain = refl; shown = refl } };
  left = are;
}

pub next_written : (runs : List Run) (i : ℕ) (run : Run) (codes : List Code) (written new : Written) (old room : List ℕ) (bits : ℕ) → i < length runs → run ≡ get_or runs i run
    → ((before own : List Code) → IsRun run own → IsWritten written old before bits → IsWritten new room (before ++ own) bits)
    → IsWrittenTo runs i codes written old bits → IsWrittenTo runs (i + 1) codes new room bits
next_written runs i run codes written new old room bits within is step to =
    let next : suc i ≡ i + 1 = omega arith in
    let there : drop i runs ≡ run ∷ drop (i + 1) runs =
    drop-cons runs i run within ∙ (ap (λ r. r ∷ drop (suc i) runs) (sym is) ∙ ap (λ k. run ∷ drop k runs) next) in
    let left = subst (λ l. AreRuns l to.rest) there to.left in
    record {
      before = to.before ++ take run.many to.rest;
      rest = drop run.many to.rest;
      whole = append_assoc to.before (take run.many to.rest) (drop run.many to.rest) ∙ (ap (λ l. to.before ++ l) (take-append-drop run.many to.rest) ∙ to.whole);
      done = step to.before (take run.many to.rest) left.0 to.done;
      left = left.1;
    }

pub all_written : (runs : List Run) (i : ℕ) (codes : List Code) (written : Written) (room : List ℕ) (bits : ℕ) → drop i runs ≡ [] → IsWrittenTo runs i codes written room bits → IsWritten written room codes bits
all_written runs i codes written room bits over to =
    let none : to.rest ≡ [] = subst (λ l. AreRuns l to.rest) over to.left in
    let same : to.before ≡ codes = sym (append-nil to.before) ∙ (ap (λ l. to.before ++ l) (sym none) ∙ to.whole) in
    subst (λ l. IsWritten written room l bits) same to.done

-- ---- the text

joined_is : (x : Code) (xs : List Code) → spaced_texts (x ∷ xs) ≡ x.text ++ spaced xs
joined_is x [] = sym (append-nil x.text)
joined_is x (y ∷ ys) = ap (λ t. x.text ++ 32 ∷ t) (joined_is y ys)

-- the text after the first space
behind_space : (text : List ℕ) (codes : List Code) → text ≡ spaced codes → 1 < length text → drop 1 text ≡ spaced_texts codes
behind_space text [] is some = absurd (omega (arith, some, ap length is))
behind_space text (x ∷ xs) is some = ap (drop 1) is ∙ sym (joined_is x xs)

plain_behind : (text : List ℕ) → has_soh text ≡ false → has_soh (drop 1 text) ≡ false
plain_behind [] h = h
plain_behind (b ∷ bs) h = second (b == SOH) (has_soh bs) h
  where
    second : (a c : Bool) → (a || c) ≡ false → c ≡ false
    second true c h = absurd cc
    second false c h = h

not_nought : (n : ℕ) → 0 < n → (n == 0) ≡ false
not_nought n h = grind (arith, nat_tests)

judged : (shown n : ℕ) (text : List ℕ) → (shown == n) ≡ true → (length text == 0) ≡ false → has_soh text ≡ false → judged_set shown n text ≡ Ok text
judged shown n text same some plain = rw (same, some, plain)

-- what is written is the text of the set, with a space before it
pub text_is : (codes : List Code) (bits : ℕ) (written : Written) (room text : List ℕ) → IsWritten written room codes bits → written.shown ≡ bits → 2 ≤ written.end
    → text ≡ take (written.end - 1) (drop 1 room) → set_text codes bits ≡ Ok text
text_is codes bits written room text is shown some cut =
    let whole = take written.end room in
    let long : length whole ≡ written.end = length-take-le written.end room is.within in
    let same : 1 + (written.end - 1) ≡ written.end = omega (arith, some) in
    let behind : text ≡ drop 1 whole = cut ∙ (sym (drop-take 1 (written.end - 1) room) ∙ ap (λ k. drop 1 (take k room)) same) in
    let told : text ≡ spaced_texts (codes_in codes bits) = behind ∙ behind_space whole (codes_in codes bits) is.part.text (omega (arith, long, some)) in
    let plain : has_soh text ≡ false = ap has_soh behind ∙ plain_behind whole is.part.plain in
    let size : length text ≡ written.end - 1 = ap length behind ∙ (length-drop 1 whole ∙ ap (λ k. k - 1) long) in
    let sum : bits_of (codes_in codes bits) ≡ bits = sym is.part.shown ∙ shown in
    ap (λ t. judged_set (bits_of (codes_in codes bits)) bits t) (sym told)
    ∙ judged (bits_of (codes_in codes bits)) bits text (eq-eqb (bits_of (codes_in codes bits)) bits sum) (not_nought (length text) (omega (arith, size, some))) plain
