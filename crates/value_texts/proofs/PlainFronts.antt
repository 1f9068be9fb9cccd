-- The texts at the front of char arrays have no SOH.
use Rattle.std.proofs.Common.{◌≡◌, ◌<◌, ◌≤◌, ◌+◌, ℕ, zero, suc, Bool, true, false, cond, List, [], ◌∷◌, length, take, Option, Some, None, Result, Ok, refl, sym, ap, ◌∙◌, subst, arith, take_all}
use Rattle.std.specs.Prelude.{◌==◌, ◌||◌, not, slice_index, IfSome}
use Rattle.field_values.specs.Reports.{before_zero}
use Rattle.std.specs.List.{prefix_len}
use Rattle.std.proofs.lemmas.Bool.Decides.{nat_tests}
use Rattle.flat_rows.specs.Runs.{lies_between}
use Rattle.fix_values.specs.declared.rule.V.{V}
use Rattle.fix_values.specs.Codes.{has_soh}
use Rattle.fix_values.specs.Values.{text_shown}
use Rattle.bridge_rules.specs.Texts.{field_text, judged_text}
use Rattle.std.proofs.lemmas.List.Sums.{prefix_len-le-length}
use Rattle.sbe_types.specs.declared.message.Value.{Value}
use Rattle.value_texts.specs.declared.face.NumberFace.{NumberFace}
use Rattle.value_texts.specs.declared.fronts.FrontText.{FrontText}
use Rattle.value_texts.specs.declared.row.TextRule.{TextRule}
use Rattle.value_texts.specs.declared.row.TextRule.TheVariants as row
use Rattle.value_texts.specs.Coded.{AreCodes}
use Rattle.value_texts.specs.Fronts.{IsPlainFront}
use Rattle.value_texts.specs.Rows.{row_text, Reads}
use Rattle.value_texts.proofs.Plain.{plain_shown}

not_soh : (b : ℕ) → lies_between 2 255 b ≡ true → (b == 1) ≡ false
not_soh b h = grind (arith, nat_tests)

not_zero : (b : ℕ) → lies_between 2 255 b ≡ true → (b == 0) ≡ false
not_zero b h = grind (arith, nat_tests)

plain_next : (t : Bool) (b r n : ℕ) (rest : Bool) → lies_between 2 255 b ≡ t → (r ≤ n → rest ≡ false) → suc r ≤ cond t (1 + n) 0 → ((b == 1) || rest) ≡ false
plain_next true b r n rest is others low = ap (λ s. s || rest) (not_soh b is) ∙ others (omega (arith, low))
plain_next false b r n rest is others low = absurd (omega (arith, low))

-- the bytes before one that is 00 or SOH
pub plain_front : (r : ℕ) (bs : List ℕ) → r ≤ prefix_len (lies_between 2 255) bs → has_soh (take r bs) ≡ false
plain_front zero bs within = refl
plain_front (suc r) [] within = refl
plain_front (suc r) (b ∷ bs) within =
    plain_next (lies_between 2 255 b) b r (prefix_len (lies_between 2 255) bs) (has_soh (take r bs)) refl (plain_front r bs) within

pub plain_text : (t : List ℕ) → 0 < length t → has_soh t ≡ false → field_text (judged_text t (text_shown t)) ≡ Ok (Some t)
plain_text t some plain = ap (λ (s : Result Unit V). field_text (judged_text t s)) (plain_shown t (record { some = some; plain = plain }))

-- the bytes before the first that is 00 or SOH are the text, if that one is 00
text_next : (t : Bool) (b r n : ℕ) (bs : List ℕ) → lies_between 2 255 b ≡ t → suc r ≡ cond t (1 + n) 0 → (r ≡ n → take r bs ≡ before_zero bs) → b ∷ take r bs ≡ before_zero (b ∷ bs)
text_next true b r n bs is run rest =
    let set : (b == 0) ≡ false = not_zero b is in
    let more = prefix_len (λ x. not (x == 0)) bs in
    let next : 1 + more ≡ suc more = omega arith in
    ap (λ xs. b ∷ xs) (rest (omega (arith, run))) ∙ sym (ap (λ t. take (cond (not t) (1 + more) 0) (b ∷ bs)) set ∙ ap (λ k. take k (b ∷ bs)) next)
text_next false b r n bs is run rest = absurd (omega (arith, run))

pub text_front : (r : ℕ) (bs : List ℕ) → r ≡ prefix_len (lies_between 2 255) bs → (r < length bs → slice_index bs r ≡ 0) → take r bs ≡ before_zero bs
text_front zero [] run zero_after = refl
text_front (suc r) [] run zero_after = absurd (omega (arith, run))
text_front zero (b ∷ bs) run zero_after =
    let none : (b == 0) ≡ true = grind (arith, nat_tests, zero_after (omega arith)) in
    sym (ap (λ t. take (cond (not t) (1 + prefix_len (λ x. not (x == 0)) bs) 0) (b ∷ bs)) none)
text_front (suc r) (b ∷ bs) run zero_after =
    text_next (lies_between 2 255 b) b r (prefix_len (lies_between 2 255) bs) bs refl run (λ same. text_front r bs same (λ within. zero_after (omega (arith, within))))

pub front_made : (run : ℕ) (bytes : List ℕ) → length bytes ≡ 8 → run ≡ prefix_len (lies_between 2 255) (take 8 bytes) → (run < length bytes → slice_index bytes run ≡ 0) → IsPlainFront run bytes
front_made run bytes eight run_is zero_after =
    let whole : take 8 bytes ≡ bytes = take_all 8 bytes (omega (arith, eight)) in
    let run_all = run_is ∙ ap (prefix_len (lies_between 2 255)) whole in
    record {
      eight = eight;
      within = omega (arith, run_all, prefix_len-le-length (lies_between 2 255) bytes, eight);
      text = text_front run bytes run_all zero_after;
      plain = plain_front run bytes (omega (arith, run_all));
    }

-- the text of a passage, where the rule is that of passages
pub passage_told : (o : Option FrontText) (rule : TextRule) (q : NumberFace) (codes : List (List ℕ)) (bytes : List ℕ) → rule ≡ row.Passage
    → IfSome o (λ front. (face : NumberFace) (v : Value) → Reads row.Passage face v bytes → row_text row.Passage v ≡ Ok (Some (take front.count front.bytes.now)))
    → IfSome o (λ front. (v : Value) → Reads rule q v bytes → AreCodes rule q codes → row_text rule v ≡ Ok (Some (take front.count front.bytes.now)))
passage_told None rule q codes bytes is told = tt
passage_told (Some front) rule q codes bytes is told = λ v reads coded.
    subst (λ r. row_text r v ≡ Ok (Some (take front.count front.bytes.now))) (sym is) (told q v (subst (λ r. Reads r q v bytes) is reads))
