-- What was shown reads back: whole numbers of the decimal family.
use Rattle.std.proofs.Common.{◌≡◌, ℕ, suc, ◌+◌, ◌*◌, ◌^◌, ◌<◌, ◌≤◌, Bool, true, false, eqb, cond, List, [], ◌∷◌, length, refl, sym, ap, ◌∙◌, arith, pos, negsuc, ℤ, nat_le, unsigned_abs, Ok, decimal, append-nil}
use Rattle.std.proofs.lemmas.Fmt.{length-decimal-le_wide}
use Rattle.std.proofs.lemmas.Bool.Decides.{nat_tests}
use Rattle.std.specs.Fmt.{signed_decimal}
use Rattle.sbe_types.specs.declared.kind.Leaf.{Leaf as LeafOf}
use Rattle.fix_values.specs.declared.rule.NumRule.TheVariants as rule
use Rattle.fix_values.specs.Numerals.{is_below_zero, is_value}
use Rattle.fix_values.specs.Decimals.{SameFraction, dec, Parts, parts_text, parts_of, without_leading, digits_counted, are_digits, reduced, decimal_of, leaf_number}
use Rattle.fix_values.specs.Values.{text_of, value_of, whole_value}
use Rattle.value_laws.proofs.ReadBack.{numeral_of}
use Rattle.value_laws.proofs.Fractions.{fit_only, turned}
use Rattle.fix_values.proofs.NumeralLemmas.{ok_is}
use Rattle.fix_values.proofs.DecimalLemmas.{length_leading, within}
use Rattle.value_laws.proofs.DecimalsBack.{parts_back, digits_are, of_parts, of_parts_is, same_reduced, value_leading}

abbrev whole_parts : ℤ → Parts
whole_parts n = record { negative = is_below_zero n; whole = decimal (unsigned_abs n); fraction = [] }

whole_text : (n : ℤ) → signed_decimal n ≡ parts_text (whole_parts n)
whole_text (pos k) = sym (append-nil (decimal k))
whole_text (negsuc k) = ap (λ t. 45 ∷ t) (sym (append-nil (decimal (suc k))))

pub whole_back : (leaf : LeafOf) (n : ℤ) (text : List ℕ) → unsigned_abs n < 10 ^ 38 → is_value leaf n ≡ true → text_of rule.Decimal n ≡ Ok text → value_of rule.Decimal leaf text ≡ Ok n
whole_back leaf n text small is h =
    let p = whole_parts n in
    let k = unsigned_abs n in
    let numeral = numeral_of k (omega (arith, small)) in
    let own : parts_text p ≡ text = sym (whole_text n) ∙ ok_is (signed_decimal n) text h in
    let parts : parts_of text ≡ p = ap parts_of (sym own) ∙ parts_back p numeral.0 in
    let short : length (without_leading (decimal k)) ≤ 38 =
    omega (arith, length_leading (decimal k), length-decimal-le_wide 38 k (omega arith) small (omega (arith, small))) in
    let r = reduced (is_below_zero n) (without_leading (decimal k)) [] in
    let read : decimal_of text ≡ Ok r =
    ap of_parts parts ∙ of_parts_is (are_digits p.whole p.fraction) (nat_le (digits_counted p) 38) r (digits_are p.whole [] numeral.0 refl) (within (length (without_leading (decimal k)) + 0) (omega (arith, short))) in
    let same : SameFraction r (dec n (pos 0)) =
    same_reduced (is_below_zero n) n (pos 0) (k * 10 ^ 0) k 0 0 (without_leading (decimal k)) [] refl refl (omega arith) (value_leading (decimal k) ∙ numeral.1) (omega arith) (omega arith) in
    ap (whole_value leaf) read ∙ (ap (leaf_number leaf) (fit_only r (pos 0) n (turned same)) ∙ rw is)
