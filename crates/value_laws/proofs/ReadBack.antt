-- What was shown reads back: whole numbers, characters, truth values and codes.
use Rattle.std.proofs.Common.{◌≡◌, ℕ, suc, ◌^◌, ◌<◌, Bool, true, false, not, ◌&&◌, ◌||◌, eqb, ◌==◌, cond, List, [], ◌∷◌, ◌++◌, length, refl, sym, ap, ◌∙◌, arith, subst, inl, inr, ◌⊎◌, decimal, pos, negsuc, ℤ, int_le, FitsSigned, Option, Some, None, Result, Ok, Err, nat_lt, if◌then◌else◌}
use Rattle.std.specs.Int.{w128}
use Rattle.std.specs.Fmt.{signed_decimal}
use Rattle.std.specs.List.{list_any, find}
use Rattle.std.specs.Ordering.{int_eq}
use Rattle.std.specs.Char.{is_ascii_digit}
use Rattle.std.specs.Str.{all_ascii_digits, bytes_eq}
use Rattle.std.specs.Str.Parse.{digits_value}
use Rattle.std.proofs.lemmas.Bool.{eqb-true}
use Rattle.std.proofs.lemmas.Bool.Decides.{nat_tests, Decides-int_eq, Decides-eqb}
use Rattle.std.proofs.lemmas.Slice.Eq.{bytes_eq-Decides}
use Rattle.std.proofs.lemmas.Fmt.{decimal_is_IsNumeral_wide}
use Rattle.std.proofs.lemmas.Str.Parse.{numerals_by_value, tells_all_ascii_digits}
use Rattle.sbe_types.specs.declared.kind.Leaf.{Leaf as LeafOf}
use Rattle.sbe_types.specs.declared.kind.Named.{Named}
use Rattle.sbe_types.specs.Shown.{is_null, is_listed}
use Rattle.fix_values.specs.declared.rule.V.{V}
use Rattle.fix_values.specs.declared.rule.Code.{Code}
use Rattle.fix_values.specs.declared.rule.V.TheVariants.{Spelling, Soh, UnknownCode}
use Rattle.fix_values.specs.declared.rule.NumRule.TheVariants as rule
use Rattle.fix_values.specs.Numerals.{is_numeral, is_negative, unsigned, integer_of, signed, sign, is_value, SpellsInteger}
use Rattle.fix_values.specs.Decimals.{leaf_number}
use Rattle.fix_values.specs.Codes.{has_soh, found_text, code_text, found_number, code_number, same_text, is_apart, boolean_text, truth_text, boolean_shown, is_truth, named_number, truth_number, boolean_number, same_truth, is_same_truth}
use Rattle.fix_values.specs.Values.{text_of, value_of, is_asked, char_text, char_value, spelled_number}
use Rattle.fix_values.proofs.NumeralLemmas.{both, together, either, or_left, or_right, false≢true, is_not_true, ok_is, eqb_comm, no_minus, sign_taken, integer_is}

some_length : (k : ℕ) → 0 < k → nat_lt 0 k ≡ true
some_length k h = grind (arith, nat_tests)

-- a text of digits has no sign
plain_digits : (ds : List ℕ) → all_ascii_digits ds ≡ true → is_negative ds ≡ false
plain_digits [] h = refl
plain_digits (d ∷ ds) h = no_minus d (both (is_ascii_digit d) (all_ascii_digits ds) h).0

pub spelled_back : (text : List ℕ) (n : ℤ) → SpellsInteger text n → integer_of text ≡ Some n
spelled_back text n h =
    let taken = sign_taken h.negative h.digits (plain_digits h.digits (both (nat_lt 0 (length h.digits)) (all_ascii_digits h.digits) h.numeral).1) in
    ap integer_of h.spelled ∙ (integer_is (sign h.negative ++ h.digits) h.negative h.digits (sym taken.0) (sym taken.1) h.numeral ∙ ap Some (sym h.number))

pub numeral_of : (k : ℕ) → k < 10 ^ 64 → (is_numeral (decimal k) ≡ true) × (digits_value 10 (decimal k) ≡ k)
numeral_of k small =
    let numeral = decimal_is_IsNumeral_wide k small in
    let digits : all_ascii_digits (decimal k) ≡ true = (numerals_by_value _ tells_all_ascii_digits).from (decimal k) numeral.0.1 in
    (together (nat_lt 0 (length (decimal k))) _ (some_length (length (decimal k)) numeral.0.0) digits, numeral.1)

pub shown_spelled : (n : ℤ) → FitsSigned w128 n → SpellsInteger (signed_decimal n) n
shown_spelled (pos k) fits =
    let f = fits.sfits in
    let numeral = numeral_of k (omega (arith, f)) in
    record { negative = false; digits = decimal k; spelled = refl; numeral = numeral.0; number = ap pos (sym numeral.1) }
shown_spelled (negsuc k) fits =
    let f = fits.sfits in
    let numeral = numeral_of (suc k) (omega (arith, f)) in
    record { negative = true; digits = decimal (suc k); spelled = refl; numeral = numeral.0; number = ap (signed true) (sym numeral.1) }

some_is : {A : Type 0} (x y : A) → Some x ≡ Some y → x ≡ y
some_is x y h = cc

split_by : (b : Bool) (c : ℕ) (cs : List ℕ) → eqb c 45 ≡ b → c ∷ cs ≡ sign (is_negative (c ∷ cs)) ++ unsigned (c ∷ cs)
split_by true c cs h = rw h (ap (λ k. k ∷ cs) (eqb-true c 45 h))
split_by false c cs h = rw h

pub split_is : (text : List ℕ) → text ≡ sign (is_negative text) ++ unsigned text
split_is [] = refl
split_is (c ∷ cs) = split_by (eqb c 45) c cs refl

taken_apart : (b : Bool) (text : List ℕ) (n : ℤ) → is_numeral (unsigned text) ≡ b → integer_of text ≡ Some n → SpellsInteger text n
taken_apart true text n is h =
    let number : Some (signed (is_negative text) (digits_value 10 (unsigned text))) ≡ Some n = rw is at h in
    record { negative = is_negative text; digits = unsigned text; spelled = split_is text; numeral = is; number = sym (some_is _ _ number) }
taken_apart false text n is h =
    let none : None ≡ Some n = rw is at h in
    absurd (cc none)

pub read_spelled : (text : List ℕ) (n : ℤ) → integer_of text ≡ Some n → SpellsInteger text n
read_spelled text n h = taken_apart (is_numeral (unsigned text)) text n refl h

pub integer_back : (leaf : LeafOf) (n : ℤ) (text : List ℕ) → FitsSigned w128 n → is_value leaf n ≡ true → text_of rule.Int n ≡ Ok text → value_of rule.Int leaf text ≡ Ok n
integer_back leaf n text fits is h =
    let spelled : integer_of text ≡ Some n = subst (λ t. integer_of t ≡ Some n) (ok_is (signed_decimal n) text h) (spelled_back (signed_decimal n) n (shown_spelled n fits)) in
    ap (λ r. leaf_number leaf (spelled_number r)) spelled ∙ rw is

char_by : (b : Bool) (leaf : LeafOf) (k : ℕ) (text : List ℕ) → is_value leaf (pos k) ≡ true → eqb k 1 ≡ b → char_text k ≡ Ok text → char_value leaf text ≡ Ok (pos k)
char_by true leaf k text is e h = let none : ◌≡◌ {A = Result (List ℕ) V} (Err Spelling) (Ok text) = rw e at h in absurd (cc none)
char_by false leaf k text is e h =
    let same : ◌≡◌ {A = Result (List ℕ) V} (Ok (k ∷ [])) (Ok text) = rw e at h in
    subst (λ t. char_value leaf t ≡ Ok (pos k)) (ok_is (k ∷ []) text same) (rw is)

pub char_back : (leaf : LeafOf) (n : ℤ) (text : List ℕ) → is_asked rule.Char n ≡ true → is_value leaf n ≡ true → text_of rule.Char n ≡ Ok text → value_of rule.Char leaf text ≡ Ok n
char_back leaf (negsuc k) text asked is h = absurd (false≢true (both (int_le (pos 0) (negsuc k)) (int_le (negsuc k) (pos 255)) asked).0)
char_back leaf (pos k) text asked is h = char_by (eqb k 1) leaf k text is refl h

found_step : (b : Bool) (x : Code) (rest : Option Code) (text : List ℕ) → found_text (cond b (Some x) rest) ≡ Ok text →
    ((b ≡ true) × (found_text (Some x) ≡ Ok text)) ⊎ ((b ≡ false) × (found_text rest ≡ Ok text))
found_step true x rest text h = inl (refl, h)
found_step false x rest text h = inr (refl, h)

number_step : (b : Bool) (x : Code) (rest : Option Code) (n : ℤ) → (b ≡ true → x.number ≡ n) → (b ≡ false → found_number rest ≡ Ok n) → found_number (cond b (Some x) rest) ≡ Ok n
number_step true x rest n here later = ap Ok (here refl)
number_step false x rest n here later = later refl

text_by : (b : Bool) (own text : List ℕ) → ◌≡◌ {A = Result (List ℕ) V} (if b then Err Soh else Ok own) (Ok text) → own ≡ text
text_by true own text h = absurd (cc h)
text_by false own text h = ok_is own text h

-- the code that has the text stands among these
listed_text : (x : Code) (xs : List Code) (n : ℤ) (text : List ℕ) → x.text ≡ text → code_text xs n ≡ Ok text → list_any (same_text x) xs ≡ true
listed_text x [] n text same h = absurd (cc h)
listed_text x (y ∷ ys) n text same h =
    elim (found_step (int_eq y.number n) y (find (λ code. int_eq code.number n) ys) text h) [
      | inl p ↦ or_left (same_text x y) _ ((bytes_eq-Decides x.text y.text).1 (same ∙ sym (text_by (has_soh y.text) y.text text p.1)))
      | inr q ↦ or_right (same_text x y) _ (listed_text x ys n text same q.1)
    ]

pub code_back : (codes : List Code) (leaf : LeafOf) (n : ℤ) (text : List ℕ) → is_apart same_text codes ≡ true → is_null leaf n ≡ false → code_text codes n ≡ Ok text → code_number codes leaf text ≡ Ok n
code_back [] leaf n text apart null h = absurd (cc h)
code_back (x ∷ xs) leaf n text apart null h =
    let rest = both (not (list_any (same_text x) xs)) (is_apart same_text xs) apart in
    elim (found_step (int_eq x.number n) x (find (λ code. int_eq code.number n) xs) text h) [
      | inl p ↦
          let own : x.number ≡ n = (Decides-int_eq x.number n).0 p.0 in
          let spelled : bytes_eq x.text text ≡ true = (bytes_eq-Decides x.text text).1 (text_by (has_soh x.text) x.text text p.1) in
          let value : not (is_null leaf x.number) ≡ true = rw (own, null) in
          number_step (bytes_eq x.text text && not (is_null leaf x.number)) x (find (λ code. bytes_eq code.text text && not (is_null leaf code.number)) xs) n (λ t. own)
          (λ f. absurd (false≢true (sym f ∙ together (bytes_eq x.text text) _ spelled value)))
      | inr q ↦
          number_step (bytes_eq x.text text && not (is_null leaf x.number)) x (find (λ code. bytes_eq code.text text && not (is_null leaf code.number)) xs) n
          (λ t. absurd (false≢true (sym (is_not_true _ rest.0) ∙ listed_text x xs n text ((bytes_eq-Decides x.text text).0 (both (bytes_eq x.text text) _ t).0) q.1)))
          (λ f. code_back xs leaf n text rest.1 null q.1)
    ]

named_step : (b : Bool) (x : Named) (rest : Option Named) (n : ℤ) → (b ≡ true → x.number ≡ n) → (b ≡ false → named_number rest ≡ Ok n) → named_number (cond b (Some x) rest) ≡ Ok n
named_step true x rest n here later = ap Ok (here refl)
named_step false x rest n here later = later refl

same_truth_by : (b : ℕ) (o : Option ℕ) → is_truth b o ≡ true → is_same_truth o (Some b) ≡ true
same_truth_by b None h = absurd (false≢true h)
same_truth_by b (Some t) h = eqb_comm t b ∙ h

listed_truth : (x : Named) (xs : List Named) (n : ℤ) (b : ℕ) → boolean_text n ≡ Some b → is_truth b (boolean_text x.number) ≡ true → is_listed xs n ≡ true → list_any (same_truth x) xs ≡ true
listed_truth x [] n b text is h = absurd (false≢true h)
listed_truth x (y ∷ ys) n b text is h =
    elim (either (int_eq y.number n) (is_listed ys n) h) [
      | inl here ↦
          let own : boolean_text y.number ≡ Some b = ap boolean_text ((Decides-int_eq y.number n).0 here) ∙ text in
          or_left (same_truth x y) _ (ap (is_same_truth (boolean_text x.number)) own ∙ same_truth_by b (boolean_text x.number) is)
      | inr later ↦ or_right (same_truth x y) _ (listed_truth x ys n b text is later)
    ]

truth_back : (names : List Named) (leaf : LeafOf) (n : ℤ) (b : ℕ) → is_apart same_truth names ≡ true → is_null leaf n ≡ false → boolean_text n ≡ Some b → is_listed names n ≡ true → truth_number names leaf b ≡ Ok n
truth_back [] leaf n b apart null text h = absurd (false≢true h)
truth_back (x ∷ xs) leaf n b apart null text h =
    let rest = both (not (list_any (same_truth x) xs)) (is_apart same_truth xs) apart in
    let test = is_truth b (boolean_text x.number) && not (is_null leaf x.number) in
    let next = find (λ name. is_truth b (boolean_text name.number) && not (is_null leaf name.number)) xs in
    elim (either (int_eq x.number n) (is_listed xs n) h) [
      | inl here ↦
          let own : x.number ≡ n = (Decides-int_eq x.number n).0 here in
          let is : is_truth b (boolean_text x.number) ≡ true = ap (is_truth b) (ap boolean_text own ∙ text) ∙ (Decides-eqb b b).1 refl in
          let value : not (is_null leaf x.number) ≡ true = rw (own, null) in
          named_step test x next n (λ t. own) (λ f. absurd (false≢true (sym f ∙ together (is_truth b (boolean_text x.number)) _ is value)))
      | inr later ↦
          named_step test x next n
          (λ t. absurd (false≢true (sym (is_not_true _ rest.0) ∙ listed_truth x xs n b text (both (is_truth b (boolean_text x.number)) _ t).0 later)))
          (λ f. truth_back xs leaf n b rest.1 null text later)
    ]

byte_by : (p q : Bool) (b : ℕ) → (if p then Some 89 else (if q then Some 78 else None)) ≡ Some b → (b == 89) || (b == 78) ≡ true
byte_by true q b h = rw (← some_is 89 b h)
byte_by false true b h = rw (← some_is 78 b h)
byte_by false false b h = absurd (cc h)

shown_by : (listed : Bool) (o : Option ℕ) (text : List ℕ) → (if listed then truth_text o else Err UnknownCode) ≡ Ok text → (b : ℕ) × (listed ≡ true) × (o ≡ Some b) × (text ≡ b ∷ [])
shown_by false o text h = absurd (cc h)
shown_by true None text h = absurd (cc h)
shown_by true (Some b) text h = (b, refl, refl, sym (ok_is (b ∷ []) text h))

pub boolean_back : (names : List Named) (leaf : LeafOf) (n : ℤ) (text : List ℕ) → is_apart same_truth names ≡ true → is_null leaf n ≡ false → boolean_shown names n ≡ Ok text → boolean_number names leaf text ≡ Ok n
boolean_back names leaf n text apart null h =
    let shown = shown_by (is_listed names n) (boolean_text n) text h in
    let byte : (shown.0 == 89) || (shown.0 == 78) ≡ true = byte_by (int_eq n (pos 1) || int_eq n (pos 89)) (int_eq n (pos 0) || int_eq n (pos 78)) shown.0 shown.2 in
    subst (λ t. boolean_number names leaf t ≡ Ok n) (sym shown.3) (rw byte (truth_back names leaf n shown.0 apart null shown.2 shown.1))
