-- The decimal that is read of a text is reduced; and decimals with one text are one fraction.
use Rattle.std.proofs.Common.{◌≡◌, ◌≢◌, ℕ, ◌+◌, ◌-◌, ◌*◌, ◌/◌, ◌%◌, ◌^◌, ◌≤◌, Bool, true, false, eqb, cond, List, [], ◌∷◌, ◌++◌, length, refl, sym, ap, ◌∙◌, arith, subst, inl, inr, ◌⊎◌, pos, ℤ, nat_le, unsigned_abs, FitsSigned, Result, Ok, Err, if◌then◌else◌}
use Rattle.std.proofs.Math.Nat.{mul_right_comm, mul-div_cancel}
use Rattle.std.proofs.lemmas.Bool.Decides.{nat_tests, Decides-eqb}
use Rattle.std.specs.Int.{w128}
use Rattle.std.specs.Char.{digit_value, is_ascii_digit}
use Rattle.std.specs.Str.{all_ascii_digits}
use Rattle.std.specs.Str.Parse.{digits_value, digits_value_after}
use Rattle.fix_values.specs.declared.rule.V.{V}
use Rattle.fix_values.specs.declared.rule.V.TheVariants.{Range, Spelling}
use Rattle.fix_values.specs.declared.rule.Dec.{Dec}
use Rattle.fix_values.specs.Numerals.{signed}
use Rattle.fix_values.specs.Decimals.{SameFraction, IsReduced, Parts, dec, zeros, places, without_leading, without_trailing, kept_before, digits_counted, are_digits, reduced, decimal_of, decimal_text, parts_of}
use Rattle.fix_values.proofs.NumeralLemmas.{both, false≢true, ok_is, sized, value_append, digit_is, digit_small}
use Rattle.fix_values.proofs.DecimalLemmas.{ten_pos, digits_leading, parts_digits}
use Rattle.value_laws.proofs.DecimalsBack.{decimals_back}

-- the number ends in a digit that isn't zero, whatever stands before it
abbrev EndsNonzero : List ℕ → Type 0
EndsNonzero ds = (n : ℕ) → digits_value_after 10 n ds % 10 ≢ 0

at_least_48 : (d : ℕ) → is_ascii_digit d ≡ true → 48 ≤ d
at_least_48 d h = grind (arith, nat_tests)

same_48 : (d : ℕ) → d ≡ 48 → eqb d 48 ≡ true
same_48 d h = (Decides-eqb d 48).1 h

last_digit : (n d : ℕ) → is_ascii_digit d ≡ true → eqb d 48 ≡ false → (n * 10 + digit_value d) % 10 ≢ 0
last_digit n d h other same =
    let value = digit_is d h in
    let small = digit_small d h in
    let low = at_least_48 d h in
    let zero_digit : d ≡ 48 = omega (arith, value, small, low, same) in
    false≢true (sym other ∙ same_48 d zero_digit)

ends_by : (b : Bool) (d : ℕ) → is_ascii_digit d ≡ true → eqb d 48 ≡ b → (cond b [] (d ∷ []) ≡ []) ⊎ EndsNonzero (cond b [] (d ∷ []))
ends_by true d h is = inl refl
ends_by false d h is = inr (λ n. last_digit n d h is)

ends_on : (d : ℕ) (t : List ℕ) → is_ascii_digit d ≡ true → (t ≡ []) ⊎ EndsNonzero t → (kept_before d t ≡ []) ⊎ EndsNonzero (kept_before d t)
ends_on d [] h later = ends_by (eqb d 48) d h refl
ends_on d (e ∷ es) h (inl none) = absurd (cc none)
ends_on d (e ∷ es) h (inr ends) = inr (λ n. ends (n * 10 + digit_value d))

ends : (ds : List ℕ) → all_ascii_digits ds ≡ true → (without_trailing ds ≡ []) ⊎ EndsNonzero (without_trailing ds)
ends [] h = inl refl
ends (d ∷ ds) h =
    let all = both (is_ascii_digit d) (all_ascii_digits ds) h in
    ends_on d (without_trailing ds) all.0 (ends ds all.1)

-- digits without zeros in front are none, or begin with another digit
abbrev Leads : List ℕ → Type 0
Leads ds = (ds ≡ []) ⊎ ((d : ℕ) × (rest : List ℕ) × (ds ≡ d ∷ rest) × (eqb d 48 ≡ false))

leads_by : (b : Bool) (d : ℕ) (ds rest : List ℕ) → eqb d 48 ≡ b → Leads rest → Leads (cond b rest (d ∷ ds))
leads_by true d ds rest is h = h
leads_by false d ds rest is h = inr (d, ds, refl, is)

leads : (ds : List ℕ) → Leads (without_leading ds)
leads [] = inl refl
leads (d ∷ ds) = leads_by (eqb d 48) d ds (without_leading ds) refl (leads ds)

kept_some : (d : ℕ) (t : List ℕ) → eqb d 48 ≡ false → kept_before d t ≡ [] → ⊥
kept_some d [] is h = let own : d ∷ [] ≡ [] = rw is at h in absurd (cc own)
kept_some d (e ∷ es) is h = absurd (cc h)

none_left : (ds : List ℕ) → Leads ds → without_trailing ds ≡ [] → ds ≡ []
none_left ds (inl none) h = none
none_left ds (inr lead) h =
    let own : kept_before lead.0 (without_trailing lead.1) ≡ [] = ap without_trailing (sym lead.2) ∙ h in
    absurd (kept_some lead.0 (without_trailing lead.1) lead.3 own)

signed_none : (b : Bool) → signed b 0 ≡ pos 0
signed_none true = refl
signed_none false = refl

reduced_by : (b : Bool) (whole : List ℕ) → Leads whole → (without_trailing whole ≡ []) ⊎ EndsNonzero (without_trailing whole) → IsReduced (reduced b whole [])
reduced_by b whole lead (inl none) =
    let value : digits_value 10 (without_trailing whole) ≡ 0 = ap (digits_value 10) none in
    let empty = none_left whole lead none in
    let count : length whole - length (without_trailing whole) ≡ 0 = ap (λ w. length w - length (without_trailing w)) empty in
    inr (ap (signed b) value ∙ signed_none b, ap pos count)
reduced_by b whole lead (inr last) = inl (λ h. last 0 (ap (λ n. n % 10) (sym (sized b (digits_value 10 (without_trailing whole)))) ∙ h))

reduced_is : (b : Bool) (whole fraction : List ℕ) → Leads whole → all_ascii_digits whole ≡ true → (fraction ≡ []) ⊎ EndsNonzero fraction → IsReduced (reduced b whole fraction)
reduced_is b whole [] lead h last = reduced_by b whole lead (ends whole h)
reduced_is b whole (f ∷ fs) lead h (inl none) = absurd (cc none)
reduced_is b whole (f ∷ fs) lead h (inr last) =
    inl (λ same. last (digits_value 10 whole) (ap (λ n. n % 10) (sym (sized b (digits_value 10 (whole ++ f ∷ fs)) ∙ value_append 0 whole (f ∷ fs))) ∙ same))

pub read_by : (a c : Bool) (r d : Dec) → ◌≡◌ {A = Result Dec V} (if a then (if c then Ok r else Err Range) else Err Spelling) (Ok d) → (a ≡ true) × (r ≡ d)
read_by true true r d h = (refl, ok_is r d h)
read_by true false r d h = absurd (cc h)
read_by false c r d h = absurd (cc h)

-- the reduced form of a text's parts
pub parts_reduced : (p : Parts) → are_digits p.whole p.fraction ≡ true → IsReduced (reduced p.negative (without_leading p.whole) (without_trailing p.fraction))
parts_reduced p are =
    let digits = parts_digits p.whole p.fraction are in
    reduced_is p.negative (without_leading p.whole) (without_trailing p.fraction) (leads p.whole) (digits_leading p.whole digits.0) (ends p.fraction digits.1)

pub read_reduced : (text : List ℕ) (d : Dec) → decimal_of text ≡ Ok d → IsReduced d
read_reduced text d h =
    let p = parts_of text in
    let read = read_by (are_digits p.whole p.fraction) (nat_le (digits_counted p) 38) (reduced p.negative (without_leading p.whole) (without_trailing p.fraction)) d h in
    subst IsReduced read.1 (parts_reduced p read.0)

through_size : (x a b p q s : ℕ) → x * p ≡ a * s → x * q ≡ b * s → a * q * s ≡ b * p * s
through_size x a b p q s first second =
    mul_right_comm a q s ∙ (ap (λ y. y * q) (sym first) ∙ (mul_right_comm x p q ∙ (ap (λ y. y * p) second ∙ mul_right_comm b s p)))

-- two fractions that are one third's are the same
pub same_through : (r a b : Dec) → SameFraction r a → SameFraction r b → SameFraction a b
same_through r a b first second =
    let s = 10 ^ places r in
    let size = through_size (unsigned_abs r.mantissa * 10 ^ zeros r) (unsigned_abs a.mantissa * 10 ^ zeros a) (unsigned_abs b.mantissa * 10 ^ zeros b) (10 ^ places a) (10 ^ places b) s first.size second.size in
    record {
      sign = sym first.sign ∙ second.sign;
      size = sym (mul-div_cancel _ (ten_pos (places r))) ∙ (ap (λ n. n / s) size ∙ mul-div_cancel _ (ten_pos (places r)));
    }

pub one_text : (m e n f : ℤ) (text : List ℕ) → FitsSigned w128 m → FitsSigned w128 n → decimal_text (dec m e) ≡ Ok text → decimal_text (dec n f) ≡ Ok text → SameFraction (dec m e) (dec n f)
one_text m e n f text fm fn h g =
    let one = decimals_back m e text fm h in
    let other = decimals_back n f text fn g in
    let same : other.0 ≡ one.0 = ok_is other.0 one.0 (sym other.1 ∙ one.1) in
    same_through one.0 (dec m e) (dec n f) one.2 (subst (λ d. SameFraction d (dec n f)) same other.2)
