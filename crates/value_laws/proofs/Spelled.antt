-- A text is read as the decimal that it spells, and as no other; and it is refused where it spells none, or more digits count than are read.
use Rattle.std.proofs.Common.{◌≡◌, ℕ, ◌+◌, ◌*◌, ◌^◌, ◌<◌, Bool, true, false, eqb, List, [], ◌∷◌, ◌++◌, length, refl, sym, ap, ◌∙◌, arith, subst, inl, inr, ◌⊎◌, pos, neg_ℤ, nat_le, Result, Ok, Err, append_assoc, append-nil, unsigned_abs, if◌then◌else◌}
use Rattle.std.proofs.lemmas.Bool.{eqb-true, leb-false}
use Rattle.std.specs.Str.Parse.{digits_value}
use Rattle.sbe_types.specs.Numbers.{natural}
use Rattle.fix_values.specs.declared.rule.V.{V}
use Rattle.fix_values.specs.declared.rule.V.TheVariants.{Spelling, Range, Inexact, Soh, Empty, UnknownCode}
use Rattle.fix_values.specs.declared.rule.Dec.{Dec}
use Rattle.fix_values.specs.Numerals.{sign, signed, is_negative, unsigned}
use Rattle.fix_values.specs.Decimals.{SameFraction, SpellsDecimal, IsReadAs, HasTooMany, ReadsDecimal, Parts, dec, number_of_parts, parts_of, before_point, behind_point, without_leading, without_trailing, digits_counted, are_digits, reduced, decimal_of}
use Rattle.fix_values.proofs.NumeralLemmas.{false≢true, leb-true, not_true}
use Rattle.value_laws.proofs.ReadBack.{split_is}
use Rattle.fix_values.proofs.DecimalLemmas.{over, within, no_places, parts_digits}
use Rattle.value_laws.proofs.Fractions.{resign, turned, one_form}
use Rattle.value_laws.proofs.DecimalsBack.{parts_value, value_leading, padded, padded_value, padded_length, same_reduced, placed, split_parts, of_parts, of_parts_is}
use Rattle.value_laws.proofs.Reduced.{parts_reduced, same_through}

point_by : (b : Bool) (d : ℕ) (ds : List ℕ) → eqb d 46 ≡ b → (ds ≡ before_point ds ++ (46 ∷ behind_point ds)) ⊎ ((ds ≡ before_point ds) × (behind_point ds ≡ [])) →
    (d ∷ ds ≡ before_point (d ∷ ds) ++ (46 ∷ behind_point (d ∷ ds))) ⊎ ((d ∷ ds ≡ before_point (d ∷ ds)) × (behind_point (d ∷ ds) ≡ []))
point_by true d ds is h = inl (rw is (ap (λ k. k ∷ ds) (eqb-true d 46 is)))
point_by false d ds is (inl split) = inl (rw is (ap (λ t. d ∷ t) split))
point_by false d ds is (inr none) = inr (rw is (ap (λ t. d ∷ t) none.0), rw is none.1)

point_is : (ds : List ℕ) → (ds ≡ before_point ds ++ (46 ∷ behind_point ds)) ⊎ ((ds ≡ before_point ds) × (behind_point ds ≡ []))
point_is [] = inr (refl, refl)
point_is (d ∷ ds) = point_by (eqb d 46) d ds refl (point_is ds)

-- a sign, the whole part, a point and the fraction, put together in two ways
grouped : (s whole fraction : List ℕ) → s ++ whole ++ (46 ∷ []) ++ fraction ≡ s ++ (whole ++ (46 ∷ fraction))
grouped s whole fraction = append_assoc (s ++ whole) (46 ∷ []) fraction ∙ append_assoc s whole (46 ∷ fraction)

-- a text whose parts are digits spells them
spells : (text : List ℕ) → are_digits (parts_of text).whole (parts_of text).fraction ≡ true → SpellsDecimal text (parts_of text)
spells text are =
    let p = parts_of text in
    let split = split_is text in
    elim (point_is (unsigned text)) [
      | inl point ↦ record { spelled = inl (split ∙ (ap (λ t. sign p.negative ++ t) point ∙ sym (grouped (sign p.negative) p.whole p.fraction))); digits = are }
      | inr none ↦ record { spelled = inr (split ∙ ap (λ t. sign p.negative ++ t) none.0, none.1); digits = are }
    ]

-- a text spells one choice of parts
one_parts : (text : List ℕ) (parts : Parts) → SpellsDecimal text parts → parts_of text ≡ parts
one_parts text parts h =
    let digits = (parts_digits parts.whole parts.fraction h.digits).0 in
    elim h.spelled [
      | inl point ↦ ap parts_of (point ∙ grouped (sign parts.negative) parts.whole parts.fraction) ∙ split_parts parts.negative parts.whole (46 ∷ parts.fraction) digits refl refl
      | inr alone ↦
          ap parts_of (alone.0 ∙ ap (λ w. sign parts.negative ++ w) (sym (append-nil parts.whole)))
          ∙ (split_parts parts.negative parts.whole [] digits refl refl ∙ ap (λ f. record { negative = parts.negative; whole = parts.whole; fraction = f }) (sym alone.1))
    ]

-- the reduced decimal of a text's parts, and its size
abbrev reduced_of : Parts → Dec
reduced_of p = reduced p.negative (without_leading p.whole) (without_trailing p.fraction)

abbrev size_of : List ℕ → List ℕ → ℕ
size_of whole [] = digits_value 10 (without_trailing whole)
size_of whole (f ∷ fs) = digits_value 10 (whole ++ f ∷ fs)

by_size : (b : Bool) (whole fraction : List ℕ) → reduced b whole fraction ≡ dec (signed b (size_of whole fraction)) (reduced false whole fraction).exponent
by_size b whole [] = refl
by_size b whole (f ∷ fs) = refl

-- without a sign it is the fraction of all digits
plain_number : (p : Parts) → SameFraction (reduced false (without_leading p.whole) (without_trailing p.fraction)) (dec (pos (digits_value 10 (p.whole ++ p.fraction))) (neg_ℤ (pos (length p.fraction))))
plain_number p =
    let v = digits_value 10 (p.whole ++ p.fraction) in
    let l = length p.fraction in
    let pad = padded p.fraction in
    let back : natural (neg_ℤ (neg_ℤ (pos l))) ≡ l = placed l in
    let one : v ≡ v * 10 ^ 0 = omega arith in
    let own : v ≡ v * 10 ^ natural (neg_ℤ (pos l)) = one ∙ ap (λ k. v * 10 ^ k) (sym (no_places l)) in
    let total : v ≡ digits_value 10 p.whole * 10 ^ natural (neg_ℤ (neg_ℤ (pos l))) + digits_value 10 p.fraction =
    parts_value p.whole p.fraction ∙ ap (λ k. digits_value 10 p.whole * 10 ^ k + digits_value 10 p.fraction) (sym back) in
    same_reduced false (pos v) (neg_ℤ (pos l)) v (digits_value 10 p.whole) (digits_value 10 p.fraction) pad.0 (without_leading p.whole) (without_trailing p.fraction)
    refl own total (value_leading p.whole) (padded_value p.fraction (without_trailing p.fraction) pad.0 pad.1)
    (back ∙ padded_length p.fraction (without_trailing p.fraction) pad.0 pad.1)

-- and so it is with one
number_is : (p : Parts) → SameFraction (reduced_of p) (number_of_parts p)
number_is p =
    let whole = without_leading p.whole in
    let fraction = without_trailing p.fraction in
    let v = digits_value 10 (p.whole ++ p.fraction) in
    let e = neg_ℤ (pos (length p.fraction)) in
    let plain = subst (λ r. SameFraction r (dec (pos v) e)) (by_size false whole fraction) (plain_number p) in
    subst (λ r. SameFraction r (number_of_parts p)) (sym (by_size p.negative whole fraction))
    (resign p.negative (size_of whole fraction) v (reduced false whole fraction).exponent e plain)

reads_by : (a c : Bool) (text : List ℕ) → are_digits (parts_of text).whole (parts_of text).fraction ≡ a → nat_le (digits_counted (parts_of text)) 38 ≡ c →
    ReadsDecimal text (if a then (if c then Ok (reduced_of (parts_of text)) else Err Range) else Err Spelling)
reads_by true true text are few = record {
  parts = parts_of text;
  spelled = spells text are;
  few = leb-true (digits_counted (parts_of text)) 38 few;
  number = number_is (parts_of text);
  form = parts_reduced (parts_of text) are;
}
reads_by true false text are many = record { parts = parts_of text; spelled = spells text are; many = leb-false (digits_counted (parts_of text)) 38 many }
reads_by false c text are count = λ parts h. false≢true (sym are ∙ (ap (λ p. are_digits p.whole p.fraction) (one_parts text parts h) ∙ h.digits))

-- what reading answers is what is to be answered
pub reads : (text : List ℕ) → ReadsDecimal text (decimal_of text)
reads text = reads_by (are_digits (parts_of text).whole (parts_of text).fraction) (nat_le (digits_counted (parts_of text)) 38) text refl refl

too_many : (a c : Bool) (r : Dec) → a ≡ true → c ≡ false → ◌≡◌ {A = Result Dec V} (if a then (if c then Ok r else Err Range) else Err Spelling) (Err Range)
too_many true true r h g = absurd (false≢true (sym g))
too_many true false r h g = refl
too_many false c r h g = absurd (false≢true h)

-- and nothing else is to be answered
pub only : (text : List ℕ) (answer : Result Dec V) → ReadsDecimal text answer → answer ≡ decimal_of text
only text (Ok d) h =
    let p = h.parts in
    let same : SameFraction d (reduced_of p) = same_through (number_of_parts p) d (reduced_of p) (turned h.number) (turned (number_is p)) in
    ap Ok (one_form d (reduced_of p) h.form (parts_reduced p h.spelled.digits) same)
    ∙ sym (ap of_parts (one_parts text p h.spelled) ∙ of_parts_is (are_digits p.whole p.fraction) (nat_le (digits_counted p) 38) (reduced_of p) h.spelled.digits (within (digits_counted p) h.few))
only text (Err Spelling) h =
    let none : are_digits (parts_of text).whole (parts_of text).fraction ≡ false = not_true _ (λ are. h (parts_of text) (spells text are)) in
    rw none
only text (Err Range) h =
    let p = h.parts in
    sym (ap of_parts (one_parts text p h.spelled) ∙ too_many (are_digits p.whole p.fraction) (nat_le (digits_counted p) 38) (reduced_of p) h.spelled.digits (over (digits_counted p) h.many))
only text (Err Inexact) h = absurd h
only text (Err Soh) h = absurd h
only text (Err Empty) h = absurd h
only text (Err UnknownCode) h = absurd h
