-- What is so of every kind of texts in which a text is that of one choice of parts.
use Rattle.std.proofs.Common.{◌≡◌, ℕ, ◌^◌, ◌<◌, min, inl, inr, ℤ, pos, ◌+ℤ◌, ◌*ℤ◌, Result, Ok, Err, List, refl, sym, ap, ◌∙◌, subst, arith}
use Rattle.std.specs.Prelude.{IsOkAnd}
use Rattle.jiff_core.proofs.SignedLemmas.{signed_arith}
use Rattle.fix_values.specs.declared.rule.V.{V}
use Rattle.fix_values.specs.declared.rule.V.TheVariants.{Spelling, Range, Inexact, Soh, Empty, UnknownCode}
use Rattle.fix_dates.specs.declared.moment.Moment.{Moment}
use Rattle.fix_dates.specs.Reading.{Kind, Spells, Reads}
use Rattle.fix_dates.specs.Clocks.{times_in, IsUnit, count_of}
use Rattle.fix_dates.specs.Stamps.{times, stamps, stamps_in, stamp_count, SameTime, IsMoment, FitsIn}
use Rattle.fix_dates.proofs.OneText.{one_clock_of_text, one_stamp_of_text}
use Rattle.fix_dates.proofs.StampFacts.{one_day}
use Rattle.std.proofs.Math.Nat.{one-le-pow}

-- a text is that of one choice of parts
abbrev pub HasOneParts : {Parts Value : Type 0} → Kind Parts Value → Type 0
HasOneParts {Parts} kind = (text : List ℕ) (a b : Parts) → kind.Fits a → kind.Fits b → text ≡ kind.text a → text ≡ kind.text b → a ≡ b

-- what reading answers where parts that stand for a value are spelled
pub read_as : {Parts Value : Type 0} (kind : Kind Parts Value) → HasOneParts kind → (text : List ℕ) (s : Parts) → kind.Fits s → text ≡ kind.text s → kind.Real s → (value : Value) → kind.Stands s value → (answer : Result Value V) → Reads kind text answer → IsOkAnd answer (kind.Stands s)
read_as kind one text s fits spelled real value stands (Ok found) r = subst (λ p. kind.Stands p found) (one text r.parts s r.fits fits r.spelled spelled) r.stands
read_as kind one text s fits spelled real value stands (Err Spelling) r = absurd (r s fits spelled)
read_as kind one text s fits spelled real value stands (Err Range) r = absurd (r.unreal (subst kind.Real (one text s r.parts fits r.fits spelled r.spelled) real))
read_as kind one text s fits spelled real value stands (Err Inexact) r = absurd (r.inexact value (subst (λ p. kind.Stands p value) (one text s r.parts fits r.fits spelled r.spelled) stands))
read_as kind one text s fits spelled real value stands (Err Soh) r = absurd r
read_as kind one text s fits spelled real value stands (Err Empty) r = absurd r
read_as kind one text s fits spelled real value stands (Err UnknownCode) r = absurd r

-- the same, where parts stand for one value
pub read_back_as : {Parts Value : Type 0} (kind : Kind Parts Value) → HasOneParts kind → ((s : Parts) (a b : Value) → kind.Stands s a → kind.Stands s b → a ≡ b) → (text : List ℕ) (value : Value) (answer : Result Value V) → Spells kind text value → Reads kind text answer → answer ≡ Ok value
read_back_as kind one same text value (Ok found) s r =
    ap Ok (same s.parts found value (read_as kind one text s.parts s.fits s.spelled s.real value s.stands (Ok found) r) s.stands)
read_back_as kind one same text value (Err fault) s r = absurd (read_as kind one text s.parts s.fits s.spelled s.real value s.stands (Err fault) r)

-- a text that is refused is refused in one way
pub one_refusal : {Parts Value : Type 0} (kind : Kind Parts Value) → HasOneParts kind → (text : List ℕ) (fault : V) (answer : Result Value V) → Reads kind text (Err fault) → Reads kind text answer → answer ≡ Err fault
one_refusal kind one text Spelling (Ok value) r q = absurd (r q.parts q.fits q.spelled)
one_refusal kind one text Spelling (Err Spelling) r q = refl
one_refusal kind one text Spelling (Err Range) r q = absurd (r q.parts q.fits q.spelled)
one_refusal kind one text Spelling (Err Inexact) r q = absurd (r q.parts q.fits q.spelled)
one_refusal kind one text Range (Ok value) r q = absurd (r.unreal (subst kind.Real (one text q.parts r.parts q.fits r.fits q.spelled r.spelled) q.real))
one_refusal kind one text Range (Err Spelling) r q = absurd (q r.parts r.fits r.spelled)
one_refusal kind one text Range (Err Range) r q = refl
one_refusal kind one text Range (Err Inexact) r q = absurd (r.unreal (subst kind.Real (one text q.parts r.parts q.fits r.fits q.spelled r.spelled) q.real))
one_refusal kind one text Inexact (Ok value) r q = absurd (r.inexact value (subst (λ p. kind.Stands p value) (one text q.parts r.parts q.fits r.fits q.spelled r.spelled) q.stands))
one_refusal kind one text Inexact (Err Spelling) r q = absurd (q r.parts r.fits r.spelled)
one_refusal kind one text Inexact (Err Range) r q = absurd (q.unreal (subst kind.Real (one text r.parts q.parts r.fits q.fits r.spelled q.spelled) r.real))
one_refusal kind one text Inexact (Err Inexact) r q = refl
one_refusal kind one text Soh answer r q = absurd r
one_refusal kind one text Empty answer r q = absurd r
one_refusal kind one text UnknownCode answer r q = absurd r
one_refusal kind one text fault (Err Soh) r q = absurd q
one_refusal kind one text fault (Err Empty) r q = absurd q
one_refusal kind one text fault (Err UnknownCode) r q = absurd q

-- a count is one moment
pub one_moment : (count : ℤ) (places : ℕ) (a b : Moment) → IsMoment count places a → IsMoment count places b → (a.nanos ≡ b.nanos) × (a.digits ≡ b.digits)
one_moment count places a b x y =
    let some : 0 < 10 ^ places = one-le-pow places 10 (omega arith) in
    let long : (a.nanos *ℤ pos (10 ^ places)) +ℤ pos 0 ≡ (b.nanos *ℤ pos (10 ^ places)) +ℤ pos 0 = ap (λ z. z +ℤ pos 0) (x.0 ∙ sym y.0) in
    (one_day (10 ^ places) a.nanos b.nanos 0 0 some some long, x.1 ∙ sym y.1)

-- a count of a unit is a moment
pub moment_of : (n : ℤ) (unit : ℕ) → IsUnit unit → (moment : Moment) × IsMoment n unit moment
moment_of n unit (inl e) = rw e (record { nanos = n *ℤ pos 1_000_000_000; digits = 0; few = omega arith }, (omega (arith, signed_arith), refl))
moment_of n unit (inr (inl e)) = rw e (record { nanos = n *ℤ pos 1_000_000; digits = 3; few = omega arith }, (omega (arith, signed_arith), refl))
moment_of n unit (inr (inr (inl e))) = rw e (record { nanos = n *ℤ pos 1_000; digits = 6; few = omega arith }, (omega (arith, signed_arith), refl))
moment_of n unit (inr (inr (inr e))) = rw e (record { nanos = n; digits = 9; few = omega arith }, (omega (arith, signed_arith), refl))

-- the unit is its own number of digits
unit_low : (unit : ℕ) → IsUnit unit → min 9 unit ≡ unit
unit_low unit (inl e) = omega arith
unit_low unit (inr (inl e)) = omega arith
unit_low unit (inr (inr (inl e))) = omega arith
unit_low unit (inr (inr (inr e))) = omega arith

-- what is told of a moment that was shown as a count of a unit
abbrev pub IsShown : ℤ → ℕ → Moment → Type 0
IsShown n unit moment = SameTime moment.nanos n unit × (moment.digits ≡ unit)

shown_by : (n : ℤ) (unit : ℕ) (answer : Result Moment V) → IsUnit unit → IsOkAnd answer (IsMoment n unit) → IsOkAnd answer (IsShown n unit)
shown_by n unit (Ok moment) known told = (told.0, told.1 ∙ unit_low unit known)
shown_by n unit (Err fault) known told = absurd told

-- there is a moment that a count of the last place is
stands_of : (n count : ℤ) (unit places : ℕ) → IsUnit unit → places ≡ unit → count ≡ n → (moment : Moment) × IsMoment count places moment
stands_of n count unit places known same long =
    let found = moment_of n unit known in
    (found.0, subst (λ k. IsMoment count k found.0) (sym same) (subst (λ z. IsMoment z unit found.0) (sym long) found.1))

-- and what is told of it is told of the count of the unit
told_of : (n count : ℤ) (unit places : ℕ) (answer : Result Moment V) → IsUnit unit → places ≡ unit → count ≡ n → IsOkAnd answer (IsMoment count places) → IsOkAnd answer (IsShown n unit)
told_of n count unit places answer known same long told =
    shown_by n unit answer known (subst (λ z. IsOkAnd answer (IsMoment z unit)) long (subst (λ k. IsOkAnd answer (IsMoment count k)) same told))

pub shown_time : (n : ℤ) (unit : ℕ) (text : List ℕ) (answer : Result Moment V) → Spells (times_in unit) text n → Reads times text answer → IsOkAnd answer (IsShown n unit)
shown_time n unit text answer s r =
    let clock = s.parts in
    let count = pos (count_of clock) in
    let found = stands_of n count unit clock.places s.fits.known s.fits.places_are s.stands in
    told_of n count unit clock.places answer s.fits.known s.fits.places_are s.stands
    (read_as times one_clock_of_text text clock s.fits.fits s.spelled s.real found.0 found.1 answer r)

pub shown_stamp : (n : ℤ) (unit : ℕ) (text : List ℕ) (answer : Result Moment V) → Spells (stamps_in unit) text n → Reads stamps text answer → IsOkAnd answer (IsShown n unit)
shown_stamp n unit text answer s r =
    let stamp = s.parts in
    let clock = s.fits.1 in
    let found = stands_of n (stamp_count stamp) unit stamp.clock.places clock.known clock.places_are s.stands in
    told_of n (stamp_count stamp) unit stamp.clock.places answer clock.known clock.places_are s.stands
    (read_as stamps one_stamp_of_text text stamp (s.fits.0, clock.fits) s.spelled s.real found.0 found.1 answer r)

-- a moment that is as long as a count of a unit fits into it as that count
pub fits_as : (moment : Moment) (n : ℤ) (unit : ℕ) (answer : Result ℤ V) → SameTime moment.nanos n unit → FitsIn moment unit answer → answer ≡ Ok n
fits_as moment n unit (Ok found) same fits = ap Ok (omega (arith, signed_arith))
fits_as moment n unit (Err Inexact) same fits = absurd (fits n same)
fits_as moment n unit (Err Spelling) same fits = absurd fits
fits_as moment n unit (Err Range) same fits = absurd fits
fits_as moment n unit (Err Soh) same fits = absurd fits
fits_as moment n unit (Err Empty) same fits = absurd fits
fits_as moment n unit (Err UnknownCode) same fits = absurd fits
