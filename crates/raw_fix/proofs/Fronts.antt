-- Bytes before the first SOH, and parts of fields and of digits.
use Rattle.std.proofs.Common.{◌≡◌, ◌<◌, ◌≤◌, ℕ, Bool, true, false, List, [], ◌∷◌, ◌++◌, length, take, drop, Option, Some, None, refl, sym, ap, ◌∙◌, subst, arith, length-append}
use Rattle.std.specs.Prelude.{◌==◌, ◌≢◌, ◌&&◌, nat_le, nat_lt, if◌then◌else◌}
use Rattle.std.specs.List.{AllByRecursion}
use Rattle.std.specs.Char.{is_ascii_digit}
use Rattle.std.specs.Str.{all_ascii_digits}
use Rattle.std.specs.Str.Parse.{digits_value}
use Rattle.std.proofs.lemmas.Bool.{ne_eqb, eqb-true, eq-eqb, le-leb, leb-true}
use Rattle.std.proofs.lemmas.Str.Parse.{digits_value-take-le}
use Rattle.std.proofs.Math.Seq.{take-append_seam}
use Rattle.tagvalue_codec.specs.Fields.{soh, is_number}
use Rattle.open_framing.specs.Lines.{with_byte}
use Rattle.raw_fix.specs.Claims.{field_of, before_soh, is_begun, is_part}

-- a byte that isn't SOH, for each
abbrev pub Plain : List ℕ → Type 0
Plain bytes = AllByRecursion (λ b. b ≢ soh) bytes

pub and_true : (a b : Bool) → (a && b) ≡ true → (a ≡ true) × (b ≡ true)
and_true true true h = (refl, refl)
and_true true false h = cc
and_true false b h = cc

-- ---- the first SOH

pub before_soh_plain : (front back : List ℕ) → Plain front → before_soh (front ++ soh ∷ back) ≡ Some front
before_soh_plain [] back plain = refl
before_soh_plain (b ∷ front) back plain = rw (ne_eqb b 1 plain.0) (ap (with_byte b) (before_soh_plain front back plain.1))

-- the front stands there with its SOH
abbrev pub Stands : List ℕ → List ℕ → Type 0
Stands bytes front = Plain front × ((more : List ℕ) × (bytes ≡ front ++ soh ∷ more))

stands_longer : (b : ℕ) (bytes front : List ℕ) (o : Option (List ℕ)) → b ≢ soh → ((f : List ℕ) → o ≡ Some f → Stands bytes f) → with_byte b o ≡ Some front → Stands (b ∷ bytes) front
stands_longer b bytes front None other shorter h = cc
stands_longer b bytes front (Some f) other shorter h =
    let is : b ∷ f ≡ front = cc in
    let at = shorter f refl in
    subst (Stands (b ∷ bytes)) is ((other, at.0), (at.1.0, ap (λ more. b ∷ more) at.1.1))

stands_by : (b : ℕ) (bytes front : List ℕ) (is_end : Bool) → (b == soh) ≡ is_end → ((f : List ℕ) → before_soh bytes ≡ Some f → Stands bytes f) →
    (if is_end then Some [] else with_byte b (before_soh bytes)) ≡ Some front → Stands (b ∷ bytes) front
stands_by b bytes front true is shorter h =
    let none : [] ≡ front = cc in
    subst (Stands (b ∷ bytes)) none (tt, (bytes, ap (λ c. c ∷ bytes) (eqb-true b soh is)))
stands_by b bytes front false is shorter h = stands_longer b bytes front (before_soh bytes) (λ e. let yes = eq-eqb b soh e in cc) shorter h

pub before_soh_told : (bytes front : List ℕ) → before_soh bytes ≡ Some front → Stands bytes front
before_soh_told [] front h = cc
before_soh_told (b ∷ bytes) front h = stands_by b bytes front (b == soh) refl (before_soh_told bytes) h

-- no SOH is in the bytes, and one stands after the front: so they are a part of it
none_by : (b : ℕ) (bytes : List ℕ) (o : Option (List ℕ)) → with_byte b o ≡ None → o ≡ None
none_by b bytes None h = refl
none_by b bytes (Some f) h = cc

none_later : (b : ℕ) (bytes : List ℕ) (is_end : Bool) → (b == soh) ≡ is_end → (if is_end then Some [] else with_byte b (before_soh bytes)) ≡ None → (b ≢ soh) × (before_soh bytes ≡ None)
none_later b bytes true is h = cc
none_later b bytes false is h = (λ e. let yes = eq-eqb b soh e in cc, none_by b bytes (before_soh bytes) h)

pub part_before : (bytes more front back : List ℕ) → before_soh bytes ≡ None → bytes ++ more ≡ front ++ soh ∷ back → (rest : List ℕ) × (front ≡ bytes ++ rest)
part_before [] more front back none e = (front, refl)
part_before (b ∷ bytes) more [] back none e =
    let first : b ≡ soh = cc in
    absurd ((none_later b bytes (b == soh) refl none).0 first)
part_before (b ∷ bytes) more (c ∷ front) back none e =
    let first : b ≡ c = cc in
    let later : bytes ++ more ≡ front ++ soh ∷ back = cc in
    let rest = part_before bytes more front back (none_later b bytes (b == soh) refl none).1 later in
    (rest.0, ap (λ x. x ∷ front) (sym first) ∙ ap (λ x. b ∷ x) rest.1)

-- ---- parts of a field

pub begun_part : (tag : ℕ) (value bytes rest : List ℕ) → field_of tag value ≡ bytes ++ rest → is_begun tag bytes ≡ true
begun_part tag value [] rest e = refl
begun_part tag value (a ∷ []) rest e = let first : a ≡ tag = cc in eq-eqb a tag first
begun_part tag value (a ∷ (b ∷ bytes)) rest e =
    let first : a ≡ tag = cc in
    let second : b ≡ 61 = cc in
    rw (eq-eqb a tag first, eq-eqb b 61 second) refl

pub value_part : (tag : ℕ) (value bytes rest : List ℕ) → field_of tag value ≡ bytes ++ rest → (more : List ℕ) × (value ≡ drop 2 bytes ++ more)
value_part tag value [] rest e = (value, refl)
value_part tag value (a ∷ []) rest e = (value, refl)
value_part tag value (a ∷ (b ∷ bytes)) rest e = (rest, cc)

pub begun_is : (tag : ℕ) (bytes : List ℕ) → is_begun tag bytes ≡ true → 2 ≤ length bytes → bytes ≡ field_of tag (drop 2 bytes)
begun_is tag [] begun long = absurd (omega arith)
begun_is tag (a ∷ []) begun long = absurd (omega arith)
begun_is tag (a ∷ (b ∷ bytes)) begun long =
    let both = and_true (a == tag) (b == 61) begun in
    ap (λ x. x ∷ (b ∷ bytes)) (eqb-true a tag both.0) ∙ ap (λ x. tag ∷ (x ∷ bytes)) (eqb-true b 61 both.1)

-- ---- parts of digits

digits_front : (front back : List ℕ) → all_ascii_digits (front ++ back) ≡ true → all_ascii_digits front ≡ true
digits_front [] back h = refl
digits_front (c ∷ front) back h =
    let both = and_true (is_ascii_digit c) (all_ascii_digits (front ++ back)) h in
    rw (both.0, digits_front front back both.1) refl

pub size_is : (digits : List ℕ) → is_number digits ≡ true → (0 < length digits) × (length digits ≤ 9) × (all_ascii_digits digits ≡ true)
size_is digits h =
    let some = and_true (nat_lt 0 (length digits)) (nat_le (length digits) 9 && all_ascii_digits digits) h in
    let few = and_true (nat_le (length digits) 9) (all_ascii_digits digits) some.1 in
    (grind (arith, some.0), leb-true (length digits) 9 few.0, few.1)

pub part_of_size : (digits front back : List ℕ) → is_number digits ≡ true → digits ≡ front ++ back → is_part front ≡ true
part_of_size digits front back h e =
    let is = size_is digits h in
    let short : length front ≤ 9 = omega (arith, is.1, ap length e, length-append front back) in
    let few : nat_le (length front) 9 ≡ true = le-leb (length front) 9 short in
    rw few (digits_front front back (ap all_ascii_digits (sym e) ∙ is.2))

pub value_of_part : (digits front back : List ℕ) → digits ≡ front ++ back → digits_value 10 front ≤ digits_value 10 digits
value_of_part digits front back e =
    let front_is : take (length front) digits ≡ front = ap (take (length front)) e ∙ take-append_seam front back in
    subst (λ x. digits_value 10 x ≤ digits_value 10 digits) front_is (digits_value-take-le 10 digits (length front) (omega arith))

digit_plain : (c : ℕ) → is_ascii_digit c ≡ true → c ≢ soh
digit_plain c h e = let one : is_ascii_digit 1 ≡ true = ap is_ascii_digit (sym e) ∙ h in cc

pub digits_plain : (digits : List ℕ) → all_ascii_digits digits ≡ true → Plain digits
digits_plain [] h = tt
digits_plain (c ∷ digits) h =
    let both = and_true (is_ascii_digit c) (all_ascii_digits digits) h in
    (digit_plain c both.0, digits_plain digits both.1)

pub none_plain : (bytes : List ℕ) → before_soh bytes ≡ None → Plain bytes
none_plain [] none = tt
none_plain (b ∷ bytes) none = let later = none_later b bytes (b == soh) refl none in (later.0, none_plain bytes later.1)
