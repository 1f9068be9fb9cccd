-- The text of numbers.
use Rattle.std.proofs.Common.{◌≡◌, ◌<◌, ◌≤◌, ◌+◌, ◌-◌, ◌*◌, ◌/◌, ◌%◌, ◌^◌, Bool, true, false, if◌then◌else◌, nat_lt, List, ℕ, ℤ, pos, negsuc, [], ◌∷◌, ◌++◌, take, drop, refl, sym, ap, ap₂, ◌∙◌, append_assoc, append-nil, take-take, arith}
use Rattle.std.proofs.lemmas.Bool.{agree_below_at, ltb-true, ltb-false}
use Rattle.std.specs.Str.{bytes_eq}
use Rattle.std.proofs.lemmas.Slice.Eq.{bytes_eq-Decides}
use Rattle.std.proofs.lemmas.Fmt.{decimal_digit, decimal_step}
use Rattle.std.specs.Fmt.{signed_decimal, decimal, digits}
use Rattle.json_values.specs.Values.{number_data, last_four, digit_pairs, digits_in, padded_digits, digits_in_byte}
use Rattle.json_values.specs.Plain.{plain_text}
use Rattle.sbe_base.specs.Objects.{Object}
use Rattle.printers.specs.Prints.{Prints}
use Rattle.printers.specs.declared.printer.Printer.{Printer}
use Rattle.printers.proofs.Printing.{reprinted, then_prints}

pub number_is : (n : ℤ) → signed_decimal n ≡ plain_text (number_data n)
number_is (pos n) = refl
number_is (negsuc n) = refl

-- ---- a byte

pub first_there : (n : ℕ) → n < 256 → take (digits_in_byte n) (take 4 (drop (4 * n) padded_digits)) ≡ decimal n
unfolding digits
first_there n h =
    (bytes_eq-Decides (take (digits_in_byte n) (take 4 (drop (4 * n) padded_digits))) (decimal n)).0
    (agree_below_at (λ k. bytes_eq (take (digits_in_byte k) (take 4 (drop (4 * k) padded_digits))) (decimal k)) (λ k. true) 256 n refl h)

pub byte_alone : {O : Type 0} {state : O → Object (List ℕ)} {a b : Printer O} (x : List ℕ) (r n : ℕ) → r ≡ digits_in_byte n → take (digits_in_byte n) x ≡ decimal n → Prints state a b (take r x ++ ([] ++ [])) → Prints state a b (plain_text (number_data (pos n)))
byte_alone x r n run is w = reprinted (append-nil (take r x) ∙ ap (λ k. take k x) run ∙ is) w

-- ---- by pairs of digits

pub pair_there : (n : ℕ) → n < 100 → take 2 (drop (2 * n) digit_pairs) ≡ (48 + n / 10) ∷ (48 + n % 10) ∷ []
pair_there n h =
    (bytes_eq-Decides (take 2 (drop (2 * n) digit_pairs)) ((48 + n / 10) ∷ (48 + n % 10) ∷ [])).0
    (agree_below_at (λ k. bytes_eq (take 2 (drop (2 * k) digit_pairs)) ((48 + k / 10) ∷ (48 + k % 10) ∷ [])) (λ k. true) 100 n refl h)

pub digit_there : (n : ℕ) → n < 10 → take 1 (drop (2 * n + 1) digit_pairs) ≡ (48 + n) ∷ []
digit_there n h =
    (bytes_eq-Decides (take 1 (drop (2 * n + 1) digit_pairs)) ((48 + n) ∷ [])).0
    (agree_below_at (λ k. bytes_eq (take 1 (drop (2 * k + 1) digit_pairs)) ((48 + k) ∷ [])) (λ k. true) 10 n refl h)

decimal_two : (n : ℕ) → 10 ≤ n → n < 100 → decimal n ≡ (48 + n / 10) ∷ (48 + n % 10) ∷ []
decimal_two n least h =
    let first : decimal (n / 10) ≡ (48 + n / 10) ∷ [] = decimal_digit (n / 10) (omega (arith, h)) in
    decimal_step n least (omega (arith, h)) ∙ ap (λ ds. ds ++ ((48 + n % 10) ∷ [])) first

-- ---- the first one or two digits, which stand in front of the others

lead_one : (n : ℕ) → n < 10 → take 1 (take 2 (drop (2 * n + (2 - 1)) digit_pairs)) ≡ decimal n
lead_one n h = take-take 1 2 (drop (2 * n + 1) digit_pairs) (omega arith) ∙ digit_there n h ∙ sym (decimal_digit n h)

lead_two : (n : ℕ) → 10 ≤ n → n < 100 → take 2 (take 2 (drop (2 * n + (2 - 2)) digit_pairs)) ≡ decimal n
lead_two n least h =
    let same : 2 * n + (2 - 2) ≡ 2 * n = omega arith in
    take-take 2 2 (drop (2 * n + (2 - 2)) digit_pairs) (omega arith) ∙ ap (λ k. take 2 (drop k digit_pairs)) same ∙ pair_there n h ∙ sym (decimal_two n least h)

lead_by : (n : ℕ) (b : Bool) → nat_lt n 10 ≡ b → n < 100 → take (if b then 1 else 2) (take 2 (drop (2 * n + (2 - (if b then 1 else 2))) digit_pairs)) ≡ decimal n
lead_by n true is h = lead_one n (ltb-true n 10 is)
lead_by n false is h = lead_two n (ltb-false n 10 is) h

pub lead_there : (n : ℕ) → n < 100 → take (digits_in n) (take 2 (drop (2 * n + (2 - digits_in n)) digit_pairs)) ≡ decimal n
lead_there n h = lead_by n (nat_lt n 10) refl h

-- all digits but the last two, and those
split_two : (n : ℕ) → 100 ≤ n → n < 10000 → decimal n ≡ decimal (n / 100) ++ ((48 + n % 100 / 10) ∷ (48 + n % 100 % 10) ∷ [])
split_two n least h =
    let x : n / 10 / 10 ≡ n / 100 = omega (arith, h) in
    let y : n / 10 % 10 ≡ n % 100 / 10 = omega (arith, h) in
    let z : n % 10 ≡ n % 100 % 10 = omega (arith, h) in
    decimal_step n (omega (arith, least)) (omega (arith, h))
    ∙ ap (λ ds. ds ++ ((48 + n % 10) ∷ [])) (decimal_step (n / 10) (omega (arith, least)) (omega (arith, h)))
    ∙ append_assoc (decimal (n / 10 / 10)) ((48 + n / 10 % 10) ∷ []) ((48 + n % 10) ∷ [])
    ∙ rw (x, y, z) refl

-- a number of at most two digits, with two digits after
pub lead_pair : {O : Type 0} {state : O → Object (List ℕ)} {a b : Printer O} {y : List ℕ} (x : List ℕ) (r n : ℕ) → 100 ≤ n → n < 10000 → r ≡ digits_in (n / 100) → take (digits_in (n / 100)) x ≡ decimal (n / 100) →
    y ≡ (48 + n % 100 / 10) ∷ (48 + n % 100 % 10) ∷ [] → Prints state a b (take r x ++ (y ++ [])) → Prints state a b (plain_text (number_data (pos n)))
lead_pair x r n least h run is q w =
    reprinted (ap₂ (λ (s t : List ℕ). s ++ (t ++ [])) (ap (λ k. take k x) run ∙ is) q ∙ sym (split_two n least h)) w

-- the last four digits
four_are : (n : ℕ) → n < 10000 → (48 + n / 100 / 10) ∷ (48 + n / 100 % 10) ∷ (48 + n % 100 / 10) ∷ (48 + n % 100 % 10) ∷ [] ≡ last_four n
four_are n h =
    let w : n / 100 / 10 ≡ n / 10 / 10 / 10 % 10 = omega (arith, h) in
    let x : n / 100 % 10 ≡ n / 10 / 10 % 10 = omega (arith, h) in
    let y : n % 100 / 10 ≡ n / 10 % 10 = omega (arith, h) in
    let z : n % 100 % 10 ≡ n % 10 = omega (arith, h) in
    rw (w, x, y, z) refl

-- all digits but the last four, and those
split_four : (n : ℕ) → 10000 ≤ n → n < 2 ^ 64 → decimal n ≡ decimal (n / 10 / 10 / 10 / 10) ++ last_four n
split_four n least h =
    let one = decimal_step n (omega (arith, least)) h in
    let two : decimal (n / 10) ≡ decimal (n / 10 / 10) ++ ((48 + n / 10 % 10) ∷ []) = decimal_step (n / 10) (omega (arith, least)) (omega (arith, h)) in
    let three : decimal (n / 10 / 10) ≡ decimal (n / 10 / 10 / 10) ++ ((48 + n / 10 / 10 % 10) ∷ []) = decimal_step (n / 10 / 10) (omega (arith, least)) (omega (arith, h)) in
    let four : decimal (n / 10 / 10 / 10) ≡ decimal (n / 10 / 10 / 10 / 10) ++ ((48 + n / 10 / 10 / 10 % 10) ∷ []) = decimal_step (n / 10 / 10 / 10) (omega (arith, least)) (omega (arith, h)) in
    let d = decimal (n / 10 / 10 / 10 / 10) in
    one ∙ ap (λ ds. ds ++ ((48 + n % 10) ∷ [])) (two ∙ ap (λ ds. ds ++ ((48 + n / 10 % 10) ∷ [])) (three ∙ ap (λ ds. ds ++ ((48 + n / 10 / 10 % 10) ∷ [])) four))
    ∙ joined d (48 + n / 10 / 10 / 10 % 10) (48 + n / 10 / 10 % 10) (48 + n / 10 % 10) (48 + n % 10)
  where
    joined : (d : List ℕ) (w x y z : ℕ) → (((d ++ (w ∷ [])) ++ (x ∷ [])) ++ (y ∷ [])) ++ (z ∷ []) ≡ d ++ (w ∷ x ∷ y ∷ z ∷ [])
    joined [] w x y z = refl
    joined (c ∷ cs) w x y z = ap (λ r. c ∷ r) (joined cs w x y z)

-- the last four digits, as two pairs
pairs_are : {y z : List ℕ} (l : ℕ) → l < 10000 → y ≡ (48 + l / 100 / 10) ∷ (48 + l / 100 % 10) ∷ [] → z ≡ (48 + l % 100 / 10) ∷ (48 + l % 100 % 10) ∷ [] → y ++ z ≡ last_four l
pairs_are l low q r = ap₂ (λ (s t : List ℕ). s ++ t) q r ∙ four_are l low

-- a number of at most two digits, and four digits after it
pub lead_four : {O : Type 0} {state : O → Object (List ℕ)} {a b : Printer O} {y z : List ℕ} (x : List ℕ) (many h l : ℕ) → many ≡ digits_in h → take (digits_in h) x ≡ decimal h → l < 10000 →
    y ≡ (48 + l / 100 / 10) ∷ (48 + l / 100 % 10) ∷ [] → z ≡ (48 + l % 100 / 10) ∷ (48 + l % 100 % 10) ∷ [] →
    Prints state a b (take many x ++ (y ++ z)) → Prints state a b (plain_text (number_data (pos h)) ++ last_four l)
lead_four x many h l run is low q r w = reprinted (ap₂ (λ (s t : List ℕ). s ++ t) (ap (λ k. take k x) run ∙ is) (pairs_are l low q r)) w

-- of more, whose digits were written before
pub longer : {O : Type 0} {state : O → Object (List ℕ)} {a b c : Printer O} {y z : List ℕ} (h l : ℕ) → l < 10000 → Prints state a b (plain_text (number_data (pos h))) →
    y ≡ (48 + l / 100 / 10) ∷ (48 + l / 100 % 10) ∷ [] → z ≡ (48 + l % 100 / 10) ∷ (48 + l % 100 % 10) ∷ [] →
    Prints state b c (y ++ (z ++ [])) → Prints state a c (plain_text (number_data (pos h)) ++ last_four l)
longer h l low front q r w = then_prints front (reprinted (ap₂ (λ (s t : List ℕ). s ++ (t ++ [])) q r ∙ four_are l low) w)

-- all digits but the last four, and those
pub long_number : {O : Type 0} {state : O → Object (List ℕ)} {a b : Printer O} (n : ℕ) → 10000 ≤ n → n < 2 ^ 32 → Prints state a b (plain_text (number_data (pos (n / 10000))) ++ last_four (n % 10000)) → Prints state a b (plain_text (number_data (pos n)))
long_number n least h =
    let high : n / 10000 ≡ n / 10 / 10 / 10 / 10 = omega arith in
    let w : n % 10000 / 10 / 10 / 10 % 10 ≡ n / 10 / 10 / 10 % 10 = omega arith in
    let x : n % 10000 / 10 / 10 % 10 ≡ n / 10 / 10 % 10 = omega arith in
    let y : n % 10000 / 10 % 10 ≡ n / 10 % 10 = omega arith in
    let z : n % 10000 % 10 ≡ n % 10 = omega arith in
    let low : last_four (n % 10000) ≡ last_four n = rw (w, x, y, z) refl in
    reprinted (ap₂ (λ (s t : List ℕ). s ++ t) (ap decimal high) low ∙ sym (split_four n least (omega (arith, h))))
