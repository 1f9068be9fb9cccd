-- Bytes claim one thing, and the reader finds it.
use Rattle.std.proofs.Common.{◌≡◌, ◌+◌, ◌<◌, ◌≤◌, ℕ, Bool, true, false, List, [], ◌∷◌, ◌++◌, length, take, drop, Option, Some, None, inl, inr, refl, sym, ap, ◌∙◌, subst, arith, append_assoc, length-append, length-drop, take-append-drop, zero, suc}
use Rattle.std.specs.Prelude.{◌==◌, ◌≢◌, ◌&&◌, ◌⊎◌, nat_le, nat_lt, max, if◌then◌else◌}
use Rattle.std.specs.Str.Parse.{digits_value}
use Rattle.std.proofs.lemmas.Bool.{lt-ltb, le-leb, leb-true, eqb-true}
use Rattle.std.proofs.lemmas.Bool.Decides.{nat_tests}
use Rattle.std.proofs.lemmas.List.{append_cancel_left, append-nil}
use Rattle.std.proofs.lemmas.Bool.{cases_lt}
use Rattle.std.proofs.lemmas.List.{take-append-le}
use Rattle.std.proofs.Math.Seq.{drop-append_seam, take-append_seam}
use Rattle.raw_fix.specs.declared.claim.Claim.{Claim}
use Rattle.raw_fix.specs.declared.claim.Claim.TheVariants.{Whole, Open, Never}
use Rattle.tagvalue_codec.specs.Fields.{soh, is_number}
use Rattle.raw_fix.specs.Claims.{Opening, field_of, opening_bytes, IsOpening, text_size, IsWhole, IsOpen, IsNever, Claims, before_soh, is_begun, is_part, within, claim_behind, claim_by, claim_of}
use Rattle.raw_fix.proofs.Fronts.{Plain, before_soh_plain, before_soh_told, part_before, begun_part, value_part, part_of_size, value_of_part, size_is, digits_plain, none_plain, begun_is, and_true}

-- the two fields and what follows them, field by field
pub fields_apart : (o : Opening) (more : List ℕ) → opening_bytes o ++ more ≡ field_of 56 o.value ++ soh ∷ (field_of 57 o.digits ++ soh ∷ more)
fields_apart o more =
    append_assoc (field_of 56 o.value) (soh ∷ (field_of 57 o.digits ++ soh ∷ [])) more
    ∙ ap (λ x. field_of 56 o.value ++ soh ∷ x) (append_assoc (field_of 57 o.digits) (soh ∷ []) more)

pub opening_size : (o : Opening) → length (opening_bytes o) ≡ length o.value + length o.digits + 6
opening_size o = omega (arith, length-append (field_of 56 o.value) (soh ∷ (field_of 57 o.digits ++ soh ∷ [])), length-append (field_of 57 o.digits) (soh ∷ []))

first_plain : (o : Opening) → IsOpening o → Plain (field_of 56 o.value)
first_plain o is = (λ e. cc, (λ e. cc, is.plain))

second_plain : (o : Opening) → IsOpening o → Plain (field_of 57 o.digits)
second_plain o is = (λ e. cc, (λ e. cc, digits_plain o.digits (size_is o.digits is.size).2))

-- after the SOH of a front
behind_soh : (front back : List ℕ) → drop (length front + 1) (front ++ soh ∷ back) ≡ back
behind_soh front back =
    let size : length (front ++ soh ∷ []) ≡ length front + 1 = omega (arith, length-append front (soh ∷ [])) in
    ap (λ k. drop k (front ++ soh ∷ back)) (sym size) ∙ ap (drop (length (front ++ soh ∷ []))) (sym (append_assoc front (soh ∷ []) back)) ∙ drop-append_seam (front ++ soh ∷ []) back

-- a whole field 8: the claim is that of what follows
claim_first : (most : ℕ) (value back : List ℕ) → 0 < length value → Plain (field_of 56 value) →
    claim_of most (field_of 56 value ++ soh ∷ back) ≡ claim_behind most (length (field_of 56 value) + 1) back (before_soh back)
unfolding claim_of
claim_first most value back some plain =
    let f = field_of 56 value in
    let long : nat_lt 2 (length f) ≡ true = lt-ltb 2 (length f) (omega (arith, some)) in
    let left : drop (length f + 1) (f ++ soh ∷ back) ≡ back = behind_soh f back in
    let at : claim_by most (f ++ soh ∷ back) (Some f) ≡ claim_behind most (length f + 1) (drop (length f + 1) (f ++ soh ∷ back)) (before_soh (drop (length f + 1) (f ++ soh ∷ back))) = rw long refl in
    ap (claim_by most (f ++ soh ∷ back)) (before_soh_plain f back plain) ∙ at ∙ ap (λ b. claim_behind most (length f + 1) b (before_soh b)) left

within_is : (most least : ℕ) (claim : Claim) → least ≤ most → within most least claim ≡ claim
within_is most least claim low = rw (le-leb least most low) refl

-- a whole field 9 after it
claim_second : (most : ℕ) (o : Opening) (more : List ℕ) → IsOpening o →
    claim_behind most (length (field_of 56 o.value) + 1) (field_of 57 o.digits ++ soh ∷ more) (Some (field_of 57 o.digits)) ≡ within most (text_size o) (Whole (text_size o))
claim_second most o more is =
    let g = field_of 57 o.digits in
    let n = length (field_of 56 o.value) + 1 + length g + digits_value 10 o.digits + 8 in
    let counts : n ≡ text_size o = omega (arith, opening_size o) in
    let at : claim_behind most (length (field_of 56 o.value) + 1) (g ++ soh ∷ more) (Some g) ≡ within most n (Whole n) = rw (is.size) refl in
    at ∙ ap (λ n. within most n (Whole n)) counts

pub claim_opening : (most : ℕ) (o : Opening) (more : List ℕ) → IsOpening o → claim_of most (opening_bytes o ++ more) ≡ within most (text_size o) (Whole (text_size o))
claim_opening most o more is =
    let g = field_of 57 o.digits in
    let k = length (field_of 56 o.value) + 1 in
    let back = g ++ soh ∷ more in
    ap (claim_of most) (fields_apart o more) ∙ claim_first most o.value back is.some (first_plain o is)
    ∙ ap (claim_behind most k back) (before_soh_plain g more (second_plain o is)) ∙ claim_second most o more is

-- ---- every whole text is claimed

pub whole_claimed : (most : ℕ) (bytes : List ℕ) (n : ℕ) → IsWhole most bytes n → claim_of most bytes ≡ Whole n
whole_claimed most bytes n w =
    let o = w.opening in
    ap (claim_of most) w.begins ∙ claim_opening most o w.more w.opens ∙ within_is most (text_size o) (Whole (text_size o)) (omega (arith, w.counts, w.within)) ∙ ap Whole (sym w.counts)

-- ---- a part of one is claimed too, or is open

-- a front of a whole text is one of two
abbrev pub OneOf : ℕ → List ℕ → Type 0
OneOf most bytes = (claim_of most bytes ≡ Open) ⊎ ((n : ℕ) × (claim_of most bytes ≡ Whole n))

-- within field 8
part_first : (most : ℕ) (bytes more : List ℕ) (n : ℕ) → IsWhole most (bytes ++ more) n → before_soh bytes ≡ None → claim_of most bytes ≡ Open
unfolding claim_of
part_first most bytes more n w none =
    let o = w.opening in
    let f = field_of 56 o.value in
    let part = part_before bytes more f (field_of 57 o.digits ++ soh ∷ w.more) none (w.begins ∙ fields_apart o w.more) in
    let begun : is_begun 56 bytes ≡ true = begun_part 56 o.value bytes part.0 part.1 in
    let some = w.opens.some in
    let digits = (size_is o.digits w.opens.size).0 in
    let shorter : length bytes ≤ length f = omega (arith, ap length part.1, length-append bytes part.0) in
    let low : max (length bytes) 3 + 12 ≤ most = omega (arith, w.within, w.counts, opening_size o, some, digits, shorter) in
    ap (claim_by most bytes) none ∙ rw begun (within_is most (max (length bytes) 3 + 12) Open low)

-- within field 9, or after it: what follows field 8 begins as field 9 does
part_digits : (most : ℕ) (o : Opening) (after more back : List ℕ) → IsOpening o → text_size o ≤ most → after ++ more ≡ field_of 57 o.digits ++ soh ∷ back → before_soh after ≡ None →
    claim_behind most (length (field_of 56 o.value) + 1) after None ≡ Open
part_digits most o after more back is low e none =
    let g = field_of 57 o.digits in
    let k = length (field_of 56 o.value) + 1 in
    let part = part_before after more g back none e in
    let begun : is_begun 57 after ≡ true = begun_part 57 o.digits after part.0 part.1 in
    let rest = value_part 57 o.digits after part.0 part.1 in
    let digits : is_part (drop 2 after) ≡ true = part_of_size o.digits (drop 2 after) rest.0 is.size rest.1 in
    let number : digits_value 10 (drop 2 after) ≤ digits_value 10 o.digits = value_of_part o.digits (drop 2 after) rest.0 rest.1 in
    let some = (size_is o.digits is.size).0 in
    let shorter : length after ≤ length g = omega (arith, ap length part.1, length-append after part.0) in
    let within : k + max (length after) 3 + digits_value 10 (drop 2 after) + 8 ≤ most = omega (arith, low, opening_size o, number, some, shorter) in
    rw (begun, digits) (within_is most (k + max (length after) 3 + digits_value 10 (drop 2 after) + 8) Open within)

whole_digits : (most : ℕ) (o : Opening) (after more back g : List ℕ) → IsOpening o → text_size o ≤ most → after ++ more ≡ field_of 57 o.digits ++ soh ∷ back → before_soh after ≡ Some g →
    claim_behind most (length (field_of 56 o.value) + 1) after (Some g) ≡ Whole (text_size o)
whole_digits most o after more back g is low e told =
    let f = field_of 57 o.digits in
    let k = length (field_of 56 o.value) + 1 in
    let stands = before_soh_told after g told in
    let here : before_soh (after ++ more) ≡ Some g = ap before_soh (ap (λ y. y ++ more) stands.1.1 ∙ append_assoc g (soh ∷ stands.1.0) more) ∙ before_soh_plain g (stands.1.0 ++ more) stands.0 in
    let there : before_soh (after ++ more) ≡ Some f = ap before_soh e ∙ before_soh_plain f back (second_plain o is) in
    let same : g ≡ f = cc in
    let counts : k + length f + digits_value 10 o.digits + 8 ≡ text_size o = omega (arith, opening_size o) in
    let at : claim_behind most k after (Some f) ≡ within most (k + length f + digits_value 10 o.digits + 8) (Whole (k + length f + digits_value 10 o.digits + 8)) = rw (is.size) refl in
    ap (λ y. claim_behind most k after (Some y)) same ∙ at ∙ ap (λ n. within most n (Whole n)) counts ∙ within_is most (text_size o) (Whole (text_size o)) low

part_second : (most : ℕ) (o : Opening) (bytes after more back : List ℕ) → IsOpening o → text_size o ≤ most → bytes ≡ field_of 56 o.value ++ soh ∷ after → after ++ more ≡ field_of 57 o.digits ++ soh ∷ back →
    (x : Option (List ℕ)) → before_soh after ≡ x → OneOf most bytes
part_second most o bytes after more back is low all rest x told =
    let k = length (field_of 56 o.value) + 1 in
    let at : claim_of most bytes ≡ claim_behind most k after x = ap (claim_of most) all ∙ claim_first most o.value after is.some (first_plain o is) ∙ ap (claim_behind most k after) told in
    by_front x told at where
      by_front : (x : Option (List ℕ)) → before_soh after ≡ x → claim_of most bytes ≡ claim_behind most (length (field_of 56 o.value) + 1) after x → OneOf most bytes
      by_front None none at = inl (at ∙ part_digits most o after more back is low rest none)
      by_front (Some g) some at = inr (text_size o, at ∙ whole_digits most o after more back g is low rest some)

part_by : (most : ℕ) (bytes more : List ℕ) (n : ℕ) → IsWhole most (bytes ++ more) n → (x : Option (List ℕ)) → before_soh bytes ≡ x → OneOf most bytes
part_by most bytes more n w None told = inl (part_first most bytes more n w told)
part_by most bytes more n w (Some front) told =
    let o = w.opening in
    let f = field_of 56 o.value in
    let g = field_of 57 o.digits in
    let stands = before_soh_told bytes front told in
    let after = stands.1.0 in
    let here : before_soh (bytes ++ more) ≡ Some front = ap before_soh (ap (λ y. y ++ more) stands.1.1 ∙ append_assoc front (soh ∷ after) more) ∙ before_soh_plain front (after ++ more) stands.0 in
    let apart : bytes ++ more ≡ f ++ soh ∷ (g ++ soh ∷ w.more) = w.begins ∙ fields_apart o w.more in
    let there : before_soh (bytes ++ more) ≡ Some f = ap before_soh apart ∙ before_soh_plain f (g ++ soh ∷ w.more) (first_plain o w.opens) in
    let same : front ≡ f = cc in
    let all : bytes ≡ f ++ soh ∷ after = stands.1.1 ∙ ap (λ y. y ++ soh ∷ after) same in
    let joined : f ++ soh ∷ (after ++ more) ≡ f ++ soh ∷ (g ++ soh ∷ w.more) = sym (append_assoc f (soh ∷ after) more) ∙ ap (λ y. y ++ more) (sym all) ∙ apart in
    let later : soh ∷ (after ++ more) ≡ soh ∷ (g ++ soh ∷ w.more) = append_cancel_left f (soh ∷ (after ++ more)) (soh ∷ (g ++ soh ∷ w.more)) joined in
    let rest : after ++ more ≡ g ++ soh ∷ w.more = cc in
    part_second most o bytes after more w.more w.opens (omega (arith, w.within, w.counts)) all rest (before_soh after) refl

pub part_claimed : (most : ℕ) (bytes more : List ℕ) (n : ℕ) → IsWhole most (bytes ++ more) n → OneOf most bytes
part_claimed most bytes more n w = part_by most bytes more n w (before_soh bytes) refl

-- ---- what is claimed is so

-- what a claim needs to be so, but that an open one isn't whole
abbrev Told : ℕ → List ℕ → Claim → Type 0
Told most bytes (Whole n) = IsWhole most bytes n
Told most bytes Open = (more : List ℕ) × (n : ℕ) × IsWhole most (bytes ++ more) n
Told most bytes Never = Unit {0}

within_told : (most least : ℕ) (bytes : List ℕ) (claim : Claim) → (least ≤ most → Told most bytes claim) → Told most bytes (within most least claim)
within_told most least bytes claim there = by_test (nat_le least most) refl where
  by_test : (t : Bool) → nat_le least most ≡ t → Told most bytes (if t then claim else Never)
  by_test true is = there (leb-true least most is)
  by_test false is = tt

-- if a test holds
if_told : (most : ℕ) (bytes : List ℕ) (t : Bool) (claim : Claim) → (t ≡ true → Told most bytes claim) → Told most bytes (if t then claim else Never)
if_told most bytes true claim there = there refl
if_told most bytes false claim there = tt

-- an opening whose bytes begin so makes it open
open_by : (most : ℕ) (bytes more : List ℕ) (o : Opening) → IsOpening o → bytes ++ more ≡ opening_bytes o → text_size o ≤ most → Told most bytes Open
open_by most bytes more o is e low = (more, text_size o, record { opening = o; more = []; opens = is; begins = e ∙ sym (append-nil (opening_bytes o)); counts = refl; within = low })

-- a part, or one byte where there is none
or_one : ℕ → List ℕ → List ℕ
or_one d [] = d ∷ []
or_one d (c ∷ bytes) = c ∷ bytes

one_size : (d : ℕ) (bytes : List ℕ) → length (or_one d bytes) ≡ max (length bytes) 1
unfolding or_one
one_size d [] = refl
one_size d (c ∷ bytes) = omega arith

-- a begun field is finished in the shortest way
finished : (tag d : ℕ) (bytes : List ℕ) → is_begun tag bytes ≡ true → (more : List ℕ) × (bytes ++ more ≡ field_of tag (or_one d (drop 2 bytes)))
unfolding or_one
finished tag d [] begun = (field_of tag (d ∷ []), refl)
finished tag d (a ∷ []) begun = (61 ∷ d ∷ [], ap (λ x. x ∷ 61 ∷ d ∷ []) (eqb-true a tag begun))
finished tag d (a ∷ (e ∷ [])) begun =
    let both = and_true (a == tag) (e == 61) begun in
    (d ∷ [], ap (λ x. x ∷ e ∷ d ∷ []) (eqb-true a tag both.0) ∙ ap (λ x. tag ∷ x ∷ d ∷ []) (eqb-true e 61 both.1))
finished tag d (a ∷ (e ∷ (c ∷ bytes))) begun =
    let both = and_true (a == tag) (e == 61) begun in
    ([], append-nil (a ∷ (e ∷ (c ∷ bytes))) ∙ ap (λ x. x ∷ e ∷ c ∷ bytes) (eqb-true a tag both.0) ∙ ap (λ x. tag ∷ x ∷ c ∷ bytes) (eqb-true e 61 both.1))

one_plain : (d : ℕ) (bytes : List ℕ) → d ≢ soh → Plain bytes → Plain (or_one d bytes)
unfolding or_one
one_plain d [] other plain = (other, tt)
one_plain d (c ∷ bytes) other plain = plain

plain_drop : (n : ℕ) (bytes : List ℕ) → Plain bytes → Plain (drop n bytes)
plain_drop zero bytes plain = plain
plain_drop (suc n) [] plain = tt
plain_drop (suc n) (b ∷ bytes) plain = plain_drop n bytes plain.1

one_digits : (digits : List ℕ) → is_part digits ≡ true → is_number (or_one 48 digits) ≡ true
unfolding or_one
one_digits [] part = refl
one_digits (c ∷ digits) part = rw (lt-ltb 0 (length (c ∷ digits)) (omega arith)) part

one_value : (digits : List ℕ) → digits_value 10 (or_one 48 digits) ≡ digits_value 10 digits
unfolding or_one
one_value [] = refl
one_value (c ∷ digits) = refl

-- a part of field 8
open_first : (most : ℕ) (bytes : List ℕ) → before_soh bytes ≡ None → is_begun 56 bytes ≡ true → max (length bytes) 3 + 12 ≤ most → Told most bytes Open
open_first most bytes none begun low =
    let value = or_one 120 (drop 2 bytes) in
    let o : Opening = record { value = value; digits = 48 ∷ [] } in
    let end = soh ∷ (field_of 57 (48 ∷ []) ++ soh ∷ []) in
    let more = finished 56 120 bytes begun in
    let size = one_size 120 (drop 2 bytes) in
    open_by most bytes (more.0 ++ end) o
    (record { some = omega (arith, size); plain = one_plain 120 (drop 2 bytes) (λ e. cc) (plain_drop 2 bytes (none_plain bytes none)); size = refl })
    (sym (append_assoc bytes more.0 end) ∙ ap (λ y. y ++ end) more.1)
    (omega (arith, low, opening_size o, size, length-drop 2 bytes))

-- field 8 and a part of field 9
open_second : (most : ℕ) (bytes value after : List ℕ) → 0 < length value → Plain value → bytes ≡ field_of 56 value ++ soh ∷ after → before_soh after ≡ None → is_begun 57 after ≡ true → is_part (drop 2 after) ≡ true →
    length (field_of 56 value) + 1 + max (length after) 3 + digits_value 10 (drop 2 after) + 8 ≤ most → Told most bytes Open
open_second most bytes value after some plain all none begun part low =
    let digits = or_one 48 (drop 2 after) in
    let o : Opening = record { value = value; digits = digits } in
    let f = field_of 56 value in
    let more = finished 57 48 after begun in
    let size = one_size 48 (drop 2 after) in
    let joined : (f ++ soh ∷ after) ++ (more.0 ++ soh ∷ []) ≡ opening_bytes o =
    append_assoc f (soh ∷ after) (more.0 ++ soh ∷ []) ∙ ap (λ y. f ++ soh ∷ y) (sym (append_assoc after more.0 (soh ∷ [])) ∙ ap (λ y. y ++ soh ∷ []) more.1)
    in
    open_by most bytes (more.0 ++ soh ∷ []) o
    (record { some = some; plain = plain; size = one_digits (drop 2 after) part })
    (ap (λ y. y ++ (more.0 ++ soh ∷ [])) all ∙ joined)
    (omega (arith, low, opening_size o, size, length-drop 2 after, one_value (drop 2 after)))

-- both fields
whole_second : (most : ℕ) (bytes value after g more : List ℕ) → 0 < length value → Plain value → bytes ≡ field_of 56 value ++ soh ∷ after → after ≡ g ++ soh ∷ more → is_begun 57 g ≡ true → is_number (drop 2 g) ≡ true →
    (n : ℕ) → n ≡ length (field_of 56 value) + 1 + length g + digits_value 10 (drop 2 g) + 8 → n ≤ most → IsWhole most bytes n
whole_second most bytes value after g more some plain all rest begun size n counts low =
    let o : Opening = record { value = value; digits = drop 2 g } in
    let f = field_of 56 value in
    let long : 2 ≤ length g = omega (arith, (size_is (drop 2 g) size).0, length-drop 2 g) in
    let is : g ≡ field_of 57 (drop 2 g) = begun_is 57 g begun long in
    record {
      opening = o;
      more = more;
      opens = record { some = some; plain = plain; size = size };
      begins = all ∙ ap (λ y. f ++ soh ∷ y) rest ∙ ap (λ y. f ++ soh ∷ (y ++ soh ∷ more)) is ∙ sym (fields_apart o more);
      counts = omega (arith, counts, opening_size o, length-drop 2 g, long);
      within = low;
    }

behind_told : (most : ℕ) (bytes value after : List ℕ) → 0 < length value → Plain value → bytes ≡ field_of 56 value ++ soh ∷ after → (x : Option (List ℕ)) → before_soh after ≡ x → Told most bytes (claim_behind most (length (field_of 56 value) + 1) after x)
behind_told most bytes value after some plain all None told =
    let k = length (field_of 56 value) + 1 in
    let n = k + max (length after) 3 + digits_value 10 (drop 2 after) + 8 in
    if_told most bytes (is_begun 57 after && is_part (drop 2 after)) (within most n Open) (λ t.
    let both = and_true (is_begun 57 after) (is_part (drop 2 after)) t in
    within_told most n bytes Open (λ low. open_second most bytes value after some plain all told both.0 both.1 low))
behind_told most bytes value after some plain all (Some g) told =
    let k = length (field_of 56 value) + 1 in
    let n = k + length g + digits_value 10 (drop 2 g) + 8 in
    let stands = before_soh_told after g told in
    if_told most bytes (is_begun 57 g && is_number (drop 2 g)) (within most n (Whole n)) (λ t.
    let both = and_true (is_begun 57 g) (is_number (drop 2 g)) t in
    within_told most n bytes (Whole n) (λ low. whole_second most bytes value after g stands.1.0 some plain all stands.1.1 both.0 both.1 n refl low))

first_told : (most : ℕ) (bytes : List ℕ) (x : Option (List ℕ)) → before_soh bytes ≡ x → Told most bytes (claim_by most bytes x)
first_told most bytes None told =
    if_told most bytes (is_begun 56 bytes) (within most (max (length bytes) 3 + 12) Open) (λ begun.
    within_told most (max (length bytes) 3 + 12) bytes Open (λ low. open_first most bytes told begun low))
first_told most bytes (Some f) told =
    let after = drop (length f + 1) bytes in
    let stands = before_soh_told bytes f told in
    if_told most bytes (is_begun 56 f && nat_lt 2 (length f)) (claim_behind most (length f + 1) after (before_soh after)) (λ t.
    let both = and_true (is_begun 56 f) (nat_lt 2 (length f)) t in
    let long : 2 < length f = grind (arith, nat_tests, both.1) in
    let is : f ≡ field_of 56 (drop 2 f) = begun_is 56 f both.0 (omega (arith, long)) in
    let left : after ≡ stands.1.0 = ap (drop (length f + 1)) stands.1.1 ∙ behind_soh f stands.1.0 in
    let all : bytes ≡ field_of 56 (drop 2 f) ++ soh ∷ after = stands.1.1 ∙ ap (λ y. f ++ soh ∷ y) (sym left) ∙ ap (λ y. y ++ soh ∷ after) is in
    let some : 0 < length (drop 2 f) = omega (arith, long, length-drop 2 f) in
    let there = behind_told most bytes (drop 2 f) after some (plain_drop 2 f stands.0) all (before_soh after) refl in
    subst (λ y. Told most bytes (claim_behind most (length y + 1) after (before_soh after))) (sym is) there)

told : (most : ℕ) (bytes : List ℕ) → Told most bytes (claim_of most bytes)
unfolding claim_of
told most bytes = first_told most bytes (before_soh bytes) refl

-- ---- the claim of bytes

claims_by : (most : ℕ) (bytes : List ℕ) (c : Claim) → claim_of most bytes ≡ c → Claims most bytes c
claims_by most bytes (Whole n) is = subst (Told most bytes) is (told most bytes)
claims_by most bytes Open is =
    let there : Told most bytes Open = subst (Told most bytes) is (told most bytes) in
    record { not_yet = λ n w. let whole : claim_of most bytes ≡ Whole n = whole_claimed most bytes n w in cc; more = there.0; size = there.1; would = there.2 }
claims_by most bytes Never is = λ more n w. never (part_claimed most bytes more n w) where
  never : OneOf most bytes → ⊥
  never (inl open') = cc
  never (inr whole) = let e : claim_of most bytes ≡ Whole whole.0 = whole.1 in cc

-- the reader gives the claim
pub claims : (most : ℕ) (bytes : List ℕ) → Claims most bytes (claim_of most bytes)
claims most bytes = claims_by most bytes (claim_of most bytes) refl

-- and the only one
pub claims_once : (most : ℕ) (bytes : List ℕ) (c : Claim) → Claims most bytes c → claim_of most bytes ≡ c
claims_once most bytes (Whole n) w = whole_claimed most bytes n w
claims_once most bytes Open o = open_by_part (part_claimed most bytes o.more o.size o.would) where
  open_by_part : OneOf most bytes → claim_of most bytes ≡ Open
  open_by_part (inl is) = is
  open_by_part (inr whole) = absurd (o.not_yet whole.0 (subst (Claims most bytes) whole.1 (claims most bytes)))
claims_once most bytes Never never = by_claim (claim_of most bytes) refl where
  by_claim : (c : Claim) → claim_of most bytes ≡ c → claim_of most bytes ≡ Never
  by_claim (Whole n) is =
      let w : IsWhole most bytes n = subst (Claims most bytes) is (claims most bytes) in
      absurd (never [] n (subst (λ y. IsWhole most y n) (sym (append-nil bytes)) w))
  by_claim Open is = let o : IsOpen most bytes = subst (Claims most bytes) is (claims most bytes) in absurd (never o.more o.size o.would)
  by_claim Never is = is

-- ---- bytes that go on

-- a text that is begun stays so
pub whole_longer : (most : ℕ) (bytes more : List ℕ) (n : ℕ) → IsWhole most bytes n → IsWhole most (bytes ++ more) n
whole_longer most bytes more n w = record {
  opening = w.opening;
  more = w.more ++ more;
  opens = w.opens;
  begins = ap (λ y. y ++ more) w.begins ∙ append_assoc (opening_bytes w.opening) w.more more;
  counts = w.counts;
  within = w.within;
}

-- what no bytes make a text, no bytes make one
pub never_longer : (most : ℕ) (bytes more : List ℕ) → IsNever most bytes → IsNever most (bytes ++ more)
never_longer most bytes more never = λ rest n w. never (more ++ rest) n (subst (λ y. IsWhole most y n) (append_assoc bytes more rest) w)

pub claim_once : (most : ℕ) (bytes : List ℕ) (c d : Claim) → Claims most bytes c → Claims most bytes d → c ≡ d
claim_once most bytes c d is as' = sym (claims_once most bytes c is) ∙ claims_once most bytes d as'

-- ---- an open claim

-- the front of an opening that isn't the whole of it is shorter
pub open_short : (most : ℕ) (bytes : List ℕ) → IsOpen most bytes → length bytes < most
open_short most bytes is = by_order (cases_lt (length bytes) most) where
  o : Opening
  o = is.would.opening

  by_order : (length bytes < most) ⊎ (most ≤ length bytes) → length bytes < most
  by_order (inl less) = less
  by_order (inr low) =
      let w = is.would in
      let front = opening_bytes o in
      let fits : length front ≤ length bytes = omega (arith, low, w.within, w.counts) in
      let part : take (length front) bytes ≡ front = sym (take-append-le (length front) bytes is.more fits) ∙ ap (take (length front)) w.begins ∙ take-append_seam front w.more in
      absurd (is.not_yet is.size (record {
        opening = o;
        more = drop (length front) bytes;
        opens = w.opens;
        begins = sym (take-append-drop (length front) bytes) ∙ ap (λ x. x ++ drop (length front) bytes) part;
        counts = w.counts;
        within = w.within;
      }))

-- no bytes are open
pub open_nil : (most : ℕ) → 15 ≤ most → claim_of most [] ≡ Open
unfolding claim_of
open_nil most low = within_is most (max 0 3 + 12) Open (omega (arith, low))
