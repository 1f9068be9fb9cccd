-- What stands at the front of some bytes is found, and what is found stands there.
use Rattle.std.proofs.Common.{◌≡◌, ◌≢◌, ℕ, suc, ◌+◌, ◌-◌, ◌*◌, ◌/◌, ◌%◌, ◌≤◌, ◌<◌, Bool, true, false, cond, eqb, List, [], ◌∷◌, ◌++◌, length, take, drop, get_or, Option, Some, None, refl, sym, ap, ◌∙◌, subst, arith, append_assoc, append-nil, length-append}
use Rattle.std.specs.Prelude.{nat_lt, nat_le, ◌&&◌, ◌==◌, decimal, slice_index, if◌then◌else◌}
use Rattle.std.specs.List.{AllByRecursion}
use Rattle.std.specs.Char.{digit_value, is_ascii_digit}
use Rattle.std.specs.Str.Parse.{digits_value, digits_value_after}
use Rattle.std.specs.Str.{all_ascii_digits}
use Rattle.std.proofs.lemmas.Bool.{and_parts as both, lt-ltb, ltb-true, leb-true, le-leb, ne_eqb, eqb-true, eq-eqb, false≢true}
use Rattle.std.proofs.lemmas.Bool.Decides.{nat_tests}
use Rattle.std.proofs.Math.Seq.{drop-cons, take-append_seam}
use Rattle.std.proofs.lemmas.List.{take-append-drop, length-take-le}
use Rattle.std.proofs.lemmas.Fmt.{decimal_step, decimal_digit, first_decimal, digits_value-decimal, digits_decimal}
use Rattle.std.proofs.lemmas.Str.Parse.{numerals_by_value, tells_all_ascii_digits}
use Rattle.tagvalue_codec.specs.Fields.{soh, Field, tag_bytes, field_bytes, IsTag, IsPlain}
use Rattle.tagvalue_codec.specs.Reading.{tag_after, tag_read, plain_len, exact_read, value_read, with_tag, with_value, field_read, kept_if}

-- ---- answers

pub some_is : {A : Type 0} {x y : A} → Some x ≡ Some y → x ≡ y
some_is h = cc

pub not_none : {A : Type 0} {x : A} → ◌≢◌ {A = Option A} None (Some x)
not_none h = cc

pub pair_fst : {X Y : Type 0} {x y : X} {u v : Y} → ◌≡◌ {A = X × Y} (x, u) (y, v) → x ≡ y
pair_fst h = ap (λ p. p.0) h

pub pair_snd : {X Y : Type 0} {x y : X} {u v : Y} → ◌≡◌ {A = X × Y} (x, u) (y, v) → u ≡ v
pair_snd h = ap (λ p. p.1) h

-- ---- tags

digit_is : (c : ℕ) → is_ascii_digit c ≡ true → digit_value c ≡ c - 48
digit_is c h = grind (arith, nat_tests)

digit_in : (c : ℕ) → is_ascii_digit c ≡ true → (48 ≤ c) × (c ≤ 57)
digit_in c h = (grind (arith, nat_tests), grind (arith, nat_tests))

no_digit : is_ascii_digit 61 ≡ false
no_digit = refl

-- one more digit after a number
decimal_next : (n c : ℕ) → 0 < n → n < 100000000 → 48 ≤ c → c ≤ 57 → decimal (n * 10 + (c - 48)) ≡ decimal n ++ (c ∷ [])
decimal_next n c some small low high =
    let m : ℕ = n * 10 + (c - 48) in
    let front : m / 10 ≡ n = omega arith in
    let end : 48 + m % 10 ≡ c = omega arith in
    decimal_step m (omega arith) (omega arith) ∙ (λ i. decimal (front i) ++ (end i ∷ []))

-- a tag that was read after the digits of a number
pub record Behind (n m : ℕ) (b rest : List ℕ) : Type 0 where
  pub digits : List ℕ
  pub bytes_are : b ≡ digits ++ (61 ∷ rest)
  pub number_is : decimal m ≡ decimal n ++ digits
  pub above : 0 < m
  pub below : m < 1000000000

tag_ends : (n c : ℕ) (b : List ℕ) (m : ℕ) (rest : List ℕ) (is : Bool) → (c == 61) ≡ is → 0 < n → n < 1000000000 → ◌≡◌ {A = Option (ℕ × List ℕ)} (cond {A = Option (ℕ × List ℕ)} is (Some (n, b)) None) (Some (m, rest)) → Behind n m (c ∷ b) rest
tag_ends n c b m rest false is some small h = absurd (not_none h)
tag_ends n c b m rest true is some small h =
    let same : n ≡ m = pair_fst (some_is h) in
    let left : b ≡ rest = pair_snd (some_is h) in
    record {
      digits = [];
      bytes_are = ap (λ x. x ∷ b) (eqb-true c 61 is) ∙ ap (λ r. 61 ∷ r) left;
      number_is = ap decimal (sym same) ∙ sym (append-nil (decimal n));
      above = subst (λ (k : ℕ). 0 < k) same some;
      below = subst (λ (k : ℕ). k < 1000000000) same small;
    }

tag_step : (n c : ℕ) (b : List ℕ) (m : ℕ) (rest : List ℕ) (digit room : Bool) → is_ascii_digit c ≡ digit → nat_lt n 100000000 ≡ room → 0 < n → n < 1000000000 →
    (0 < n * 10 + (c - 48) → n * 10 + (c - 48) < 1000000000 → tag_after (n * 10 + (c - 48)) b ≡ Some (m, rest) → Behind (n * 10 + (c - 48)) m b rest) →
    ◌≡◌ {A = Option (ℕ × List ℕ)} (cond {A = Option (ℕ × List ℕ)} digit (cond {A = Option (ℕ × List ℕ)} room (tag_after (n * 10 + (c - 48)) b) None) (cond {A = Option (ℕ × List ℕ)} (c == 61) (Some (n, b)) None)) (Some (m, rest)) → Behind n m (c ∷ b) rest
tag_step n c b m rest true false is few some small later h = absurd (not_none h)
tag_step n c b m rest false room is few some small later h = tag_ends n c b m rest (c == 61) refl some small h
tag_step n c b m rest true true is few some small later h =
    let fits : n < 100000000 = ltb-true n 100000000 few in
    let within = digit_in c is in
    let low : 48 ≤ c = within.0 in
    let high : c ≤ 57 = within.1 in
    let r = later (omega arith) (omega arith) h in
    record {
      digits = c ∷ r.digits;
      bytes_are = ap (λ x. c ∷ x) r.bytes_are;
      number_is = r.number_is ∙ ap (λ d. d ++ r.digits) (decimal_next n c some fits low high) ∙ append_assoc (decimal n) (c ∷ []) r.digits;
      above = r.above;
      below = r.below;
    }

tag_behind : (n : ℕ) (b : List ℕ) (m : ℕ) (rest : List ℕ) → 0 < n → n < 1000000000 → tag_after n b ≡ Some (m, rest) → Behind n m b rest
tag_behind n [] m rest some small h = absurd (not_none h)
tag_behind n (c ∷ b) m rest some small h =
    tag_step n c b m rest (is_ascii_digit c) (nat_lt n 100000000) refl refl some small (λ more fits k. tag_behind (n * 10 + (c - 48)) b m rest more fits k) h

tag_begins : (c : ℕ) (b : List ℕ) (m : ℕ) (rest : List ℕ) (first : Bool) → (nat_lt 48 c && nat_le c 57) ≡ first → (if first then tag_after (c - 48) b else None) ≡ Some (m, rest) → IsTag m × (c ∷ b ≡ tag_bytes m ++ rest)
tag_begins c b m rest false is h = absurd (not_none h)
tag_begins c b m rest true is h =
    let low : 48 < c = ltb-true 48 c (both (nat_lt 48 c) (nat_le c 57) is).0 in
    let high : c ≤ 57 = leb-true c 57 (both (nat_lt 48 c) (nat_le c 57) is).1 in
    let r = tag_behind (c - 48) b m rest (omega arith) (omega arith) h in
    let first : 48 + (c - 48) ≡ c = omega arith in
    let one : decimal (c - 48) ≡ c ∷ [] = decimal_digit (c - 48) (omega arith) ∙ ap (λ x. x ∷ []) first in (
      record { above = r.above; below = r.below },
      ap (λ x. c ∷ x) r.bytes_are ∙ ap (λ d. d ++ (61 ∷ rest)) (sym (r.number_is ∙ ap (λ d. d ++ r.digits) one)) ∙ sym (append_assoc (decimal m) (61 ∷ []) rest),
    )

-- a tag that is found stands at the front
pub tag_sound : (b : List ℕ) (tag : ℕ) (rest : List ℕ) → tag_read b ≡ Some (tag, rest) → IsTag tag × (b ≡ tag_bytes tag ++ rest)
tag_sound [] tag rest h = absurd (not_none h)
tag_sound (c ∷ b) tag rest h = tag_begins c b tag rest (nat_lt 48 c && nat_le c 57) refl h

-- digits after a number only add to it
value_ge : (n : ℕ) (ds : List ℕ) → n ≤ digits_value_after 10 n ds
value_ge n [] = omega arith
value_ge n (d ∷ ds) = omega (arith, value_ge (n * 10 + digit_value d) ds)

tag_there : (n : ℕ) (ds rest : List ℕ) → all_ascii_digits ds ≡ true → digits_value_after 10 n ds < 1000000000 → tag_after n (ds ++ (61 ∷ rest)) ≡ Some (digits_value_after 10 n ds, rest)
tag_there n [] rest all small = refl
tag_there n (c ∷ ds) rest all small =
    let digit : is_ascii_digit c ≡ true = (both (is_ascii_digit c) (all_ascii_digits ds) all).0 in
    let value : digit_value c ≡ c - 48 = digit_is c digit in
    let few : n < 100000000 = omega (arith, value_ge (n * 10 + digit_value c) ds) in
    let good : nat_lt n 100000000 ≡ true = lt-ltb n 100000000 few in
    rw (digit, good) (ap (λ k. tag_after (n * 10 + k) (ds ++ (61 ∷ rest))) (sym value) ∙ tag_there (n * 10 + digit_value c) ds rest (both (is_ascii_digit c) (all_ascii_digits ds) all).1 small)

first_there : (ds rest : List ℕ) (tag : ℕ) → all_ascii_digits ds ≡ true → 48 < get_or ds 0 0 → digits_value 10 ds ≡ tag → tag < 1000000000 → tag_read (ds ++ (61 ∷ rest)) ≡ Some (tag, rest)
first_there [] rest tag all first value small = absurd (omega arith)
first_there (c ∷ ds) rest tag all first value small =
    let digit : is_ascii_digit c ≡ true = (both (is_ascii_digit c) (all_ascii_digits ds) all).0 in
    let within = digit_in c digit in
    let high : nat_le c 57 ≡ true = le-leb c 57 within.1 in
    let low : nat_lt 48 c ≡ true = lt-ltb 48 c first in
    let is : digit_value c ≡ c - 48 = digit_is c digit in
    let below : digits_value_after 10 (0 * 10 + digit_value c) ds < 1000000000 = subst (λ (k : ℕ). k < 1000000000) (sym value) small in
    let zero : c - 48 ≡ 0 * 10 + digit_value c = omega (arith, is) in
    rw (low, high) (ap (λ k. tag_after k (ds ++ (61 ∷ rest))) zero ∙ tag_there (0 * 10 + digit_value c) ds rest (both (is_ascii_digit c) (all_ascii_digits ds) all).1 below ∙ ap (λ t. Some (t, rest)) value)

-- a tag that stands at the front is found
pub tag_complete : (tag : ℕ) (rest : List ℕ) → IsTag tag → tag_read (tag_bytes tag ++ rest) ≡ Some (tag, rest)
tag_complete tag rest is =
    let model = numerals_by_value _ tells_all_ascii_digits in
    let above : 0 < tag = is.above in
    let below : tag < 1000000000 = is.below in
    ap tag_read (append_assoc (decimal tag) (61 ∷ []) rest)
    ∙ first_there (decimal tag) rest tag (digits_decimal model tag (omega arith)) (first_decimal tag above (omega arith)) (digits_value-decimal model tag (omega arith)) below

-- ---- values

plain_by : (c : ℕ) (b : List ℕ) (is : Bool) → (c == soh) ≡ is → AllByRecursion (λ x. x ≢ soh) (take (plain_len b) b) → AllByRecursion (λ x. x ≢ soh) (take (cond is 0 (suc (plain_len b))) (c ∷ b))
plain_by c b true is later = tt
plain_by c b false is later = ((λ e. false≢true (sym is ∙ eq-eqb c soh e)), later)

-- before the first SOH is none
front_plain : (b : List ℕ) → AllByRecursion (λ x. x ≢ soh) (take (plain_len b) b)
front_plain [] = tt
front_plain (c ∷ b) = plain_by c b (c == soh) refl (front_plain b)

-- bytes without SOH come before the first one
plain_found : (v rest : List ℕ) → AllByRecursion (λ x. x ≢ soh) v → plain_len (v ++ (soh ∷ rest)) ≡ length v
plain_found [] rest plain = refl
plain_found (c ∷ v) rest plain = rw (ne_eqb c soh plain.0) (ap suc (plain_found v rest plain.1))

exact_by : (many : ℕ) (b v rest : List ℕ) (is : Bool) → (nat_lt many (length b) && (slice_index b many == soh)) ≡ is →
    ◌≡◌ {A = Option (List ℕ × List ℕ)} (cond {A = Option (List ℕ × List ℕ)} is (Some (take many b, drop (suc many) b)) None) (Some (v, rest)) → (b ≡ v ++ (soh ∷ rest)) × (length v ≡ many)
exact_by many b v rest false is h = absurd (not_none h)
exact_by many b v rest true is h =
    let parts = both (nat_lt many (length b)) (slice_index b many == soh) is in
    let within : many < length b = ltb-true many (length b) parts.0 in
    let front : take many b ≡ v = pair_fst (some_is h) in
    let back : drop (suc many) b ≡ rest = pair_snd (some_is h) in
    let here : get_or b many 0 ≡ soh = eqb-true _ _ parts.1 in (
      sym (take-append-drop many b) ∙ ap (λ d. take many b ++ d) (drop-cons b many 0 within ∙ ap (λ x. x ∷ drop (suc many) b) here ∙ ap (λ r. soh ∷ r) back) ∙ ap (λ f. f ++ (soh ∷ rest)) front,
      ap length (sym front) ∙ length-take-le many b (omega arith),
    )

pub exact_sound : (many : ℕ) (b v rest : List ℕ) → exact_read many b ≡ Some (v, rest) → (b ≡ v ++ (soh ∷ rest)) × (length v ≡ many)
exact_sound many b v rest h = exact_by many b v rest _ refl h

drop_past : (v : List ℕ) (x : ℕ) (rest : List ℕ) → drop (suc (length v)) (v ++ (x ∷ rest)) ≡ rest
drop_past [] x rest = refl
drop_past (c ∷ v) x rest = drop_past v x rest

at_past : (v : List ℕ) (x : ℕ) (rest : List ℕ) → get_or (v ++ (x ∷ rest)) (length v) 0 ≡ x
at_past [] x rest = refl
at_past (c ∷ v) x rest = at_past v x rest

pub exact_complete : (v rest : List ℕ) → exact_read (length v) (v ++ (soh ∷ rest)) ≡ Some (v, rest)
exact_complete v rest =
    let within : nat_lt (length v) (length (v ++ (soh ∷ rest))) ≡ true = lt-ltb (length v) (length (v ++ (soh ∷ rest))) (omega (arith, length-append v (soh ∷ rest))) in
    let here : eqb (get_or (v ++ (soh ∷ rest)) (length v) 0) soh ≡ true = eq-eqb _ soh (at_past v soh rest) in
    rw (within, here, take-append_seam v (soh ∷ rest), drop_past v soh rest) refl

value_by : (b v rest : List ℕ) (is : Bool) → nat_lt 0 (plain_len b) ≡ is → ◌≡◌ {A = Option (List ℕ × List ℕ)} (cond {A = Option (List ℕ × List ℕ)} is (exact_read (plain_len b) b) None) (Some (v, rest)) →
    (b ≡ v ++ (soh ∷ rest)) × ((0 < length v) × AllByRecursion (λ x. x ≢ soh) v)
value_by b v rest false is h = absurd (not_none h)
value_by b v rest true is h =
    let exact = exact_sound (plain_len b) b v rest h in
    let many : length v ≡ plain_len b = exact.1 in
    let some : 0 < plain_len b = ltb-true 0 (plain_len b) is in
    let front : take (plain_len b) b ≡ v = ap (λ k. take k b) (sym many) ∙ ap (take (length v)) exact.0 ∙ take-append_seam v (soh ∷ rest) in
    (exact.0, (omega arith, subst (AllByRecursion (λ x. x ≢ soh)) front (front_plain b)))

pub value_sound : (b v rest : List ℕ) → value_read b ≡ Some (v, rest) → (b ≡ v ++ (soh ∷ rest)) × ((0 < length v) × AllByRecursion (λ x. x ≢ soh) v)
value_sound b v rest h = value_by b v rest _ refl h

pub value_complete : (v rest : List ℕ) → 0 < length v → AllByRecursion (λ x. x ≢ soh) v → value_read (v ++ (soh ∷ rest)) ≡ Some (v, rest)
value_complete v rest some plain =
    let is : plain_len (v ++ (soh ∷ rest)) ≡ length v = plain_found v rest plain in
    let good : nat_lt 0 (length v) ≡ true = lt-ltb 0 (length v) some in
    rw (is, good) (exact_complete v rest)

-- ---- fields

-- the bytes of a field by its tag and its value
abbrev pub laid : ℕ → List ℕ → List ℕ → List ℕ
laid tag v rest = tag_bytes tag ++ (v ++ (soh ∷ rest))

pub field_laid : (f : Field) (rest : List ℕ) → field_bytes f ++ rest ≡ laid f.tag f.value rest
field_laid f rest = append_assoc (tag_bytes f.tag) (f.value ++ (soh ∷ [])) rest ∙ ap (λ x. tag_bytes f.tag ++ x) (append_assoc f.value (soh ∷ []) rest)

-- a tag and a value that are found
pub record Found (p : List ℕ → Option (List ℕ × List ℕ)) (b : List ℕ) (f : Field) (rest : List ℕ) : Type 0 where
  pub tagged : IsTag f.tag
  pub back : List ℕ
  pub bytes_are : b ≡ tag_bytes f.tag ++ back
  pub value_is : p back ≡ Some (f.value, rest)

found_value : (p : List ℕ → Option (List ℕ × List ℕ)) (b : List ℕ) (f : Field) (rest : List ℕ) (tag : ℕ) (back : List ℕ) (o : Option (List ℕ × List ℕ)) → p back ≡ o →
    IsTag tag × (b ≡ tag_bytes tag ++ back) → with_tag tag o ≡ Some (f, rest) → Found p b f rest
found_value p b f rest tag back None is here h = absurd (not_none h)
found_value p b f rest tag back (Some v) is here h =
    let field : record { tag = tag; value = v.0 } ≡ f = pair_fst (some_is h) in
    let left : v.1 ≡ rest = pair_snd (some_is h) in
    subst (λ (g : Field). Found p b g rest) field (record { tagged = here.0; back = back; bytes_are = here.1; value_is = is ∙ ap (λ r. Some (v.0, r)) left })

found_tag : (p : List ℕ → Option (List ℕ × List ℕ)) (b : List ℕ) (f : Field) (rest : List ℕ) (o : Option (ℕ × List ℕ)) → tag_read b ≡ o → with_value p o ≡ Some (f, rest) → Found p b f rest
found_tag p b f rest None is h = absurd (not_none h)
found_tag p b f rest (Some t) is h = found_value p b f rest t.0 t.1 (p t.1) refl (tag_sound b t.0 t.1 is) h

pub found : (p : List ℕ → Option (List ℕ × List ℕ)) (b : List ℕ) (f : Field) (rest : List ℕ) → with_value p (tag_read b) ≡ Some (f, rest) → Found p b f rest
found p b f rest h = found_tag p b f rest (tag_read b) refl h

pub field_sound : (b : List ℕ) (f : Field) (rest : List ℕ) → field_read b ≡ Some (f, rest) → IsPlain f × (b ≡ field_bytes f ++ rest)
field_sound b f rest h =
    let r = found value_read b f rest h in
    let v = value_sound r.back f.value rest r.value_is in
    (record { tagged = r.tagged; some = v.1.0; plain = v.1.1 }, r.bytes_are ∙ ap (λ x. tag_bytes f.tag ++ x) v.0 ∙ sym (field_laid f rest))

pub field_complete : (f : Field) (rest : List ℕ) → IsPlain f → field_read (field_bytes f ++ rest) ≡ Some (f, rest)
field_complete f rest is =
    rw (field_laid f rest, tag_complete f.tag (f.value ++ (soh ∷ rest)) is.tagged, value_complete f.value rest is.some is.plain) refl

pub exact_field_sound : (many : ℕ) (b : List ℕ) (f : Field) (rest : List ℕ) → with_value (exact_read many) (tag_read b) ≡ Some (f, rest) → IsTag f.tag × ((length f.value ≡ many) × (b ≡ field_bytes f ++ rest))
exact_field_sound many b f rest h =
    let r = found (exact_read many) b f rest h in
    let v = exact_sound many r.back f.value rest r.value_is in
    (r.tagged, (v.1, r.bytes_are ∙ ap (λ x. tag_bytes f.tag ++ x) v.0 ∙ sym (field_laid f rest)))

pub exact_field_complete : (f : Field) (rest : List ℕ) → IsTag f.tag → with_value (exact_read (length f.value)) (tag_read (field_bytes f ++ rest)) ≡ Some (f, rest)
exact_field_complete f rest is =
    rw (field_laid f rest, tag_complete f.tag (f.value ++ (soh ∷ rest)) is, exact_complete f.value rest) refl

-- ---- fields that pass a test

pub kept_sound : (test : Field → Bool) (o : Option (Field × List ℕ)) (f : Field) (rest : List ℕ) → kept_if test o ≡ Some (f, rest) → (o ≡ Some (f, rest)) × (test f ≡ true)
kept_sound test None f rest h = absurd (not_none h)
kept_sound test (Some r) f rest h = by_test (test r.0) refl h where
  by_test : (is : Bool) → test r.0 ≡ is → ◌≡◌ {A = Option (Field × List ℕ)} (cond {A = Option (Field × List ℕ)} is (Some r) None) (Some (f, rest)) → ◌≡◌ {A = Option (Field × List ℕ)} (Some r) (Some (f, rest)) × (test f ≡ true)
  by_test false is k = absurd (not_none k)
  by_test true is k = (k, subst (λ (g : Field). test g ≡ true) (ap (λ x. x.0) (some_is k)) is)

pub kept_complete : (test : Field → Bool) (o : Option (Field × List ℕ)) (f : Field) (rest : List ℕ) → o ≡ Some (f, rest) → test f ≡ true → kept_if test o ≡ Some (f, rest)
kept_complete test o f rest is good = rw (is, good) refl
