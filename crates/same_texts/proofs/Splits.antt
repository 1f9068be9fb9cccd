-- A field is known by its bytes.
use Rattle.std.proofs.Common.{◌≡◌, ◌≢◌, ℕ, ◌<◌, ◌^◌, true, false, List, [], ◌∷◌, ◌++◌, length, decimal, refl, sym, ap, ◌∙◌, arith, append_assoc, length-append}
use Rattle.std.specs.List.{AllByRecursion}
use Rattle.std.specs.Char.{is_ascii_digit}
use Rattle.std.specs.Str.{all_ascii_digits}
use Rattle.std.proofs.lemmas.Bool.{and_parts as both, false≢true}
use Rattle.std.proofs.lemmas.Fmt.{decimal_injective, decimal_is_IsNumeral_wide, digits_decimal}
use Rattle.std.proofs.lemmas.Str.Parse.{numerals_by_value, tells_all_ascii_digits}
use Rattle.tagvalue_codec.specs.Fields.{Field, field_bytes, soh}

-- ---- lists

head_is : {x y : ℕ} {xs ys : List ℕ} → x ∷ xs ≡ y ∷ ys → x ≡ y
head_is h = cc

tail_is : {x y : ℕ} {xs ys : List ℕ} → x ∷ xs ≡ y ∷ ys → xs ≡ ys
tail_is h = cc

pub cons_both : {X : Type 0} {x y : X} {xs ys : List X} → x ≡ y → xs ≡ ys → x ∷ xs ≡ y ∷ ys
cons_both h k = cc

-- the bytes don't contain it
abbrev pub Without : ℕ → List ℕ → Type 0
Without s bytes = AllByRecursion (λ b. b ≢ s) bytes

-- what comes before and after the first one
split_once : (s : ℕ) (one other x y : List ℕ) → Without s one → Without s other → one ++ s ∷ x ≡ other ++ s ∷ y → (one ≡ other) × (x ≡ y)
split_once s [] [] x y p q e = (refl, tail_is e)
split_once s [] (b ∷ bs) x y p q e = absurd (q.0 (sym (head_is e)))
split_once s (a ∷ more) [] x y p q e = absurd (p.0 (head_is e))
split_once s (a ∷ more) (b ∷ bs) x y p q e =
    let later = split_once s more bs x y p.1 q.1 (tail_is e) in
    (cons_both (head_is e) later.0, later.1)

-- as many bytes, and those after them
pub split_at : (one other x y : List ℕ) → length one ≡ length other → one ++ x ≡ other ++ y → (one ≡ other) × (x ≡ y)
split_at [] [] x y long e = (refl, e)
split_at [] (b ∷ bs) x y long e = absurd (omega (arith, long))
split_at (a ∷ more) [] x y long e = absurd (omega (arith, long))
split_at (a ∷ more) (b ∷ bs) x y long e =
    let later = split_at more bs x y (omega (arith, long)) (tail_is e) in
    (cons_both (head_is e) later.0, later.1)

-- ---- digits

without_digits : (s : ℕ) → is_ascii_digit s ≡ false → (ds : List ℕ) → all_ascii_digits ds ≡ true → Without s ds
without_digits s apart [] h = tt
without_digits s apart (d ∷ ds) h =
    let is = both (is_ascii_digit d) (all_ascii_digits ds) h in
    (λ e. false≢true (sym apart ∙ ap is_ascii_digit (sym e) ∙ is.0), without_digits s apart ds is.1)

-- the digits of a number are digits
pub decimal_plain : (s n : ℕ) → is_ascii_digit s ≡ false → n < 10 ^ 64 → Without s (decimal n)
decimal_plain s n apart few = without_digits s apart (decimal n) ((numerals_by_value _ tells_all_ascii_digits).from (decimal n) (decimal_is_IsNumeral_wide n few).0.1)

pub decimal_without : (s n : ℕ) → is_ascii_digit s ≡ false → n < 2 ^ 64 → Without s (decimal n)
decimal_without s n apart small = without_digits s apart (decimal n) (digits_decimal (numerals_by_value _ tells_all_ascii_digits) n small)

-- ---- a field and what follows it

regroup : (t v after : List ℕ) → ((t ++ 61 ∷ []) ++ (v ++ soh ∷ [])) ++ after ≡ t ++ 61 ∷ (v ++ soh ∷ after)
regroup t v after =
    append_assoc (t ++ 61 ∷ []) (v ++ soh ∷ []) after ∙ append_assoc t (61 ∷ []) ((v ++ soh ∷ []) ++ after)
    ∙ ap (λ r. t ++ 61 ∷ r) (append_assoc v (soh ∷ []) after)

-- a field has bytes
pub some_bytes : (f : Field) (after : List ℕ) → field_bytes f ++ after ≡ [] → ⊥
some_bytes f after e =
    let t = decimal f.tag in
    let rest = 61 ∷ (f.value ++ soh ∷ after) in
    let size : length (t ++ rest) ≡ 0 = ap length (sym (regroup t f.value after) ∙ e) in
    let more = length-append t rest in
    omega (arith, size, more)

abbrev as_field : ℕ → List ℕ → Field
as_field tag value = record { tag = tag; value = value }

module _ (f g : Field) (after more : List ℕ) (low : f.tag < 2 ^ 64) (high : g.tag < 2 ^ 64) (e : field_bytes f ++ after ≡ field_bytes g ++ more) where
  tags_split : (decimal f.tag ≡ decimal g.tag) × (f.value ++ soh ∷ after ≡ g.value ++ soh ∷ more)
  tags_split =
      split_once 61 (decimal f.tag) (decimal g.tag) (f.value ++ soh ∷ after) (g.value ++ soh ∷ more) (decimal_without 61 f.tag refl low) (decimal_without 61 g.tag refl high)
      (sym (regroup (decimal f.tag) f.value after) ∙ e ∙ regroup (decimal g.tag) g.value more)

  field_is : f.value ≡ g.value → f ≡ g
  field_is same = ap (λ t. as_field t f.value) (decimal_injective f.tag g.tag low high tags_split.0) ∙ ap (as_field g.tag) same

  -- by the SOH after its value
  pub plain_once : Without soh f.value → Without soh g.value → (f ≡ g) × (after ≡ more)
  plain_once p q =
      let same = split_once soh f.value g.value after more p q tags_split.1 in
      (field_is same.0, same.1)

  -- by the length of its value
  pub long_once : length f.value ≡ length g.value → (f ≡ g) × (after ≡ more)
  long_once long =
      let same = split_at f.value g.value (soh ∷ after) (soh ∷ more) long tags_split.1 in
      (field_is same.0, tail_is same.1)
