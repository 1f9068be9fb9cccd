-- The texts of more codes.
use Rattle.std.proofs.Common.{◌≡◌, ℕ, ◌+◌, ◌<◌, false, List, [], ◌∷◌, ◌++◌, length, take, get_or, refl, sym, ap, ◌∙◌, arith, suc, append_assoc, subst}
use Rattle.std.proofs.Math.Seq.{take-suc}
use Rattle.std.proofs.lemmas.List.Sums.{sum_by-append}
use Rattle.std.proofs.lemmas.List.Elements.{filter-append}
use Rattle.fix_values.specs.declared.rule.Code.{Code}
use Rattle.fix_values.specs.Codes.{bit_of, bits_of, codes_in, has_bit, has_soh}
use Rattle.set_texts.specs.Parts.{spaced, IsPart}

pub spaced-append : (a b : List Code) → spaced (a ++ b) ≡ spaced a ++ spaced b
spaced-append [] b = refl
spaced-append (x ∷ a) b = ap (λ t. 32 ∷ (x.text ++ t)) (spaced-append a b) ∙ ap (λ t. 32 ∷ t) (sym (append_assoc x.text (spaced a) (spaced b)))

pub codes-append : (a b : List Code) (n : ℕ) → codes_in (a ++ b) n ≡ codes_in a n ++ codes_in b n
codes-append a b n = filter-append (has_bit n) a b

-- a part with more codes
pub joined : (text : List ℕ) (shown : ℕ) (more : List ℕ) (new : ℕ) (a b : List Code) → IsPart (record { text = text; shown = shown }) a → more ≡ text ++ spaced b → has_soh more ≡ false
    → new ≡ shown + bits_of b → IsPart (record { text = more; shown = new }) (a ++ b)
joined text shown more new a b part grown plain sum = record {
  text = grown ∙ (ap (λ t. t ++ spaced b) part.text ∙ sym (spaced-append a b));
  plain = plain;
  shown = omega (arith, sum, part.shown, sum_by-append bit_of a b);
}

-- the first codes, and one more
pub next_codes : (xs : List Code) (i : ℕ) (x : Code) → i < length xs → x ≡ get_or xs i x → take (i + 1) xs ≡ take i xs ++ x ∷ []
next_codes xs i x within is =
    let next : i + 1 ≡ suc i = omega arith in
    ap (λ k. take k xs) next ∙ (take-suc xs i x within ∙ ap (λ y. take i xs ++ y ∷ []) (sym is))

-- the part of the first codes, and of one more
pub one_more : (xs : List Code) (bits i : ℕ) (x : Code) (text more : List ℕ) (shown new : ℕ) → i < length xs → x ≡ get_or xs i x
    → IsPart (record { text = text; shown = shown }) (codes_in (take i xs) bits) → more ≡ text ++ spaced (codes_in (x ∷ []) bits) → has_soh more ≡ false
    → new ≡ shown + bits_of (codes_in (x ∷ []) bits) → IsPart (record { text = more; shown = new }) (codes_in (take (i + 1) xs) bits)
one_more xs bits i x text more shown new within is part grown plain sum =
    let codes : codes_in (take (i + 1) xs) bits ≡ codes_in (take i xs) bits ++ codes_in (x ∷ []) bits =
    ap (λ l. codes_in l bits) (next_codes xs i x within is) ∙ codes-append (take i xs) (x ∷ []) bits in
    subst (IsPart (record { text = more; shown = new })) (sym codes) (joined text shown more new (codes_in (take i xs) bits) (codes_in (x ∷ []) bits) part grown plain sum)
