-- Names that are compared by words.
use Rattle.std.proofs.Common.{◌≡◌, ℕ, zero, suc, ◌+◌, ◌-◌, ◌≤◌, Bool, true, false, ◌&&◌, nat_eq, Decides, List, [], ◌∷◌, ◌++◌, length, take, drop, refl, sym, ap, ap₂, ◌∙◌, arith, length-drop}
use Rattle.std.proofs.lemmas.Bool.Decides.{same_from_decides}
use Rattle.std.proofs.lemmas.Bool.{eqb-true, eq-eqb}
use Rattle.std.proofs.lemmas.List.{take-append-drop, take_all, drop-drop}
use Rattle.std.specs.Str.{bytes_eq}
use Rattle.std.proofs.lemmas.Slice.Eq.{bytes_eq-Decides}
use Rattle.byteorder.specs.Endian.{little_from}
use Rattle.byteorder.specs.Numbers.{little_from-cons, little_from-take}
use Rattle.byte_digits.specs.Digits.{IsBytes}

-- bytes that show one number are the same
pub same_low : (n : ℕ) (xs ys : List ℕ) → n ≤ length xs → n ≤ length ys → IsBytes xs → IsBytes ys → little_from 0 n xs ≡ little_from 0 n ys → take n xs ≡ take n ys
same_low zero xs ys a b bx by same = refl
same_low (suc n) [] ys a b bx by same = absurd (omega arith)
same_low (suc n) (x ∷ xs) [] a b bx by same = absurd (omega arith)
same_low (suc n) (x ∷ xs) (y ∷ ys) a b bx by same =
    let p = little_from-cons 0 n x xs in
    let q = little_from-cons 0 n y ys in
    let low = bx 0 in
    let low' = by 0 in
    let head : x ≡ y = omega (arith, p, q, low, low', same) in
    let rest : little_from 0 n xs ≡ little_from 0 n ys = omega (arith, p, q, low, low', same) in
    ap₂ (λ c cs. c ∷ cs) head (same_low n xs ys (omega arith) (omega arith) (λ i. bx (suc i)) (λ i. by (suc i)) rest)

-- numbers are the same exactly where their bytes are
words_decide : (xs ys : List ℕ) (m n : ℕ) → 8 ≤ length xs → 8 ≤ length ys → IsBytes xs → IsBytes ys → m ≡ little_from 0 8 xs → n ≡ little_from 0 8 ys → Decides (nat_eq m n) (take 8 xs ≡ take 8 ys)
words_decide xs ys m n a b bx by p q = (
  λ is. same_low 8 xs ys a b bx by (sym p ∙ eqb-true m n is ∙ q),
  λ same.
      let here = little_from-take 0 8 8 xs (omega arith) in
      let there = little_from-take 0 8 8 ys (omega arith) in
      eq-eqb m n (p ∙ sym here ∙ ap (little_from 0 8) same ∙ there ∙ sym q),
)

pub same_words : (xs ys : List ℕ) (m n : ℕ) → 8 ≤ length xs → 8 ≤ length ys → IsBytes xs → IsBytes ys → m ≡ little_from 0 8 xs → n ≡ little_from 0 8 ys → nat_eq m n ≡ bytes_eq (take 8 xs) (take 8 ys)
same_words xs ys m n a b bx by p q = same_from_decides (nat_eq m n) (bytes_eq (take 8 xs) (take 8 ys)) (words_decide xs ys m n a b bx by p q) (bytes_eq-Decides (take 8 xs) (take 8 ys))

-- ---- names of one word or two

-- what follows the first word is a part of the last one
behind_word : (n : ℕ) (xs : List ℕ) → 8 ≤ n → n ≤ 8 + 8 → n ≡ length xs → drop 8 xs ≡ drop (8 - (n - 8)) (take 8 (drop (n - 8) xs))
behind_word n xs least most is =
    let long : length (drop (n - 8) xs) ≤ 8 = omega (arith, length-drop (n - 8) xs, is, least) in
    let to : (n - 8) + (8 - (n - 8)) ≡ 8 = omega (arith, least, most) in
    sym (ap (λ l. drop (8 - (n - 8)) l) (take_all 8 (drop (n - 8) xs) long) ∙ drop-drop (8 - (n - 8)) (n - 8) xs ∙ ap (λ k. drop k xs) to)

names_decide : (n : ℕ) (xs ys : List ℕ) (first last : Bool) → 8 ≤ n → n ≤ 8 + 8 → n ≡ length xs → n ≡ length ys →
    first ≡ bytes_eq (take 8 xs) (take 8 ys) → last ≡ bytes_eq (take 8 (drop (n - 8) xs)) (take 8 (drop (n - 8) ys)) → Decides (first && last) (xs ≡ ys)
names_decide n xs ys first last least most a b p q = (
  λ is.
      let front = (bytes_eq-Decides (take 8 xs) (take 8 ys)).0 (sym p ∙ and_first first last is) in
      let back = (bytes_eq-Decides (take 8 (drop (n - 8) xs)) (take 8 (drop (n - 8) ys))).0 (sym q ∙ and_second first last is) in
      let rest : drop 8 xs ≡ drop 8 ys = behind_word n xs least most a ∙ ap (drop (8 - (n - 8))) back ∙ sym (behind_word n ys least most b) in
      sym (take-append-drop 8 xs) ∙ ap₂ (λ l r. l ++ r) front rest ∙ take-append-drop 8 ys,
  λ same.
      let front = p ∙ (bytes_eq-Decides (take 8 xs) (take 8 ys)).1 (ap (take 8) same) in
      let back = q ∙ (bytes_eq-Decides (take 8 (drop (n - 8) xs)) (take 8 (drop (n - 8) ys))).1 (ap (λ l. take 8 (drop (n - 8) l)) same) in
      ap₂ (λ l r. l && r) front back,
)
  where
    and_first : (a b : Bool) → (a && b) ≡ true → a ≡ true
    and_first true b is = refl
    and_first false b is = cc

    and_second : (a b : Bool) → (a && b) ≡ true → b ≡ true
    and_second true b is = is
    and_second false b is = cc

pub same_names : (n : ℕ) (xs ys : List ℕ) (first last : Bool) → 8 ≤ n → n ≤ 8 + 8 → n ≡ length xs → n ≡ length ys →
    first ≡ bytes_eq (take 8 xs) (take 8 ys) → last ≡ bytes_eq (take 8 (drop (n - 8) xs)) (take 8 (drop (n - 8) ys)) → (first && last) ≡ bytes_eq xs ys
same_names n xs ys first last least most a b p q = same_from_decides (first && last) (bytes_eq xs ys) (names_decide n xs ys first last least most a b p q) (bytes_eq-Decides xs ys)
