-- A field 9 whose SOH is searched only as far as it may be, and bytes that are known to have no SOH.
use Rattle.std.proofs.Common.{◌≡◌, ◌⊎◌, inl, inr, ◌+◌, ◌-◌, ◌<◌, ◌≤◌, ℕ, zero, suc, Bool, true, false, cond, List, [], ◌∷◌, ◌++◌, length, take, drop, Option, Some, None, refl, sym, ap, ◌∙◌, arith, append_assoc, length-append, length-drop, take-append-drop, length-take-le, take_all}
use Rattle.std.specs.Prelude.{◌&&◌, nat_le, nat_lt, max}
use Rattle.std.specs.Str.{all_ascii_digits}
use Rattle.std.specs.Str.Parse.{digits_value}
use Rattle.std.proofs.lemmas.Bool.{cases_lt, leb-true, ne_eqb}
use Rattle.std.proofs.lemmas.Bool.Decides.{nat_tests}
use Rattle.std.proofs.Math.Seq.{take-append-add}
use Rattle.tagvalue_codec.specs.Fields.{soh}
use Rattle.tagvalue_codec.specs.Reading.{plain_len}
use Rattle.raw_fix.specs.declared.claim.Claim.{Claim}
use Rattle.raw_fix.specs.declared.claim.Claim.TheVariants.{Never, Open}
use Rattle.raw_fix.specs.Claims.{before_soh, claim_behind, field_value, is_begun, is_part, within}
use Rattle.raw_fix.specs.Places.{FindsSoh, FindsNear}
use Rattle.raw_fix.proofs.Fronts.{Plain, and_true, before_soh_plain, before_soh_told, none_plain}

-- ---- the first SOH among the first bytes

-- SOH in a front is that of the bytes
pub front_found : (most : ℕ) (bytes : List ℕ) (i : ℕ) → FindsSoh (take most bytes) (Some i) → FindsSoh bytes (Some i)
front_found most bytes i found =
    let front = take most bytes in
    let head = take i front in
    let t = before_soh_told front head found.1 in
    let all : bytes ≡ head ++ (soh ∷ (t.1.0 ++ drop most bytes)) = sym (take-append-drop most bytes) ∙ ap (λ x. x ++ drop most bytes) t.1.1 ∙ append_assoc head (soh ∷ t.1.0) (drop most bytes) in
    let is : before_soh bytes ≡ Some head = ap before_soh all ∙ before_soh_plain head (t.1.0 ++ drop most bytes) t.0 in
    let long : length head ≡ i = length-take-le i front (omega (arith, found.0)) in
    let same : head ≡ take i bytes = sym (ap (λ k. take k bytes) (sym long) ∙ ap (take (length head)) all ∙ front_of head (soh ∷ (t.1.0 ++ drop most bytes))) in
    (omega (arith, ap length all, length-append head (soh ∷ (t.1.0 ++ drop most bytes)), long), is ∙ ap Some same) where
      front_of : (a b : List ℕ) → take (length a) (a ++ b) ≡ a
      front_of [] b = refl
      front_of (x ∷ a) b = ap (λ y. x ∷ y) (front_of a b)

-- a search of all bytes, if they are few
pub near_whole : (most : ℕ) (bytes : List ℕ) (r : Option ℕ) → length bytes ≤ most → FindsSoh bytes r → FindsNear most bytes r
near_whole most bytes None few found = ap before_soh (take_all most bytes few) ∙ found
near_whole most bytes (Some i) few found = found

-- a search of the first bytes
pub near_front : (most : ℕ) (bytes : List ℕ) (r : Option ℕ) → FindsSoh (take most bytes) r → FindsNear most bytes r
near_front most bytes None found = found
near_front most bytes (Some i) found = front_found most bytes i found

-- ---- the claim

digits_by : (a b : Bool) (n m : ℕ) → ◌≡◌ {A = Option ℕ} (cond {A = Option ℕ} a (cond {A = Option ℕ} b (Some n) None) None) (Some m) → b ≡ true
digits_by true true n m h = refl
digits_by true false n m h = cc
digits_by false b n m h = cc

-- digits of a length that is read so far are few
pub near_some : (bytes : List ℕ) (number : ℕ) → before_soh (take 12 bytes) ≡ None → Some number ≡ field_value bytes → before_soh bytes ≡ None
near_some bytes number none h =
    let part : is_part (drop 2 bytes) ≡ true = digits_by (is_begun 57 bytes) (is_part (drop 2 bytes)) _ number (sym h) in
    let few : length (drop 2 bytes) ≤ 9 = leb-true (length (drop 2 bytes)) 9 (and_true (nat_le (length (drop 2 bytes)) 9) (all_ascii_digits (drop 2 bytes)) part).0 in
    ap before_soh (sym (take_all 12 bytes (omega (arith, few, length-drop 2 bytes)))) ∙ none

open_by : (a b : Bool) (n m : ℕ) (most front long : ℕ) → ◌≡◌ {A = Option ℕ} (cond {A = Option ℕ} a (cond {A = Option ℕ} b (Some n) None) None) (Some m) →
    within most (front + long + m + 8) Open ≡ cond {A = Claim} (a && b) (within most (front + long + n + 8) Open) Never
open_by true true n m most front long h = let same : n ≡ m = cc in ap (λ k. within most (front + long + k + 8) Open) (sym same)
open_by true false n m most front long h = cc
open_by false b n m most front long h = cc

-- a part of a field 9
pub near_open : (most front : ℕ) (bytes : List ℕ) (number : ℕ) (result : Claim) → before_soh (take 12 bytes) ≡ None → Some number ≡ field_value bytes → result ≡ within most (front + max (length bytes) 3 + number + 8) Open →
    result ≡ claim_behind most front bytes (before_soh bytes)
near_open most front bytes number result none h is =
    is ∙ open_by (is_begun 57 bytes) (is_part (drop 2 bytes)) (digits_value 10 (drop 2 bytes)) number most front (max (length bytes) 3) (sym h)
    ∙ ap (claim_behind most front bytes) (sym (near_some bytes number none h))

never_by : (a b : Bool) (n : ℕ) (x : Claim) → ◌≡◌ {A = Option ℕ} (cond {A = Option ℕ} a (cond {A = Option ℕ} b (Some n) None) None) None → cond {A = Claim} (a && b) x Never ≡ Never
never_by true true n x h = cc
never_by true false n x h = refl
never_by false b n x h = refl

not_few : (n : ℕ) → 9 < n → nat_le n 9 ≡ false
not_few n h = grind (arith, nat_tests)

long_by : (a s d : Bool) (few : Bool) (x : Claim) → few ≡ false → cond {A = Claim} (a && (s && (few && d))) x Never ≡ Never
long_by true true d false x h = refl
long_by true false d few x h = refl
long_by false s d few x h = refl
long_by true true d true x h = cc

-- SOH that isn't among the first bytes ends a field that is too long
far_soh : (bytes field : List ℕ) → before_soh (take 12 bytes) ≡ None → before_soh bytes ≡ Some field → 12 ≤ length field
far_soh bytes field none told = by_order (cases_lt (length field) 12) where
  t : (Plain field) × ((more : List ℕ) × (bytes ≡ field ++ (soh ∷ more)))
  t = before_soh_told bytes field told

  by_order : (length field < 12) ⊎ (12 ≤ length field) → 12 ≤ length field
  by_order (inr far) = far
  by_order (inl less) =
      let k = 11 - length field in
      let sum : 12 ≡ length field + suc k = omega (arith, less) in
      let front : take 12 bytes ≡ field ++ (soh ∷ take k t.1.0) = ap (take 12) t.1.1 ∙ ap (λ n. take n (field ++ (soh ∷ t.1.0))) sum ∙ take-append-add field (soh ∷ t.1.0) (suc k) in
      let found : before_soh (take 12 bytes) ≡ Some field = ap before_soh front ∙ before_soh_plain field (take k t.1.0) t.0 in
      absurd (none_some (sym none ∙ found)) where
        none_some : ◌≡◌ {A = Option (List ℕ)} None (Some field) → ⊥
        none_some h = cc

never_far : (most front : ℕ) (bytes field : List ℕ) → 12 ≤ length field → claim_behind most front bytes (Some field) ≡ Never
never_far most front bytes field far =
    let many : 9 < length (drop 2 field) = omega (arith, far, length-drop 2 field) in
    long_by (is_begun 57 field) (nat_lt 0 (length (drop 2 field))) (all_ascii_digits (drop 2 field)) (nat_le (length (drop 2 field)) 9) _ (not_few (length (drop 2 field)) many)

never_front : (most front : ℕ) (bytes : List ℕ) (x : Option (List ℕ)) → before_soh (take 12 bytes) ≡ None → None ≡ field_value bytes → before_soh bytes ≡ x → claim_behind most front bytes x ≡ Never
never_front most front bytes None none h told = never_by (is_begun 57 bytes) (is_part (drop 2 bytes)) _ _ (sym h)
never_front most front bytes (Some field) none h told = never_far most front bytes field (far_soh bytes field none told)

-- bytes that aren't a part of a field 9
pub near_none : (most front : ℕ) (bytes : List ℕ) → before_soh (take 12 bytes) ≡ None → None ≡ field_value bytes → Never ≡ claim_behind most front bytes (before_soh bytes)
near_none most front bytes none h = sym (never_front most front bytes (before_soh bytes) none h refl)

-- ---- bytes that are known to have no SOH

plain_long : (bytes : List ℕ) (p : ℕ) → Plain (take p bytes) → p ≤ length bytes → p ≤ plain_len bytes
plain_long bytes zero plain low = omega arith
plain_long [] (suc p) plain low = absurd (omega (arith, low))
plain_long (b ∷ bytes) (suc p) plain low = rw (ne_eqb b soh plain.0) (more (plain_long bytes p plain.1 (omega (arith, low)))) where
  more : p ≤ plain_len bytes → suc p ≤ suc (plain_len bytes)
  more h = omega (arith, h)

pub plain_known : (bytes : List ℕ) (p : ℕ) → before_soh (take p bytes) ≡ None → p ≤ length bytes → p ≤ plain_len bytes
plain_known bytes p none low = plain_long bytes p (none_plain (take p bytes) none) low
