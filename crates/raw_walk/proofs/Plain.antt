-- How many bytes precede the first SOH, in bytes and in a front of them.
use Rattle.std.proofs.Common.{◌≡◌, ℕ, zero, suc, ◌+◌, ◌-◌, ◌<◌, ◌≤◌, Bool, true, false, cond, List, [], ◌∷◌, length, take, drop, Some, None, get_or, refl, sym, ap, ◌∙◌, arith, length-drop}
use Rattle.std.specs.Prelude.{◌==◌, slice_index}
use Rattle.std.proofs.lemmas.Bool.{eq-eqb}
use Rattle.std.proofs.lemmas.List.{drop-take}
use Rattle.std.proofs.lemmas.Slice.{between_to_end}
use Rattle.memchr.specs.Find.{IsFirstByte, is_byte}
use Rattle.tagvalue_codec.specs.Fields.{soh}
use Rattle.tagvalue_codec.specs.Reading.{plain_len}

-- ---- a front

short_by : (c : ℕ) (b : List ℕ) (k : ℕ) (is : Bool) → (plain_len b < k → plain_len (take k b) ≡ plain_len b) → cond is 0 (suc (plain_len b)) < suc k → cond is 0 (suc (plain_len (take k b))) ≡ cond is 0 (suc (plain_len b))
short_by c b k true later h = refl
short_by c b k false later h = ap suc (later (omega arith))

-- SOH in the front is the first one
pub plain_short : (b : List ℕ) (k : ℕ) → plain_len b < k → plain_len (take k b) ≡ plain_len b
plain_short [] zero h = refl
plain_short [] (suc k) h = refl
plain_short (c ∷ b) zero h = absurd (omega arith)
plain_short (c ∷ b) (suc k) h = short_by c b k (c == soh) (plain_short b k) h

long_by : (c : ℕ) (b : List ℕ) (k : ℕ) (is : Bool) → (k ≤ plain_len b → plain_len (take k b) ≡ k) → suc k ≤ cond is 0 (suc (plain_len b)) → cond is 0 (suc (plain_len (take k b))) ≡ suc k
long_by c b k true later h = absurd (omega arith)
long_by c b k false later h = ap suc (later (omega arith))

-- a front without SOH
pub plain_long : (b : List ℕ) (k : ℕ) → k ≤ plain_len b → plain_len (take k b) ≡ k
plain_long [] zero h = refl
plain_long [] (suc k) h = absurd (omega arith)
plain_long (c ∷ b) zero h = refl
plain_long (c ∷ b) (suc k) h = long_by c b k (c == soh) (plain_long b k) h

-- what a front has after an offset
pub front_after : (held : List ℕ) (from stop : ℕ) → from ≤ stop → drop from (take stop held) ≡ take (stop - from) (drop from held)
front_after held from stop low =
    let sum : stop ≡ from + (stop - from) = omega (arith, low) in
    ap (λ k. drop from (take k held)) sum ∙ drop-take from (stop - from) held

-- the end of a value that is in the front
pub end_short : (held : List ℕ) (from stop : ℕ) → from ≤ stop → from + plain_len (drop from held) < stop → from + plain_len (drop from held) ≡ from + plain_len (drop from (take stop held))
end_short held from stop low h =
    let less : plain_len (drop from held) < stop - from = omega (arith, h) in
    ap (λ n. from + n) (sym (ap plain_len (front_after held from stop low) ∙ plain_short (drop from held) (stop - from) less))

-- and of one that isn't
pub end_long : (held : List ℕ) (from stop : ℕ) → from ≤ stop → stop ≤ from + plain_len (drop from held) → stop ≡ from + plain_len (drop from (take stop held))
end_long held from stop low h =
    let more : stop - from ≤ plain_len (drop from held) = omega (arith, h) in
    let is : plain_len (drop from (take stop held)) ≡ stop - from = ap plain_len (front_after held from stop low) ∙ plain_long (drop from held) (stop - from) more in
    omega (arith, is, low)

near_by : (c : ℕ) (b : List ℕ) (k : ℕ) (is : Bool) → (plain_len (take k b) < k → plain_len (take k b) ≡ plain_len b) → cond is 0 (suc (plain_len (take k b))) < suc k → cond is 0 (suc (plain_len (take k b))) ≡ cond is 0 (suc (plain_len b))
near_by c b k true later h = refl
near_by c b k false later h = ap suc (later (omega arith))

-- a front in which SOH was found
pub plain_near : (b : List ℕ) (k : ℕ) → plain_len (take k b) < k → plain_len (take k b) ≡ plain_len b
plain_near [] zero h = refl
plain_near [] (suc k) h = refl
plain_near (c ∷ b) zero h = absurd (omega arith)
plain_near (c ∷ b) (suc k) h = near_by c b k (c == soh) (plain_near b k) h

pub end_near : (held : List ℕ) (from near : ℕ) → from ≤ near → from + plain_len (drop from (take near held)) < near → from + plain_len (drop from (take near held)) ≡ from + plain_len (drop from held)
end_near held from near low h =
    let e = ap plain_len (front_after held from near low) in
    ap (λ n. from + n) (e ∙ plain_near (drop from held) (near - from) (omega (arith, h, e)))

within_by : (c : ℕ) (b : List ℕ) (k : ℕ) (is : Bool) (n : ℕ) → ((m : ℕ) → m ≤ plain_len b → m < k → m ≤ plain_len (take k b)) → n ≤ cond is 0 (suc (plain_len b)) → n < suc k → n ≤ cond is 0 (suc (plain_len (take k b)))
within_by c b k true n later h low = h
within_by c b k false zero later h low = omega arith
within_by c b k false (suc n) later h low = omega (arith, later n (omega arith) (omega arith))

-- bytes before the first SOH, in a front
pub plain_within : (b : List ℕ) (n k : ℕ) → n ≤ plain_len b → n < k → n ≤ plain_len (take k b)
plain_within [] n k h low = omega (arith, h)
plain_within (c ∷ b) n zero h low = absurd (omega arith)
plain_within (c ∷ b) n (suc k) h low = within_by c b k (c == soh) n (λ m. plain_within b m k) h low

-- ---- what follows some of these bytes

after_by : (c : ℕ) (b : List ℕ) (n : ℕ) (is : Bool) → (n ≤ plain_len b → plain_len (drop n b) + n ≡ plain_len b) → suc n ≤ cond is 0 (suc (plain_len b)) → plain_len (drop n b) + suc n ≡ cond is 0 (suc (plain_len b))
after_by c b n true later h = absurd (omega arith)
after_by c b n false later h = omega (arith, later (omega arith))

pub plain_after : (b : List ℕ) (n : ℕ) → n ≤ plain_len b → plain_len (drop n b) + n ≡ plain_len b
plain_after [] zero h = refl
plain_after [] (suc n) h = absurd (omega arith)
plain_after (c ∷ b) zero h = omega arith
plain_after (c ∷ b) (suc n) h = after_by c b n (c == soh) (plain_after b n) h

-- ---- at SOH

at_by : (c : ℕ) (b : List ℕ) (n : ℕ) (is : Bool) → (c == soh) ≡ is → (get_or b n 0 ≡ soh → n ≤ plain_len b → n < length b → plain_len b ≡ n) → get_or b n 0 ≡ soh → suc n ≤ cond is 0 (suc (plain_len b)) → suc n < suc (length b) → cond is 0 (suc (plain_len b)) ≡ suc n
at_by c b n true is later e h low = absurd (omega arith)
at_by c b n false is later e h low = ap suc (later e (omega arith) (omega arith))

-- SOH after bytes without it is the first one
pub plain_at : (b : List ℕ) (n : ℕ) → get_or b n 0 ≡ soh → n ≤ plain_len b → n < length b → plain_len b ≡ n
plain_at [] n e h low = absurd (omega arith)
plain_at (c ∷ b) zero e h low = rw (eq-eqb c soh e) refl
plain_at (c ∷ b) (suc n) e h low = at_by c b n (c == soh) refl (plain_at b n) e h low

-- ---- what a search tells

none_by : (c : ℕ) (b : List ℕ) (is : Bool) → (c == soh) ≡ is → (is ≡ true → ⊥) → plain_len b ≡ length b → cond is 0 (suc (plain_len b)) ≡ suc (length b)
none_by c b true e never later = absurd (never refl)
none_by c b false e never later = ap suc later

pub plain_none : (b : List ℕ) → ((k : ℕ) → 0 ≤ k → k < length b → (slice_index b k == soh) ≡ true → ⊥) → plain_len b ≡ length b
plain_none [] h = refl
plain_none (c ∷ b) h = none_by c b (c == soh) refl (h 0 (omega arith) (omega arith)) (plain_none b (λ k low lt p. h (suc k) (omega arith) (omega arith) p))

some_by : (c : ℕ) (b : List ℕ) (i : ℕ) (is : Bool) → (c == soh) ≡ is → (is ≡ true → ⊥) → plain_len b ≡ i → cond is 0 (suc (plain_len b)) ≡ suc i
some_by c b i true e never later = absurd (never refl)
some_by c b i false e never later = ap suc later

pub plain_some : (b : List ℕ) (i : ℕ) → i < length b → ((k : ℕ) → 0 ≤ k → k < i → (slice_index b k == soh) ≡ true → ⊥) → (slice_index b i == soh) ≡ true → plain_len b ≡ i
plain_some [] i lt h is = absurd (omega arith)
plain_some (c ∷ b) zero lt h is = rw is refl
plain_some (c ∷ b) (suc i) lt h is = some_by c b i (c == soh) refl (h 0 (omega arith) (omega arith)) (plain_some b i (omega arith) (λ k low less p. h (suc k) (omega arith) (omega arith) p) is)

rest_is : (bytes : List ℕ) (n : ℕ) → take (length bytes - n) (drop n bytes) ≡ drop n bytes
rest_is bytes n = between_to_end bytes n (length bytes) (omega arith)

-- a search from an offset on
pub search_none : (bytes : List ℕ) (n : ℕ) → n ≤ length bytes → IsFirstByte (is_byte soh) (take (length bytes - n) (drop n bytes)) None → length bytes ≡ n + plain_len (drop n bytes)
search_none bytes n low h =
    let is : plain_len (drop n bytes) ≡ length (drop n bytes) = ap plain_len (sym (rest_is bytes n)) ∙ plain_none (take (length bytes - n) (drop n bytes)) h ∙ ap length (rest_is bytes n) in
    omega (arith, is, low, length-drop n bytes)

pub search_some : (bytes : List ℕ) (n i : ℕ) → n ≤ length bytes → IsFirstByte (is_byte soh) (take (length bytes - n) (drop n bytes)) (Some i) → n + i ≡ n + plain_len (drop n bytes)
search_some bytes n i low h =
    ap (λ k. n + k) (sym (ap plain_len (sym (rest_is bytes n)) ∙ plain_some (take (length bytes - n) (drop n bytes)) i h.0.high h.0.before h.1))
