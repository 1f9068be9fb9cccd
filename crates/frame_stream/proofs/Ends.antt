-- Where the first byte of a kind is, and where the first line end is.
use Rattle.std.proofs.Common.{◌≡◌, ℕ, zero, suc, ◌+◌, ◌-◌, ◌<◌, ◌≤◌, Bool, true, false, cond, List, [], ◌∷◌, ◌++◌, length, take, drop, Option, Some, None, refl, sym, ap, ◌∙◌, arith, take-append-drop, length-drop}
use Rattle.std.specs.Prelude.{slice_index, ◌==◌, ◌≢◌, if◌then◌else◌}
use Rattle.std.specs.List.{AllByRecursion}
use Rattle.std.proofs.lemmas.Bool.{eq-eqb}
use Rattle.std.proofs.Math.Seq.{take-add}
use Rattle.std.proofs.lemmas.Slice.{between_to_end}
use Rattle.open_framing.specs.Lines.{before_end, with_byte, line_end}
use Rattle.frame_stream.specs.Bytes.{before_byte}
use Rattle.memchr.specs.Find.{IsFirstByte, is_byte}

-- the first byte, and what the rest gives
step_none : (byte x : ℕ) (xs : List ℕ) (t : Bool) → (x == byte) ≡ t → (t ≡ true → ⊥) → before_byte byte xs ≡ None → before_byte byte (x ∷ xs) ≡ None
step_none byte x xs true e never rest = absurd (never refl)
step_none byte x xs false e never rest = rw e (ap (with_byte x) rest)

step_some : (byte x : ℕ) (xs line : List ℕ) (t : Bool) → (x == byte) ≡ t → (t ≡ true → ⊥) → before_byte byte xs ≡ Some line → before_byte byte (x ∷ xs) ≡ Some (x ∷ line)
step_some byte x xs line true e never rest = absurd (never refl)
step_some byte x xs line false e never rest = rw e (ap (with_byte x) rest)

none_ended : (byte : ℕ) (xs : List ℕ) → ((k : ℕ) → 0 ≤ k → k < length xs → (slice_index xs k == byte) ≡ true → ⊥) → before_byte byte xs ≡ None
none_ended byte [] h = refl
none_ended byte (x ∷ xs) h = step_none byte x xs (x == byte) refl (h 0 (omega arith) (omega arith)) (none_ended byte xs (λ k low lt p. h (suc k) (omega arith) (omega arith) p))

first_ended : (byte : ℕ) (xs : List ℕ) (i : ℕ) → i < length xs → ((k : ℕ) → 0 ≤ k → k < i → (slice_index xs k == byte) ≡ true → ⊥) → (slice_index xs i == byte) ≡ true → before_byte byte xs ≡ Some (take i xs)
first_ended byte [] i lt h is = absurd (omega arith)
first_ended byte (x ∷ xs) zero lt h is = rw is refl
first_ended byte (x ∷ xs) (suc i) lt h is = step_some byte x xs (take i xs) (x == byte) refl (h 0 (omega arith) (omega arith)) (first_ended byte xs i (omega arith) (λ k low less p. h (suc k) (omega arith) (omega arith) p) is)

-- a front without the byte
opened : (x : ℕ) (o : Option (List ℕ)) (t : Bool) → cond t (Some []) (with_byte x o) ≡ None → (t ≡ false) × (o ≡ None)
opened x o true h = cc
opened x None false h = (refl, refl)
opened x (Some l) false h = cc

no_end : (t : Bool) → t ≡ false → t ≡ true → ⊥
no_end true h k = cc
no_end false h k = cc

none_both : (byte : ℕ) (a b : List ℕ) → before_byte byte a ≡ None → before_byte byte b ≡ None → before_byte byte (a ++ b) ≡ None
none_both byte [] b h k = k
none_both byte (x ∷ a) b h k = let o = opened x (before_byte byte a) (x == byte) h in step_none byte x (a ++ b) (x == byte) refl (no_end (x == byte) o.0) (none_both byte a b o.1 k)

some_behind : (byte : ℕ) (a b line : List ℕ) → before_byte byte a ≡ None → before_byte byte b ≡ Some line → before_byte byte (a ++ b) ≡ Some (a ++ line)
some_behind byte [] b line h k = k
some_behind byte (x ∷ a) b line h k = let o = opened x (before_byte byte a) (x == byte) h in step_some byte x (a ++ b) (a ++ line) (x == byte) refl (no_end (x == byte) o.0) (some_behind byte a b line o.1 k)

-- where it isn't, no byte is it
pub byte_plain : (byte : ℕ) (bytes : List ℕ) → before_byte byte bytes ≡ None → AllByRecursion (λ b. b ≢ byte) bytes
byte_plain byte [] h = tt
byte_plain byte (x ∷ xs) h = let o = opened x (before_byte byte xs) (x == byte) h in (λ e. let yes = eq-eqb x byte e in cc, byte_plain byte xs o.1)

rest_is : (bytes : List ℕ) (n : ℕ) → take (length bytes - n) (drop n bytes) ≡ drop n bytes
rest_is bytes n = between_to_end bytes n (length bytes) (omega arith)

-- a search after a front without it
pub byte_nowhere : (byte : ℕ) (bytes : List ℕ) (n : ℕ) → before_byte byte (take n bytes) ≡ None → IsFirstByte (is_byte byte) (take (length bytes - n) (drop n bytes)) None → before_byte byte bytes ≡ None
byte_nowhere byte bytes n front h =
    let back : before_byte byte (drop n bytes) ≡ None = ap (before_byte byte) (sym (rest_is bytes n)) ∙ none_ended byte (take (length bytes - n) (drop n bytes)) h in
    ap (before_byte byte) (sym (take-append-drop n bytes)) ∙ none_both byte (take n bytes) (drop n bytes) front back

pub byte_found : (byte : ℕ) (bytes : List ℕ) (n i : ℕ) → n ≤ length bytes → before_byte byte (take n bytes) ≡ None → IsFirstByte (is_byte byte) (take (length bytes - n) (drop n bytes)) (Some i) → (n + i < length bytes) × (before_byte byte bytes ≡ Some (take (n + i) bytes))
byte_found byte bytes n i within front h =
    let rest = rest_is bytes n in
    let high : i < length (drop n bytes) = omega (arith, h.0.high, ap length rest) in
    let hit = first_ended byte (take (length bytes - n) (drop n bytes)) i h.0.high h.0.before h.1 in
    let back : before_byte byte (drop n bytes) ≡ Some (take i (drop n bytes)) = ap (before_byte byte) (sym rest) ∙ hit ∙ ap (λ r. Some (take i r)) rest in
    (omega (arith, high, length-drop n bytes, within), ap (before_byte byte) (sym (take-append-drop n bytes)) ∙ some_behind byte (take n bytes) (drop n bytes) (take i (drop n bytes)) front back ∙ ap (λ r. Some r) (sym (take-add n i bytes)))

-- ---- line ends

end_is : (bytes : List ℕ) → before_end bytes ≡ before_byte line_end bytes
end_is [] = refl
end_is (x ∷ xs) = ap (λ o. if x == line_end then Some [] else with_byte x o) (end_is xs)

-- bytes without a line end are none of them line ends
pub plain_none : (bytes : List ℕ) → before_end bytes ≡ None → AllByRecursion (λ b. b ≢ line_end) bytes
plain_none bytes h = byte_plain line_end bytes (sym (end_is bytes) ∙ h)

-- a search after a front without a line end
pub nowhere : (bytes : List ℕ) (n : ℕ) → before_end (take n bytes) ≡ None → IsFirstByte (is_byte 10) (take (length bytes - n) (drop n bytes)) None → before_end bytes ≡ None
nowhere bytes n front h = end_is bytes ∙ byte_nowhere line_end bytes n (sym (end_is (take n bytes)) ∙ front) h

pub found : (bytes : List ℕ) (n i : ℕ) → n ≤ length bytes → before_end (take n bytes) ≡ None → IsFirstByte (is_byte 10) (take (length bytes - n) (drop n bytes)) (Some i) → (n + i < length bytes) × (before_end bytes ≡ Some (take (n + i) bytes))
found bytes n i within front h =
    let at = byte_found line_end bytes n i within (sym (end_is (take n bytes)) ∙ front) h in
    (at.0, end_is bytes ∙ at.1)
