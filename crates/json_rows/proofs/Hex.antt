-- Digits to the base 16, and bytes that stand for themselves.
use Rattle.std.proofs.Common.{◌≡◌, ℕ, suc, ◌<◌, ◌/◌, ◌%◌, ◌==◌, ◌&&◌, ◌||◌, not, Bool, true, false, List, [], ◌∷◌, ◌++◌, length, nat_lt, slice_index, refl, sym, ap, ap₂, ◌∙◌, subst, arith, append_assoc}
use Rattle.std.specs.Prelude.{codes}
use Rattle.std.specs.List.{list_all}
use Rattle.std.proofs.lemmas.Bool.{and_parts}
use Rattle.std.proofs.lemmas.Bool.Decides.{nat_tests}
use Rattle.hex.specs.Hex.{encode_with, encode_lower, lower_digits}
use Rattle.json.specs.Print.{escape, escape_byte}
use Rattle.sbe_types.specs.declared.kind.ConstValue.{ConstValue}
use Rattle.sbe_types.specs.declared.kind.ConstValue.TheVariants as constant
use Rattle.sbe_types.specs.declared.kind.Named.{Named}
use Rattle.sbe_types.specs.declared.kind.Primitive.{Primitive}
use Rattle.schema_facts.specs.InOrder.{IsConstantInOrder}
use Rattle.sbe_types.specs.InForm.{IsName, is_letter, is_name_byte}
use Rattle.json_values.proofs.Plainly.{below_at}
use Rattle.json_rows.specs.Texts.{hex_text, is_seen}

-- ---- names

name_byte : (b : ℕ) → is_name_byte b ≡ true → is_seen b ≡ true
name_byte b h = grind (arith, nat_tests)

name_bytes : (name : List ℕ) → list_all is_name_byte name ≡ true → list_all is_seen name ≡ true
name_bytes [] h = refl
name_bytes (b ∷ bs) h =
    let parts = and_parts (is_name_byte b) (list_all is_name_byte bs) h in
    ap₂ (λ x y. x && y) (name_byte b parts.0) (name_bytes bs parts.1)

-- each byte of a name is seen
pub name_seen : (name : List ℕ) → IsName name → list_all is_seen name ≡ true
name_seen name h =
    let all = and_parts (nat_lt 0 (length name) && is_letter (slice_index name 0)) (list_all is_name_byte name) h.form in
    name_bytes name all.1

-- each byte of the name of a constant
pub code_seen : (c : ConstValue) (prim : Primitive) (named : Named) → c ≡ constant.Code prim named → IsConstantInOrder c → list_all is_seen named.name ≡ true
code_seen c prim named is h = name_seen named.name (subst IsConstantInOrder is h).name

-- ---- digits

-- a byte that stands for itself in a string
abbrev is_itself : ℕ → Bool
is_itself b = is_seen b && not ((b == 34) || (b == 92))

itself : (b : ℕ) → is_itself b ≡ true → escape_byte b ≡ b ∷ []
unfolding escape_byte
itself b h = grind (arith, nat_tests)

all_themselves : (bytes : List ℕ) → list_all is_itself bytes ≡ true → escape bytes ≡ bytes
all_themselves [] h = refl
all_themselves (b ∷ bs) h =
    let parts = and_parts (is_itself b) (list_all is_itself bs) h in
    ap₂ (λ (x y : List ℕ). x ++ y) (itself b parts.0) (all_themselves bs parts.1)

digit_itself : (n : ℕ) → n < 16 → is_itself (slice_index lower_digits n) ≡ true
digit_itself n h = below_at (λ d. is_itself (slice_index lower_digits d)) 16 n refl h

digits_themselves : (bytes : List ℕ) → ((i : ℕ) → slice_index bytes i < 256) → list_all is_itself (encode_lower bytes) ≡ true
unfolding encode_with
digits_themselves [] h = refl
digits_themselves (b ∷ bs) h =
    let byte : b < 256 = h 0 in
    let rest = digits_themselves bs (λ i. h (suc i)) in
    ap₂ (λ x y. x && y) (digit_itself (b / 16) (omega (arith, byte))) (ap₂ (λ x y. x && y) (digit_itself (b % 16) (omega arith)) rest)

-- bytes in an object, by their digits
pub hex_is : (bytes : List ℕ) → ((i : ℕ) → slice_index bytes i < 256) → codes "{\"hex\":\"" ++ (encode_lower bytes ++ codes "\"}") ≡ hex_text bytes
hex_is bytes h =
    let stands = all_themselves (encode_lower bytes) (digits_themselves bytes h) in
    ap (λ s. codes "{\"hex\":\"" ++ s) (sym (append_assoc (encode_lower bytes) (34 ∷ []) (125 ∷ [])) ∙ ap (λ s. (s ++ 34 ∷ []) ++ 125 ∷ []) (sym stands))

-- ---- strings

-- a byte that is seen: after a `\` if need be
seen_escaped : (b : ℕ) → is_seen b ≡ true → ((b == 34) || (b == 92)) ≡ true → 92 ∷ b ∷ [] ≡ escape_byte b
unfolding escape_byte
seen_escaped b h k = grind (arith, nat_tests)

seen_itself : (b : ℕ) → is_seen b ≡ true → ((b == 34) || (b == 92)) ≡ false → b ∷ [] ≡ escape_byte b
unfolding escape_byte
seen_itself b h k = grind (arith, nat_tests)

pub byte_escaped : (b : ℕ) (old new : List ℕ) → is_seen b ≡ true → ((b == 34) || (b == 92)) ≡ true → new ≡ old ++ (92 ∷ b ∷ []) → new ≡ old ++ escape_byte b
byte_escaped b old new h k is = is ∙ ap (λ l. old ++ l) (seen_escaped b h k)

pub byte_itself : (b : ℕ) (old new : List ℕ) → is_seen b ≡ true → ((b == 34) || (b == 92)) ≡ false → new ≡ old ++ (b ∷ []) → new ≡ old ++ escape_byte b
byte_itself b old new h k is = is ∙ ap (λ l. old ++ l) (seen_itself b h k)

-- three texts, one after another
pub three_added : (old a b c x y z : List ℕ) → x ≡ old ++ a → y ≡ x ++ b → z ≡ y ++ c → z ≡ old ++ (a ++ (b ++ c))
three_added old a b c x y z h k l = l ∙ ap (λ s. s ++ c) (k ∙ ap (λ s. s ++ b) h) ∙ append_assoc (old ++ a) b c ∙ append_assoc old a (b ++ c)
