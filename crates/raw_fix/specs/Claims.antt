-- What the front of some bytes claims to be. From the FIX tag-value encoding, fields 8, 9 and 10. Own profile: a limit,
-- and that field 9 has 1 to 9 digits.
use Rattle.std.specs.Prelude.{◌≡◌, ◌≢◌, ℕ, ◌+◌, ◌<◌, ◌≤◌, nat_lt, nat_le, max, Bool, true, ◌&&◌, ◌==◌, if◌then◌else◌, Option, Some, None, List, [], ◌∷◌, ◌++◌, length, drop}
use Rattle.std.specs.List.{AllByRecursion}
use Rattle.std.specs.Str.{all_ascii_digits}
use Rattle.std.specs.Str.Parse.{digits_value}
use Rattle.frame_stream.specs.Bytes.{before_byte}
use Rattle.tagvalue_codec.specs.Fields.{soh, is_number}
use Rattle.raw_fix.specs.declared.claim.Claim.{Claim}
use Rattle.raw_fix.specs.declared.claim.Claim.TheVariants.{Whole, Open, Never}

-- the value of a field 8, and the digits of the field 9 after it
pub record Opening : Type 0 where
  pub value : List ℕ
  pub digits : List ℕ

-- the bytes of a field with this one-digit tag
abbrev pub field_of : ℕ → List ℕ → List ℕ
field_of tag value = tag ∷ 61 ∷ value

-- both fields, each with its SOH
abbrev pub opening_bytes : Opening → List ℕ
opening_bytes o = field_of 56 o.value ++ soh ∷ (field_of 57 o.digits ++ soh ∷ [])

-- at least one byte without SOH, and 1 to 9 digits
pub record IsOpening (o : Opening) : Type 0 where
  pub some : 0 < length o.value
  pub plain : AllByRecursion (λ b. b ≢ soh) o.value
  pub size : is_number o.digits ≡ true

-- the length of a text that opens like this: both fields, as many bytes as field 9 says, and the seven of field 10
abbrev pub text_size : Opening → ℕ
text_size o = length (opening_bytes o) + digits_value 10 o.digits + 7

-- A text of n bytes is begun here, within the limit: both fields are at the front.
pub record IsWhole (most : ℕ) (bytes : List ℕ) (n : ℕ) : Type 0 where
  pub opening : Opening
  pub more : List ℕ
  pub opens : IsOpening opening
  pub begins : bytes ≡ opening_bytes opening ++ more
  pub counts : n ≡ text_size opening
  pub within : n ≤ most

-- The two fields aren't there yet, but bytes that may follow would complete them.
pub record IsOpen (most : ℕ) (bytes : List ℕ) : Type 0 where
  pub not_yet : (n : ℕ) → IsWhole most bytes n → ⊥
  pub more : List ℕ
  pub size : ℕ
  pub would : IsWhole most (bytes ++ more) size

-- Whatever follows, no text begins here.
abbrev pub IsNever : ℕ → List ℕ → Type 0
IsNever most bytes = (more : List ℕ) (n : ℕ) → IsWhole most (bytes ++ more) n → ⊥

-- the bytes claim this
abbrev pub Claims : ℕ → List ℕ → Claim → Type 0
Claims most bytes (Whole n) = IsWhole most bytes n
Claims most bytes Open = IsOpen most bytes
Claims most bytes Never = IsNever most bytes

-- ---- the reader

-- the bytes before the first SOH, if there is one
abbrev pub before_soh : List ℕ → Option (List ℕ)
before_soh bytes = before_byte soh bytes

-- the bytes are a prefix of a field with this tag, or begin with its tag and `=`
abbrev pub is_begun : ℕ → List ℕ → Bool
is_begun tag [] = true
is_begun tag (a ∷ []) = a == tag
is_begun tag (a ∷ (e ∷ bytes)) = a == tag && e == 61

-- a prefix of a number of 1 to 9 digits
abbrev pub is_part : List ℕ → Bool
is_part digits = nat_le (length digits) 9 && all_ascii_digits digits

-- the value of a prefix of a number of 1 to 9 digits
abbrev pub part_value : List ℕ → Option ℕ
part_value digits = if is_part digits then Some (digits_value 10 digits) else None

-- the value of a prefix of a field 9
abbrev pub field_value : List ℕ → Option ℕ
field_value bytes = if is_begun 57 bytes then part_value (drop 2 bytes) else None

-- the claim, if a text of at least `least` bytes is within the limit
abbrev pub within : ℕ → ℕ → Claim → Claim
within most least claim = if nat_le least most then claim else Never

-- the claim by field 9 with its SOH, or a prefix of it, after `front` bytes
abbrev pub claim_behind : ℕ → ℕ → List ℕ → Option (List ℕ) → Claim
claim_behind most front bytes None =
    if is_begun 57 bytes && is_part (drop 2 bytes) then within most (front + max (length bytes) 3 + digits_value 10 (drop 2 bytes) + 8) Open else Never
claim_behind most front bytes (Some field) =
    if is_begun 57 field && is_number (drop 2 field)
    then (let n = front + length field + digits_value 10 (drop 2 field) + 8 in within most n (Whole n))
    else Never

-- the claim by field 8 with its SOH, or a prefix of it
abbrev pub claim_by : ℕ → List ℕ → Option (List ℕ) → Claim
claim_by most bytes None = if is_begun 56 bytes then within most (max (length bytes) 3 + 12) Open else Never
claim_by most bytes (Some field) =
    if is_begun 56 field && nat_lt 2 (length field)
    then (let after = drop (length field + 1) bytes in claim_behind most (length field + 1) after (before_soh after))
    else Never

-- what the bytes claim
unfoldable pub claim_of : ℕ → List ℕ → Claim
claim_of most bytes = claim_by most bytes (before_soh bytes)
