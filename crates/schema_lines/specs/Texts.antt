-- Texts in JSON. From RFC 8259, Strings.
use Rattle.std.specs.Prelude.{◌≡◌, ℕ, ◌+◌, ◌-◌, ◌/◌, ◌%◌, ◌==◌, nat_lt, if◌then◌else◌, List, [], ◌∷◌, ◌++◌, codes, flat_map, Result, OnOk}

-- bytes grow by a text at their end, unless out of memory
pub record Puts {E : Type 0} (result : Result (Unit {0}) E) (old new text : List ℕ) : Type 0 where
  pub grown : OnOk result (new ≡ old ++ text)

-- a hexadecimal digit: `0` to `9`, `a` to `f`
abbrev pub hex_digit : ℕ → ℕ
hex_digit n = if nat_lt n 10 then 48 + n else 97 + (n - 10)

-- A byte below a space, escaped by its number in four hexadecimal digits.
abbrev pub control_text : ℕ → List ℕ
control_text byte = codes "\\u00" ++ (hex_digit (byte / 16) ∷ (hex_digit (byte % 16) ∷ []))

-- a byte of a text: `"`, `\` and those below a space are escaped, any other is unchanged
abbrev pub escaped : ℕ → List ℕ
escaped byte =
    if byte == 34 then codes "\\\"" else (if byte == 92 then codes "\\\\" else (if nat_lt byte 32 then control_text byte else byte ∷ []))

-- A text between quotes.
abbrev pub json_text : List ℕ → List ℕ
json_text text = codes "\"" ++ (flat_map escaped text ++ codes "\"")
