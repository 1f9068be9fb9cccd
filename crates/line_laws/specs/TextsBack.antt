-- The bytes of a text read back.
use Rattle.std.specs.Prelude.{◌≡◌, ℕ, List, Ok}
use Rattle.byte_digits.specs.Digits.{IsBytes}
use Rattle.json_values.specs.Values.{text_data}
use Rattle.line_values.specs.Objects.{bytes_in}
use Rattle.line_laws.specs.AsRead.{as_read}

-- The law: the bytes of a text read back, whether they are printed as a string or by their digits.
abbrev pub TextsReadBack : Type 0
TextsReadBack = (bytes : List ℕ) → IsBytes bytes → bytes_in (as_read (text_data bytes)) ≡ Ok bytes
