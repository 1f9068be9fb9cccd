-- A line with a JSON value, and one without.
use Rattle.std.proofs.Common.{◌≡◌, ℕ, Bool, true, false, List, Some, None, refl, ap, ◌∙◌}
use Rattle.std.specs.Prelude.{if◌then◌else◌, Option}
use Rattle.std.specs.Str.{IsUtf8, is_utf8}
use Rattle.std.proofs.lemmas.Str.{is_utf8-from_IsUtf8, IsUtf8-from_is_utf8}
use Rattle.serde_json.specs.Data.{Data}
use Rattle.serde_json.specs.Read.{read}
use Rattle.line_reading.specs.Lines.{json_value}

pub value_found : (bytes : List ℕ) (d : Data) → IsUtf8 bytes → read bytes ≡ Some d → json_value bytes ≡ Some d
value_found bytes d utf8 is = ap (λ (b : Bool). if b then read bytes else None) (is_utf8-from_IsUtf8 bytes utf8) ∙ is

no_value_by : (bytes : List ℕ) (b : Bool) (found : Option Data) → (b ≡ true → found ≡ None) → (if b then found else None) ≡ None
no_value_by bytes true found h = h refl
no_value_by bytes false found h = refl

pub no_value : (bytes : List ℕ) → (IsUtf8 bytes → read bytes ≡ None) → json_value bytes ≡ None
no_value bytes h = no_value_by bytes (is_utf8 bytes) (read bytes) (λ utf8. h (IsUtf8-from_is_utf8 bytes utf8))
