-- The value of a file, where it is UTF-8 and where it isn't.
use Rattle.std.proofs.Common.{◌≡◌, ℕ, List, Some, None, true, false, refl, ap, ◌∙◌}
use Rattle.std.specs.Prelude.{IsUtf8, if◌then◌else◌, Bool, Option}
use Rattle.std.specs.Str.{is_utf8}
use Rattle.std.proofs.lemmas.Str.{is_utf8-from_IsUtf8, IsUtf8-from_is_utf8}
use Rattle.serde_json.specs.Data.{Data}
use Rattle.serde_json.specs.Read.{read}
use Rattle.json_elements.specs.Files.{json_value}

pub value_found : (bytes : List ℕ) (d : Data) → IsUtf8 bytes × (read bytes ≡ Some d) → json_value bytes ≡ Some d
value_found bytes d h = ap (λ (b : Bool). if b then read bytes else None) (is_utf8-from_IsUtf8 bytes h.0) ∙ h.1

no_value_by : (bytes : List ℕ) (b : Bool) (found : Option Data) → (b ≡ true → found ≡ None) → (if b then found else None) ≡ None
no_value_by bytes true found h = h refl
no_value_by bytes false found h = refl

pub no_value : (bytes : List ℕ) → (IsUtf8 bytes → read bytes ≡ None) → json_value bytes ≡ None
no_value bytes h = no_value_by bytes (is_utf8 bytes) (read bytes) (λ utf8. h (IsUtf8-from_is_utf8 bytes utf8))
