-- The texts of numbers of one byte, looked up by their byte. Own profile.
use Rattle.std.specs.Prelude.{◌≡◌, ◌<◌, ℕ, ℤ, List, [], ◌∷◌, length, take, slice_get, ⊤, Ok, Some}
use Rattle.fix_values.specs.declared.rule.NumRule.{NumRule}
use Rattle.fix_values.specs.Values.{text_of}
use Rattle.bridge_rules.specs.Texts.{field_text}
use Rattle.value_texts.specs.declared.face.NumberFace.{NumberFace}
use Rattle.value_texts.specs.declared.fronts.FrontText.{FrontText}
use Rattle.value_texts.specs.declared.row.TextRule.{TextRule}
use Rattle.value_texts.specs.declared.row.TextRule.TheVariants as row
use Rattle.value_texts.specs.Faces.{number_by, IsRead}
use Rattle.value_texts.specs.Fronts.{IsFrontText}

-- a text is that of a number
abbrev pub IsNumberText : NumRule → ℤ → List ℕ → Type 0
IsNumberText rule n text = field_text (text_of rule n) ≡ Ok (Some text)

-- a text is that of the number that a byte shows by a face
pub record IsTextOfByte (rule : NumRule) (q : NumberFace) (b : ℕ) (text : List ℕ) : Type 0 where
  pub read : IsRead q (b ∷ [])
  pub number : ℤ
  pub shown : number_by q (b ∷ []) ≡ Some number
  pub text_is : IsNumberText rule number text

-- a text that isn't empty is that of its byte
abbrev pub IsByteText : NumRule → NumberFace → ℕ → List ℕ → Type 0
IsByteText rule q b text = 0 < length text → IsTextOfByte rule q b text

-- each text in a table is that of its byte
abbrev pub AreCodesOf : NumRule → NumberFace → List (List ℕ) → Type 0
AreCodesOf rule q codes = (b : ℕ) (text : List ℕ) → slice_get codes b ≡ Some text → IsByteText rule q b text

-- the same for a rule of texts
abbrev pub AreCodes : TextRule → NumberFace → List (List ℕ) → Type 0
AreCodes (row.Number rule) q codes = AreCodesOf rule q codes
AreCodes (row.Choices rule) q codes = ⊤
AreCodes (row.Decimal exponent) q codes = ⊤
AreCodes (row.Floating mantissa exponent) q codes = ⊤
AreCodes row.Passage q codes = ⊤
AreCodes row.Day q codes = ⊤
AreCodes (row.Moment from unit) q codes = ⊤
AreCodes row.Month q codes = ⊤
AreCodes (row.Const t) q codes = ⊤

-- the text of a value of one byte, at the front of eight bytes in a table
pub record IsCodeFront (front : FrontText) (bytes : List ℕ) (codes : List (List ℕ)) : Type 0 where
  pub value : IsFrontText front
  pub byte : ℕ
  pub one : bytes ≡ byte ∷ []
  pub there : slice_get codes byte ≡ Some (take front.count front.bytes.now)
