-- The texts at the front of char arrays. Own profile.
use Rattle.std.specs.Prelude.{◌≡◌, ◌≤◌, ℕ, List, length, take, true, false}
use Rattle.field_values.specs.Reports.{before_zero}
use Rattle.fix_values.specs.Codes.{has_soh}
use Rattle.tagvalue_codec.specs.Drafts.{IsValue}
use Rattle.value_texts.specs.declared.fronts.Front.{Front}
use Rattle.value_texts.specs.declared.fronts.FrontText.{FrontText}

-- a text that is said to be plain has no SOH
abbrev pub IsFront : Front → Type 0
IsFront f = f.plain ≡ true → has_soh f.text.now ≡ false

-- the first n of eight bytes are their text, which has no SOH
pub record IsPlainFront (n : ℕ) (bytes : List ℕ) : Type 0 where
  pub eight : length bytes ≡ 8
  pub within : n ≤ 8
  pub text : take n bytes ≡ before_zero bytes
  pub plain : has_soh (take n bytes) ≡ false

-- a text of at most eight bytes that a field may have, at the front of eight bytes or more
pub record IsFrontText (f : FrontText) : Type 0 where
  pub wide : 8 ≤ length f.bytes.now
  pub few : f.count ≤ 8
  pub value : IsValue (take f.count f.bytes.now)
