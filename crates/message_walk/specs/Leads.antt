-- The bytes that a field begins with. From the FIX tag=value encoding (FIX 4.4), Message format.
use Rattle.std.specs.Prelude.{◌≡◌, ℕ, false, List}
use Rattle.tagvalue_codec.specs.Fields.{tag_bytes, IsTag}
use Rattle.tagvalue_codec.specs.Texts.{is_locked}

-- the bytes are the tag's digits and =, and the tag is one of an application field
pub record IsLead (tag : ℕ) (bytes : List ℕ) : Type 0 where
  pub shown : bytes ≡ tag_bytes tag
  pub tagged : IsTag tag
  pub unlocked : is_locked tag ≡ false
