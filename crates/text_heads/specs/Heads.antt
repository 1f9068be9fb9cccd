-- The header fields that a head has. Own profile.
use Rattle.std.specs.Prelude.{◌≡◌, ◌<◌, ◌^◌, ℕ, Bool, true, List, length, Option, Some, None, ⊤}
use Rattle.tagvalue_codec.specs.declared.data_tags.Pair.{Pair}
use Rattle.tagvalue_codec.specs.declared.data_tags.Role.TheVariants.{Plain}
use Rattle.tagvalue_codec.specs.Drafts.{IsValue}
use Rattle.tagvalue_codec.specs.Pairs.{role_of}
use Rattle.bridge_terms.specs.Parts.{TagLists}
use Rattle.bridge_terms.specs.Plans.{is_in}
use Rattle.text_heads.specs.declared.own.HeadTags.{HeadTags}

-- A tag of the header that is neither a length field's nor that of data with one.
pub record IsHeaderTag (pairs : List Pair) (lists : TagLists) (tag : ℕ) : Type 0 where
  pub header : is_in tag lists.header ≡ true
  pub plain : role_of pairs tag ≡ Plain

-- Each field that is marked has such a tag.
pub record AreHeadTags (pairs : List Pair) (lists : TagLists) (own : HeadTags) : Type 0 where
  pub sender : own.sender ≡ true → IsHeaderTag pairs lists 49
  pub target : own.target ≡ true → IsHeaderTag pairs lists 56
  pub seq : own.seq ≡ true → IsHeaderTag pairs lists 34
  pub time : own.time ≡ true → IsHeaderTag pairs lists 52

-- what is given is the value of a field that is marked
abbrev pub IsGivenOf : Bool → Option (List ℕ) → Type 0
IsGivenOf known None = ⊤
IsGivenOf known (Some value) = (known ≡ true) × IsValue value × (length value < 2 ^ 64)
