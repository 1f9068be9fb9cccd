-- Fields that may follow one another in a text. Own profile.
use Rattle.std.specs.Prelude.{◌≡◌, ◌<◌, ℕ, true, false, List, length}
use Rattle.std.specs.List.{AllByRecursion}
use Rattle.tagvalue_codec.specs.declared.data_tags.Pair.{Pair}
use Rattle.tagvalue_codec.specs.declared.data_tags.Role.TheVariants.{Length, Plain}
use Rattle.tagvalue_codec.specs.Fields.{Field, IsTag}
use Rattle.tagvalue_codec.specs.Pairs.{role_of}
use Rattle.tagvalue_codec.specs.Texts.{IsOrdinary, is_locked}
use Rattle.bridge_terms.specs.MessageFields.{length_in}
use Rattle.bridge_terms.specs.Parts.{TagLists}
use Rattle.bridge_terms.specs.Plans.{is_in}
use Rattle.same_texts.specs.Same.{IsDelimited, is_length}

-- A length field belongs to one data field. Both tags have one to nine digits, and the length field's isn't one that
-- has its place in a text.
pub record IsOwnPair (tags : List Pair) (p : Pair) : Type 0 where
  pub length_tag : IsTag p.length_tag
  pub data_tag : IsTag p.tag
  pub unlocked : is_locked p.length_tag ≡ false
  pub role : role_of tags p.length_tag ≡ Length p.tag

-- Each length field belongs to one data field, and each of these tags has one to nine digits.
pub record AreTags (tags : List Pair) (own : List ℕ) : Type 0 where
  pub pairs : AllByRecursion (IsOwnPair tags) tags
  pub each : (tag : ℕ) → is_in tag own ≡ true → IsTag tag

-- A field by itself, which no length field precedes.
pub record IsAlone (tags : List Pair) (f : Field) : Type 0 where
  pub ordinary : IsOrdinary f
  pub plain : role_of tags f.tag ≡ Plain

-- A field with a value of fewer than a thousand million bytes, whose end is found, and with a tag that is no length
-- field's and has no place of its own in a text.
pub record CanFollow (tags : List Pair) (lists : TagLists) (f : Field) : Type 0 where
  pub tagged : IsTag f.tag
  pub unlocked : is_locked f.tag ≡ false
  pub own : is_length tags f.tag ≡ false
  pub some : 0 < length f.value
  pub short : length f.value < 1000000000
  pub ends : IsDelimited (length_in f.tag lists.lengths) f.value

-- The tags that frame a text are among those of the header.
pub record IsFramed (lists : TagLists) : Type 0 where
  pub begin : is_in 8 lists.header ≡ true
  pub size : is_in 9 lists.header ≡ true
  pub kind : is_in 35 lists.header ≡ true
  pub last : is_in 10 lists.header ≡ true
