-- Marks for the places of a level.
use Rattle.std.specs.Prelude.{◌≡◌, ℕ, Bool, true, false, List, get_or, Some}
use Rattle.id_tables.specs.Places.{place_of}
use Rattle.bridge_terms.specs.Plans.{is_in}

-- the mark at a tag's index gives whether the tag is gone, and each tag that is gone has an index
pub record Marked (tags : List ℕ) (set : List Bool) (gone : List ℕ) : Type 0 where
  pub marks : (tag k : ℕ) → place_of tag tags ≡ Some k → get_or set k false ≡ is_in tag gone
  pub known : (tag : ℕ) → is_in tag gone ≡ true → (k : ℕ) × (place_of tag tags ≡ Some k)
