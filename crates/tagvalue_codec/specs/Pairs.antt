-- The pairs of a length tag and its data tag. From FIX 4.4, Data types, data: "Data fields are always immediately
-- preceded by a length field."
use Rattle.std.specs.Prelude.{◌≡◌, ℕ, ◌%◌, ◌==◌, Bool, true, false, if◌then◌else◌, Option, Some, None, List, [], ◌∷◌, length}
use Rattle.std.specs.List.{AllByRecursion}
use Rattle.std.proofs.Math.ListN.{get_or}
use Rattle.tagvalue_codec.specs.declared.data_tags.Pair.{Pair}
use Rattle.tagvalue_codec.specs.declared.data_tags.Role.{Role}
use Rattle.tagvalue_codec.specs.declared.data_tags.Role.TheVariants as role
use Rattle.tagvalue_codec.specs.declared.data_tags.TheConstants.{MARKS}

-- the role of a tag in the pairs: the length tag of a data tag, a data tag, or neither
abbrev pub role_of : List Pair → ℕ → Role
role_of [] tag = role.Plain
role_of (p ∷ ps) tag = if p.length_tag == tag then role.Length p.tag else if p.tag == tag then role.Data else role_of ps tag

-- ---- how the code finds it

-- the role of a tag, if it is in a pair
abbrev pub role_found : List Pair → ℕ → Option Role
role_found [] tag = None
role_found (p ∷ ps) tag = if p.length_tag == tag then Some (role.Length p.tag) else if p.tag == tag then Some role.Data else role_found ps tag

-- the role of tag t once a tag was given a role, if t had none
abbrev pub with_role : ℕ → Role → ℕ → Option Role → Option Role
with_role tag is t (Some has) = Some has
with_role tag is t None = if tag == t then Some is else None

-- the mark of a tag is set
abbrev pub IsMarked : List Bool → ℕ → Type 0
IsMarked marks tag = get_or marks (tag % MARKS) false ≡ true

-- all marks are there, and those of the pairs' tags are set
pub record AreMarked (marks : List Bool) (pairs : List Pair) : Type 0 where
  pub long : length marks ≡ MARKS
  pub each : AllByRecursion (λ p. IsMarked marks p.length_tag × IsMarked marks p.tag) pairs
