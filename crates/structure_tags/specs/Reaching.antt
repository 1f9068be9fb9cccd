-- The tags of a structure as a set.
use Rattle.std.specs.Prelude.{◌≡◌, ◌⊎◌, ℕ, nat_eq, Bool, true, List, [], ◌∷◌, set, Option, Some, None, slice_get}
use Rattle.std.specs.List.{list_any}
use Rattle.reference_graph.specs.declared.graph.Link.{Link}
use Rattle.reference_graph.specs.declared.graph.Link.TheVariants.{Field, To}
use Rattle.reference_graph.specs.declared.graph.Node.{Node}
use Rattle.reference_graph.specs.Structures.{tags_of}

-- A tag is one of these.
abbrev pub is_in : ℕ → List ℕ → Bool
is_in tag all = list_any (nat_eq tag) all

-- a set has exactly the tags of the structure of these links
abbrev pub HasTags : List Node → List Link → List ℕ → Type 0
HasTags graph links tags = (tag : ℕ) → is_in tag tags ≡ is_in tag (tags_of graph links)

-- ---- how the code finds them

-- what a link leads to: only a tag; nothing, if it leads nowhere or its node was entered before; or a node, which is
-- then entered
pub data Enters (graph : List Node) (old : List Bool) (link : Link) (new : List Bool) (count : Option ℕ) (inner : List Link) : Type 0 where
  a_field : (tag : ℕ) → link ≡ Field tag → count ≡ Some tag → inner ≡ [] → new ≡ old → Enters graph old link new count inner
  passes : (i : ℕ) → link ≡ To i → (slice_get graph i ≡ None) ⊎ (slice_get old i ≡ Some true) → count ≡ None → inner ≡ [] → new ≡ old
      → Enters graph old link new count inner
  goes_in : (i : ℕ) (node : Node) → link ≡ To i → slice_get graph i ≡ Some node → count ≡ node.count → inner ≡ node.links → new ≡ set old i true
      → Enters graph old link new count inner

-- A link is one of these.
abbrev pub LinkIn : Link → List Link → Type 0
LinkIn link [] = ⊥
LinkIn link (l ∷ ls) = (l ≡ link) ⊎ LinkIn link ls

-- a link is one of those that are left
abbrev pub IsLeft : Link → List (List Link) → Type 0
IsLeft link [] = ⊥
IsLeft link (links ∷ more) = LinkIn link links ⊎ IsLeft link more

-- a link was followed: its tag is in the set, or its node was entered
abbrev pub IsMet : List Node → List Bool → List ℕ → Link → Type 0
IsMet graph entered tags (Field tag) = is_in tag tags ≡ true
IsMet graph entered tags (To i) = (slice_get graph i ≡ None) ⊎ (slice_get entered i ≡ Some true)
