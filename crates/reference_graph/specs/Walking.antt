-- What is left of a structure during a walk.
use Rattle.std.specs.Prelude.{◌≡◌, ℕ, suc, ◌+◌, ◌≤◌, nat_eq, length, true, ◌==◌, Bool, false, List, [], ◌∷◌, ◌++◌, Option, Some, None}
use Rattle.std.specs.List.{list_any}
use Rattle.reference_graph.specs.declared.graph.Link.{Link}
use Rattle.reference_graph.specs.declared.graph.Node.{Node}
use Rattle.reference_graph.specs.declared.extent.Extent.{Extent}
use Rattle.reference_graph.specs.Graphs.{Fold, of_link, folded, fold, is_endless}
use Rattle.reference_graph.specs.Structures.{tags, counted_tags, tags_of, has_twice}

-- The extent is known, and has no places.
abbrev pub is_bare : Option Extent → Bool
is_bare None = false
is_bare (Some extent) = extent.places == 0

-- the tags that are left; those of the last links come first
abbrev pub tags_left : List Node → List (List Link) → List ℕ
tags_left graph [] = []
tags_left graph (links ∷ more) = tags_left graph more ++ tags_of graph links

-- the most steps that a structure takes
abbrev pub steps : Fold ℕ
steps = record { empty = 0; field = λ tag. 0; node = λ count inner. inner; join = λ front back. front + back + 2 }

-- the steps that are left
abbrev pub steps_left : List Node → List (List Link) → ℕ
steps_left graph [] = 0
steps_left graph (links ∷ more) = steps_left graph more + suc (fold steps graph links)

-- what a link leads to: its tags are this one, if there is one, and those of the links inside
pub record Opens (graph : List Node) (link : Link) (tag : Option ℕ) (inner : List Link) : Type 0 where
  pub tags : of_link tags graph (folded tags (length graph) graph) link ≡ counted_tags tag (tags_of graph inner)
  pub ends : is_endless graph inner ≡ false
  pub steps : fold steps graph inner ≤ of_link steps graph (folded steps (length graph) graph) link

-- the tag, if there is one, is inserted if it is new
abbrev pub Inserts : List ℕ → Option ℕ → List ℕ → Bool → Type 0
Inserts old None now new = (new ≡ true) × (now ≡ old)
Inserts old (Some tag) now true = (list_any (nat_eq tag) old ≡ false) × (now ≡ old ++ tag ∷ [])
Inserts old (Some tag) now false = (list_any (nat_eq tag) old ≡ true) × (now ≡ old)

-- the tags seen are all different, the tags that are left complete all tags, and chains of what is left end
pub record Goes (graph : List Node) (all : List ℕ) (seen : List ℕ) (left : List (List Link)) : Type 0 where
  pub fresh : has_twice seen ≡ false
  pub rest : seen ++ tags_left graph left ≡ all
  pub ends : list_any (is_endless graph) left ≡ false
