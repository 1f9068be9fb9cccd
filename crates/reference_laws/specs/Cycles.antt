-- Chains of references that meet a node twice.
use Rattle.std.specs.Prelude.{◌≡◌, ℕ, nat_eq, ◌||◌, Bool, true, false, List, [], ◌∷◌, Some, slice_get, ⊤}
use Rattle.std.specs.List.{list_any}
use Rattle.reference_graph.specs.declared.graph.Link.{Link}
use Rattle.reference_graph.specs.declared.graph.Link.TheVariants.{Field, To}
use Rattle.reference_graph.specs.declared.graph.Node.{Node}

-- A link leads to this node.
abbrev pub leads_to : ℕ → Link → Bool
leads_to k (Field tag) = false
leads_to k (To i) = nat_eq k i

-- a chain of references that begins at these links meets these nodes, one after another
abbrev pub IsChain : List Node → List Link → List ℕ → Type 0
IsChain graph links [] = ⊤
IsChain graph links (k ∷ ks) = (node : Node) × (list_any (leads_to k) links ≡ true) × (slice_get graph k ≡ Some node) × IsChain graph node.links ks

-- one of the nodes occurs twice
abbrev pub comes_twice : List ℕ → Bool
comes_twice [] = false
comes_twice (k ∷ ks) = list_any (nat_eq k) ks || comes_twice ks

-- a chain of references that begins at these links meets some node twice
abbrev pub MeetsTwice : List Node → List Link → Type 0
MeetsTwice graph links = (ks : List ℕ) × IsChain graph links ks × (comes_twice ks ≡ true)
