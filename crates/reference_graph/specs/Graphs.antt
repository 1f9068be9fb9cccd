-- Nodes that refer to one another: folds over the parts of a structure, and chains of references.
use Rattle.std.specs.Prelude.{◌≡◌, ℕ, zero, suc, Bool, false, List, [], ◌∷◌, length, is_some, Option, Some, None, slice_get}
use Rattle.std.specs.List.{list_any}
use Rattle.reference_graph.specs.declared.graph.Link.{Link}
use Rattle.reference_graph.specs.declared.graph.Link.TheVariants.{Field, To}
use Rattle.reference_graph.specs.declared.graph.Node.{Node}

-- ---- folds over the parts of a structure

-- the results for nothing, for a field, for what is inside a node (with the tag of its count, if it is a group), and
-- for two parts one after the other
pub record Fold (X : Type 0) : Type 0 where
  pub empty : X
  pub field : ℕ → X
  pub node : Option ℕ → X → X
  pub join : X → X → X

-- The result for a node, or for nothing if it wasn't found.
abbrev pub of_node : {X : Type 0} → Fold X → (List Link → X) → Option Node → X
of_node R inner None = R.empty
of_node R inner (Some node) = R.node node.count (inner node.links)

-- the result for what one link leads to
abbrev pub of_link : {X : Type 0} → Fold X → List Node → (List Link → X) → Link → X
of_link R graph inner (Field tag) = R.field tag
of_link R graph inner (To i) = of_node R inner (slice_get graph i)

-- the result for links, in order
abbrev pub of_links : {X : Type 0} → Fold X → (Link → X) → List Link → X
of_links R one [] = R.empty
of_links R one (l ∷ ls) = R.join (one l) (of_links R one ls)

-- the result for a structure, through at most n names
abbrev pub folded : {X : Type 0} → Fold X → ℕ → List Node → List Link → X
folded R zero graph links = R.empty
folded R (suc n) graph links = of_links R (of_link R graph (folded R n graph)) links

-- the result for a structure; if chains of references end, none has more names than there are nodes
abbrev pub fold : {X : Type 0} → Fold X → List Node → List Link → X
fold R graph links = folded R (suc (length graph)) graph links

-- ---- chains of references

-- The links of a node; none if it wasn't found.
abbrev pub links_in : Option Node → List Link
links_in None = []
links_in (Some node) = node.links

-- The links of the node with an index.
abbrev pub links_at : List Node → ℕ → List Link
links_at graph i = links_in (slice_get graph i)

-- The links of what a link leads to.
abbrev pub links_after : List Node → Link → List Link
links_after graph (Field tag) = []
links_after graph (To i) = links_at graph i

-- A link leads to a node.
abbrev pub leads_on : List Node → Link → Bool
leads_on graph (Field tag) = false
leads_on graph (To i) = is_some (slice_get graph i)

-- some chain of references that begins with this link has more than n nodes
abbrev pub goes_on : ℕ → List Node → Link → Bool
goes_on zero graph link = leads_on graph link
goes_on (suc n) graph link = list_any (goes_on n graph) (links_after graph link)

-- a chain of references doesn't end: one with more nodes than there are has one of them twice
abbrev pub is_endless : List Node → List Link → Bool
is_endless graph links = list_any (goes_on (length graph) graph) links

-- Chains of references from these links end.
abbrev pub Ends : List Node → List Link → Type 0
Ends graph links = is_endless graph links ≡ false

-- Chains of references that begin with this link end.
abbrev pub LinkEnds : List Node → Link → Type 0
LinkEnds graph link = goes_on (length graph) graph link ≡ false
