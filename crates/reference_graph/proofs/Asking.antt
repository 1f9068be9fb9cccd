-- What the table of extents answers.
use Rattle.std.proofs.Common.{◌≡◌, ℕ, Bool, true, false, List, Option, Some, None, length, min, refl, sym, ap, ◌∙◌, arith, ◌+◌, ◌<◌, is_none, is_some, not, nat_lt, get_or, subst}
use Rattle.std.specs.Prelude.{slice_get, ◌||◌, if◌then◌else◌}
use Rattle.std.proofs.lemmas.Bool.Decides.{nat_tests}
use Rattle.std.proofs.lemmas.Option.{same_Some, none-some, slice_get_read}
use Rattle.reference_graph.specs.declared.graph.Node.{Node}
use Rattle.reference_graph.specs.declared.extent.Extent.{Extent}
use Rattle.reference_graph.specs.Graphs.{is_endless}
use Rattle.reference_graph.specs.Structures.{node_tags, node_depth, is_over_limit}
use Rattle.reference_graph.specs.Learning.{extent_of, is_over, final_extent, HasExtents}

none_in : (b : Bool) (extent : Extent) → is_none (if b then None else Some extent) ≡ b
none_in true extent = refl
none_in false extent = refl

extent_told : (graph : List Node) (table : List (Option Extent)) → HasExtents graph table → (i : ℕ) (node : Node) (o : Option Extent) → slice_get graph i ≡ Some node → slice_get table i ≡ Some o → o ≡ final_extent graph node
extent_told graph table tells i node o at is = same_Some o (final_extent graph node) (sym is ∙ tells.looked_up i node at)

pub endless_told : (graph : List Node) (table : List (Option Extent)) → HasExtents graph table → (i : ℕ) (node : Node) (o : Option Extent) → slice_get graph i ≡ Some node → slice_get table i ≡ Some o → is_none o ≡ is_endless graph node.links
endless_told graph table tells i node o at is =
    ap is_none (extent_told graph table tells i node o at is)
    ∙ none_in (is_endless graph node.links) (extent_of (length (node_tags graph node)) (node_depth graph node))

above : (n limit : ℕ) → nat_lt limit (min n (limit + 1)) ≡ nat_lt limit n
above n limit = grind (arith, nat_tests)

pub over_told : (graph : List Node) (table : List (Option Extent)) → HasExtents graph table → (i : ℕ) (node : Node) (extent : Extent) → slice_get graph i ≡ Some node → slice_get table i ≡ Some (Some extent) →
    is_endless graph node.links ≡ false → is_over extent ≡ is_over_limit graph node
over_told graph table tells i node extent at is ends =
    let all : Extent = extent_of (length (node_tags graph node)) (node_depth graph node) in
    let e : ◌≡◌ {A = Option Extent} (Some extent) (Some all) = extent_told graph table tells i node (Some extent) at is ∙ ap (λ b. if b then None else Some all) ends in
    ap is_over (same_Some extent all e)
    ∙ ap (λ b. b || nat_lt 6 (min (node_depth graph node) 7)) (above (length (node_tags graph node)) 4096)
    ∙ ap (λ b. nat_lt 4096 (length (node_tags graph node)) || b) (above (node_depth graph node) 6)

pub places_told : (graph : List Node) (table : List (Option Extent)) → HasExtents graph table → (i : ℕ) (node : Node) (extent : Extent) → slice_get graph i ≡ Some node → slice_get table i ≡ Some (Some extent) →
    is_endless graph node.links ≡ false → extent.places ≡ min (length (node_tags graph node)) 4097
places_told graph table tells i node extent at is ends =
    let all : Extent = extent_of (length (node_tags graph node)) (node_depth graph node) in
    let e : ◌≡◌ {A = Option Extent} (Some extent) (Some all) = extent_told graph table tells i node (Some extent) at is ∙ ap (λ b. if b then None else Some all) ends in
    ap (λ (x : Extent). x.places) (same_Some extent all e)

pub none_told : (graph : List Node) (table : List (Option Extent)) → HasExtents graph table → (i : ℕ) (node : Node) → slice_get graph i ≡ Some node → slice_get table i ≡ Some None → is_endless graph node.links ≡ false → ⊥
none_told graph table tells i node at is ends =
    let all : Extent = extent_of (length (node_tags graph node)) (node_depth graph node) in
    none-some all (extent_told graph table tells i node None at is ∙ ap (λ b. if b then None else Some all) ends)

flipped : (b : Bool) (o : Option Extent) → is_some o ≡ not b → b ≡ is_none o
flipped true None h = refl
flipped true (Some f) h = cc
flipped false None h = cc
flipped false (Some f) h = refl

module _ (nodes graph : List Node) (view : nodes ≡ graph) (table : List (Option Extent)) (tells : HasExtents nodes table) (i : ℕ) (within : i < length graph) (o : Option Extent) (is : o ≡ get_or table i o) where
  told_here : HasExtents graph table
  told_here = subst (λ g. HasExtents g table) view tells

  here : slice_get table i ≡ Some o
  here = let long : length table ≡ length graph = told_here.long in slice_get_read table (length table) i o refl (omega arith) is

  pub answers_endless : (answer : Bool) → is_some o ≡ not answer → (node : Node) → slice_get graph i ≡ Some node → answer ≡ is_endless graph node.links
  answers_endless answer h node at = flipped answer o h ∙ endless_told graph table told_here i node o at here

  pub answers_none : o ≡ None → (node : Node) → slice_get graph i ≡ Some node → is_endless graph node.links ≡ false → false ≡ is_over_limit graph node
  answers_none none node at ends = absurd (none_told graph table told_here i node at (here ∙ ap Some none) ends)

  pub answers_no_places : o ≡ None → (node : Node) → slice_get graph i ≡ Some node → is_endless graph node.links ≡ false → 0 ≡ min (length (node_tags graph node)) 4097
  answers_no_places none node at ends = absurd (none_told graph table told_here i node at (here ∙ ap Some none) ends)

  pub answers_places : (extent : Extent) → o ≡ Some extent → (node : Node) → slice_get graph i ≡ Some node → is_endless graph node.links ≡ false →
      extent.places ≡ min (length (node_tags graph node)) 4097
  answers_places extent some node at ends = places_told graph table told_here i node extent at (here ∙ ap Some some) ends

  pub answers_over : (extent : Extent) → o ≡ Some extent → (node : Node) → slice_get graph i ≡ Some node → is_endless graph node.links ≡ false → is_over extent ≡ is_over_limit graph node
  answers_over extent some node at ends = over_told graph table told_here i node extent at (here ∙ ap Some some) ends
