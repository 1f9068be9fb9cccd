-- What stands after a link.
use Rattle.std.proofs.Common.{◌≡◌, ℕ, Bool, true, false, List, [], ◌∷◌, Option, Some, None, length, min, refl, sym, ap, ◌∙◌, arith}
use Rattle.std.specs.Prelude.{slice_get, if◌then◌else◌}
use Rattle.std.specs.List.{list_any}
use Rattle.std.proofs.lemmas.Bool.Decides.{nat_tests}
use Rattle.reference_graph.specs.declared.graph.Link.TheVariants.{To}
use Rattle.reference_graph.specs.declared.graph.Node.{Node}
use Rattle.reference_graph.specs.declared.extent.Extent.{Extent}
use Rattle.reference_graph.specs.Graphs.{Fold, of_node, of_link, folded, fold, links_in, goes_on, is_endless}
use Rattle.reference_graph.specs.Structures.{tags, counted_tags, counted_depth, tags_of, depth_of}
use Rattle.reference_graph.specs.Learning.{extent_of, entry_extent, looked_up, final_extent, HasExtents}
use Rattle.reference_graph.specs.Walking.{is_bare, steps, Opens}
use Rattle.reference_graph.proofs.Chains.{ends_later, one_more}

none_bare : (ts : List ℕ) (deep : ℕ) → is_bare (Some (extent_of (length ts) deep)) ≡ true → ts ≡ []
none_bare [] deep h = refl
none_bare (t ∷ ts) deep h = let e : min (length (t ∷ ts)) 4097 ≡ 0 = grind (arith, nat_tests, h) in absurd (omega arith)

bare_in : (b : Bool) (ts : List ℕ) (deep : ℕ) → is_bare (if b then None else Some (extent_of (length ts) deep)) ≡ true → ts ≡ []
bare_in true ts deep h = cc
bare_in false ts deep h = none_bare ts deep h

module _ (graph : List Node) (i : ℕ) (ends : goes_on (length graph) graph (To i) ≡ false) where
  unrolled : {X : Type 0} (R : Fold X) (node : Node) → slice_get graph i ≡ Some node → of_link R graph (folded R (length graph) graph) (To i) ≡ R.node node.count (fold R graph node.links)
  unrolled R node at = sym (one_more R graph (length graph) (To i) ends) ∙ ap (of_node R (fold R graph)) at

  pub opens_node : (node : Node) → slice_get graph i ≡ Some node → Opens graph (To i) node.count node.links
  opens_node node at =
      let e : of_link steps graph (folded steps (length graph) graph) (To i) ≡ fold steps graph node.links = unrolled steps node at in
      record {
        tags = unrolled tags node at;
        ends = sym (ap (λ (o : Option Node). list_any (goes_on (length graph) graph) (links_in o)) at) ∙ ends_later (length graph) graph (To i) ends;
        steps = omega arith;
      }

  bare : of_link tags graph (folded tags (length graph) graph) (To i) ≡ [] → Opens graph (To i) None []
  bare none = record { tags = none; ends = refl; steps = omega arith }

  pub opens_none : slice_get graph i ≡ None → Opens graph (To i) None []
  opens_none none = bare (ap (of_node tags (folded tags (length graph) graph)) none)

  pub opens_bare : (table : List (Option Extent)) → HasExtents graph table → (node : Node) → slice_get graph i ≡ Some node → is_bare (looked_up table (To i)) ≡ true → Opens graph (To i) None []
  opens_bare table tells node at h =
      let is : is_bare (final_extent graph node) ≡ true = sym (ap (λ o. is_bare (entry_extent o)) (tells.looked_up i node at)) ∙ h in
      bare (unrolled tags node at ∙ bare_in (is_endless graph node.links) (counted_tags node.count (tags_of graph node.links)) (counted_depth node.count (depth_of graph node.links)) is)
