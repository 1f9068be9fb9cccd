-- One reckoning carries over to another, so what is folded does.
use Rattle.std.proofs.Common.{◌≡◌, ℕ, zero, suc, max, length, List, [], ◌∷◌, ◌++◌, Option, Some, None, refl, sym, ap, ◌∙◌, arith, append_assoc, append-nil}
use Rattle.std.specs.Prelude.{slice_get}
use Rattle.reference_graph.specs.declared.graph.Link.{Link}
use Rattle.reference_graph.specs.declared.graph.Link.TheVariants.{Field, To}
use Rattle.reference_graph.specs.declared.graph.Node.{Node}
use Rattle.reference_graph.specs.Graphs.{Fold, of_node, of_link, of_links, folded}
use Rattle.reference_graph.specs.Structures.{tags, depth, tags_of, depth_of, counted_tags, counted_depth}
use Rattle.reference_graph.specs.Expansion.{Structure, ended, plain, counted, followed_by, counted_structure, places, structure_of, structure_tags, structure_depth}

pub record Carries {X Y : Type 0} (R : Fold X) (S : Fold Y) (h : X → Y) : Type 0 where
  pub empty : h R.empty ≡ S.empty
  pub field : (tag : ℕ) → h (R.field tag) ≡ S.field tag
  pub node : (count : Option ℕ) (x : X) → h (R.node count x) ≡ S.node count (h x)
  pub join : (x y : X) → h (R.join x y) ≡ S.join (h x) (h y)

module _ {X Y : Type 0} (R : Fold X) (S : Fold Y) (h : X → Y) (c : Carries R S h) (graph : List Node) where
  by_node : (f : List Link → X) (g : List Link → Y) → ((ls : List Link) → h (f ls) ≡ g ls) → (o : Option Node) → h (of_node R f o) ≡ of_node S g o
  by_node f g same None = c.empty
  by_node f g same (Some node) = c.node node.count (f node.links) ∙ ap (S.node node.count) (same node.links)

  by_link : (f : List Link → X) (g : List Link → Y) → ((ls : List Link) → h (f ls) ≡ g ls) → (l : Link) → h (of_link R graph f l) ≡ of_link S graph g l
  by_link f g same (Field tag) = c.field tag
  by_link f g same (To i) = by_node f g same (slice_get graph i)

  by_links : (f : Link → X) (g : Link → Y) → ((l : Link) → h (f l) ≡ g l) → (ls : List Link) → h (of_links R f ls) ≡ of_links S g ls
  by_links f g same [] = c.empty
  by_links f g same (l ∷ ls) = c.join (f l) (of_links R f ls) ∙ ap (λ y. S.join y (h (of_links R f ls))) (same l) ∙ ap (S.join (g l)) (by_links f g same ls)

  pub carried : (n : ℕ) (ls : List Link) → h (folded R n graph ls) ≡ folded S n graph ls
  carried zero ls = c.empty
  carried (suc n) ls = by_links (of_link R graph (folded R n graph)) (of_link S graph (folded S n graph)) (by_link (folded R n graph) (folded S n graph) (carried n)) ls

tags_join : (x y : Structure) → structure_tags (followed_by x y) ≡ structure_tags x ++ structure_tags y
tags_join ended y = refl
tags_join (plain tag rest) y = ap (λ ts. tag ∷ ts) (tags_join rest y)
tags_join (counted tag inner rest) y = ap (λ ts. tag ∷ (structure_tags inner ++ ts)) (tags_join rest y) ∙ ap (λ ts. tag ∷ ts) (sym (append_assoc (structure_tags inner) (structure_tags rest) (structure_tags y)))

tags_node : (count : Option ℕ) (x : Structure) → structure_tags (counted_structure count x) ≡ counted_tags count (structure_tags x)
tags_node None x = refl
tags_node (Some tag) x = ap (λ ts. tag ∷ ts) (append-nil (structure_tags x))

depth_join : (x y : Structure) → structure_depth (followed_by x y) ≡ max (structure_depth x) (structure_depth y)
depth_join ended y = omega arith
depth_join (plain tag rest) y = depth_join rest y
depth_join (counted tag inner rest) y = ap (max (suc (structure_depth inner))) (depth_join rest y) ∙ omega arith

depth_node : (count : Option ℕ) (x : Structure) → structure_depth (counted_structure count x) ≡ counted_depth count (structure_depth x)
depth_node None x = refl
depth_node (Some tag) x = omega arith

pub tags_carried : (graph : List Node) (links : List Link) → structure_tags (structure_of graph links) ≡ tags_of graph links
tags_carried graph links = carried places tags structure_tags (record { empty = refl; field = λ tag. refl; node = tags_node; join = tags_join }) graph (suc (length graph)) links

pub depth_carried : (graph : List Node) (links : List Link) → structure_depth (structure_of graph links) ≡ depth_of graph links
depth_carried graph links = carried places depth structure_depth (record { empty = refl; field = λ tag. refl; node = depth_node; join = depth_join }) graph (suc (length graph)) links
