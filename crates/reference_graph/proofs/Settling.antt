-- What is learned in rounds is what is known in the end.
use Rattle.std.proofs.Common.{◌≡◌, ℕ, zero, suc, false, List, [], ◌∷◌, ◌++◌, Option, Some, None, length, max, min, refl, sym, ap, ◌∙◌, subst, arith, ◌+◌, ◌≤◌, length-append}
use Rattle.std.specs.Prelude.{slice_get, is_some, ◌||◌, option_map, option_and_then}
use Rattle.std.specs.List.{list_any}
use Rattle.std.proofs.lemmas.Option.{same_Some}
use Rattle.reference_graph.specs.declared.graph.Link.{Link}
use Rattle.reference_graph.specs.declared.graph.Link.TheVariants.{Field, To}
use Rattle.reference_graph.specs.declared.graph.Node.{Node}
use Rattle.reference_graph.specs.declared.extent.Extent.{Extent}
use Rattle.reference_graph.specs.declared.extent.TheConstants.{PLACE_LIMIT, DEPTH_LIMIT, EMPTY, ONE_FIELD}
use Rattle.reference_graph.specs.Graphs.{of_node, of_link, of_links, folded, links_in, goes_on}
use Rattle.reference_graph.specs.Structures.{tags, depth, counted_tags, counted_depth}
use Rattle.reference_graph.specs.Learning.{extent_of_both, with_count, entry_extent, looked_up, links_extent, counted_extent, node_extent, IsSettled, IsSound, known}
use Rattle.reference_graph.proofs.Chains.{ends_later, one_more}

Table : Type 0
Table = List (Option Extent)

-- ---- extents of parts, one after another

-- the extent of so many places, so deep
pub record IsOf (extent : Extent) (places : ℕ) (deep : ℕ) : Type 0 where
  pub many : extent.places ≡ min places (PLACE_LIMIT + 1)
  pub far : extent.depth ≡ min deep (DEPTH_LIMIT + 1)

capped_sum : (a b p q : ℕ) → a ≡ min p 4097 → b ≡ min q 4097 → min (a + b) 4097 ≡ min (p + q) 4097
capped_sum a b p q h g = omega arith

capped_max : (a b d e : ℕ) → a ≡ min d 7 → b ≡ min e 7 → max a b ≡ min (max d e) 7
capped_max a b d e h g = omega arith

capped_next : (a p : ℕ) → a ≡ min p 4097 → min (a + 1) 4097 ≡ min (suc p) 4097
capped_next a p h = omega arith

capped_deeper : (a d : ℕ) → a ≡ min d 7 → min (a + 1) 7 ≡ min (suc d) 7
capped_deeper a d h = omega arith

of_both : (a b : Extent) (p q d e : ℕ) → IsOf a p d → IsOf b q e → IsOf (extent_of_both a b) (p + q) (max d e)
of_both a b p q d e x y = record { many = capped_sum a.places b.places p q x.many y.many; far = capped_max a.depth b.depth d e x.far y.far }

of_group : (a : Extent) (p d : ℕ) → IsOf a p d → IsOf (with_count a) (suc p) (suc d)
of_group a p d x = record { many = capped_next a.places p x.many; far = capped_deeper a.depth d x.far }

of_same : (a : Extent) (p q d e : ℕ) → p ≡ q → d ≡ e → IsOf a p d → IsOf a q e
of_same a p q d e h g x = subst (λ n. IsOf a n e) h (subst (λ n. IsOf a p n) g x)

module _ (graph : List Node) (table : List (Option Extent)) (k : ℕ) where
  -- what the table tells of a link is so
  abbrev AreSettled : Type 0
  AreSettled = (l : Link) (extent : Extent) → looked_up table l ≡ Some extent → IsSettled k graph l extent

  abbrev tags_among : List Link → List ℕ
  tags_among = of_links tags (of_link tags graph (folded tags k graph))

  abbrev depth_among : List Link → ℕ
  depth_among = of_links depth (of_link depth graph (folded depth k graph))

  part : (l : Link) (extent : Extent) → IsSettled k graph l extent → IsOf extent (length (of_link tags graph (folded tags k graph) l)) (of_link depth graph (folded depth k graph) l)
  part l extent x = record { many = x.places; far = x.depth }

  nothing_ends : (all total : Extent) → ◌≡◌ {A = Option Extent} (Some all) (Some total) → (p d : ℕ) → IsOf all p d → IsOf total (p + 0) (max d 0)
  nothing_ends all total h p d x = of_same total p (p + 0) d (max d 0) (omega arith) (omega arith) (subst (λ f. IsOf f p d) (same_Some all total h) x)

  pub record AreOf (ls : List Link) (total : Extent) (p d : ℕ) : Type 0 where
    pub end : list_any (goes_on k graph) ls ≡ false
    pub of : IsOf total (p + length (tags_among ls)) (max d (depth_among ls))

  also : (l : Link) (ls : List Link) (total extent : Extent) (p d : ℕ) → IsSettled k graph l extent →
      AreOf ls total (p + length (of_link tags graph (folded tags k graph) l)) (max d (of_link depth graph (folded depth k graph) l)) → AreOf (l ∷ ls) total p d
  also l ls total extent p d one more =
      let mine : List ℕ = of_link tags graph (folded tags k graph) l in
      let deep : ℕ = of_link depth graph (folded depth k graph) l in
      let both : length (mine ++ tags_among ls) ≡ length mine + length (tags_among ls) = length-append mine (tags_among ls) in
      let sums : p + length mine + length (tags_among ls) ≡ p + length (mine ++ tags_among ls) = omega arith in
      let far : max (max d deep) (depth_among ls) ≡ max d (max deep (depth_among ls)) = omega arith in
      record {
        end = ap (λ b. b || list_any (goes_on k graph) ls) one.ends ∙ more.end;
        of = of_same total (p + length mine + length (tags_among ls)) (p + length (mine ++ tags_among ls)) (max (max d deep) (depth_among ls)) (max d (max deep (depth_among ls))) sums far more.of;
      }

  first : AreSettled → (l : Link) (ls : List Link) (all total : Extent) (p d : ℕ) → IsOf all p d →
      ((new : Extent) (q e : ℕ) → IsOf new q e → links_extent table new ls ≡ Some total → AreOf ls total q e) →
      (o : Option Extent) → looked_up table l ≡ o → option_and_then (λ (f : Extent). links_extent table (extent_of_both all f) ls) o ≡ Some total → AreOf (l ∷ ls) total p d
  first settled l ls all total p d x more None is h = cc
  first settled l ls all total p d x more (Some extent) is h =
      let one : IsSettled k graph l extent = settled l extent is in
      also l ls total extent p d one
      (more (extent_of_both all extent) (p + length (of_link tags graph (folded tags k graph) l)) (max d (of_link depth graph (folded depth k graph) l))
      (of_both all extent p (length (of_link tags graph (folded tags k graph) l)) d (of_link depth graph (folded depth k graph) l) x (part l extent one)) h)

  -- what is looked_up of links is so
  pub among : AreSettled → (ls : List Link) (all total : Extent) (p d : ℕ) → IsOf all p d → links_extent table all ls ≡ Some total → AreOf ls total p d
  among settled [] all total p d x h = record { end = refl; of = nothing_ends all total h p d x }
  among settled (l ∷ ls) all total p d x h = first settled l ls all total p d x (λ new q e. among settled ls new total q e) (looked_up table l) refl h

  -- ---- what is looked_up of a node

  none_yet : IsOf EMPTY 0 0
  none_yet = record { many = refl; far = refl }

  counted_of : (count : Option ℕ) (total extent : Extent) (ts : List ℕ) (d : ℕ) → counted_extent count total ≡ extent → IsOf total (length ts) d → IsOf extent (length (counted_tags count ts)) (counted_depth count d)
  counted_of None total extent ts d is x = subst (λ f. IsOf f (length ts) d) is x
  counted_of (Some tag) total extent ts d is x = subst (λ f. IsOf f (suc (length ts)) (suc d)) is (of_group total (length ts) d x)

  node_is : AreSettled → (node : Node) (extent : Extent) (o : Option Extent) → links_extent table EMPTY node.links ≡ o → option_map (counted_extent node.count) o ≡ Some extent →
      (list_any (goes_on k graph) node.links ≡ false) × IsOf extent (length (counted_tags node.count (tags_among node.links))) (counted_depth node.count (depth_among node.links))
  node_is settled node extent None is h = cc
  node_is settled node extent (Some total) is h =
      let all : AreOf node.links total 0 0 = among settled node.links EMPTY total 0 0 none_yet is in
      let of : IsOf total (length (tags_among node.links)) (depth_among node.links) =
      of_same total (0 + length (tags_among node.links)) (length (tags_among node.links)) (max 0 (depth_among node.links)) (depth_among node.links) (omega arith) (omega arith) all.of in
      (all.end, counted_of node.count total extent (tags_among node.links) (depth_among node.links) (same_Some (counted_extent node.count total) extent h) of)

  at_place : (i : ℕ) (node : Node) (extent : Extent) (o : Option Node) → o ≡ Some node → list_any (goes_on k graph) node.links ≡ false →
      IsOf extent (length (counted_tags node.count (tags_among node.links))) (counted_depth node.count (depth_among node.links)) →
      (list_any (goes_on k graph) (links_in o) ≡ false) × IsOf extent (length (of_node tags (folded tags (suc k) graph) o)) (of_node depth (folded depth (suc k) graph) o)
  at_place i node extent o is end of =
      subst (λ (found : Option Node). (list_any (goes_on k graph) (links_in found) ≡ false) × IsOf extent (length (of_node tags (folded tags (suc k) graph) found)) (of_node depth (folded depth (suc k) graph) found)) (sym is) (end, of)

  -- a node of which something is looked_up is settled within one node more
  pub node_settled : AreSettled → (i : ℕ) (node : Node) (extent : Extent) → slice_get graph i ≡ Some node → node_extent table node ≡ Some extent → IsSettled (suc k) graph (To i) extent
  node_settled settled i node extent at h =
      let both : (list_any (goes_on k graph) node.links ≡ false) × IsOf extent (length (counted_tags node.count (tags_among node.links))) (counted_depth node.count (depth_among node.links)) =
      node_is settled node extent (links_extent table EMPTY node.links) refl h in
      let placed = at_place i node extent (slice_get graph i) at both.0 both.1 in
      record { ends = placed.0; places = placed.1.many; depth = placed.1.far }

-- ---- a sound table

module _ (graph : List Node) where
  pub settled_later : (k : ℕ) (l : Link) (extent : Extent) → IsSettled k graph l extent → IsSettled (suc k) graph l extent
  settled_later k l extent x =
      record {
        ends = ends_later k graph l x.ends;
        places = x.places ∙ ap (λ (ts : List ℕ). min (length ts) (PLACE_LIMIT + 1)) (sym (one_more tags graph k l x.ends));
        depth = x.depth ∙ ap (λ d. min d (DEPTH_LIMIT + 1)) (sym (one_more depth graph k l x.ends));
      }

  field_settled : (k : ℕ) (tag : ℕ) → IsSettled k graph (Field tag) ONE_FIELD
  field_settled zero tag = record { ends = refl; places = refl; depth = refl }
  field_settled (suc k) tag = record { ends = refl; places = refl; depth = refl }

  astray : (k : ℕ) (o : Option Node) → o ≡ None → (list_any (goes_on k graph) (links_in o) ≡ false) × ((is_some o ≡ false) × IsOf EMPTY (length (of_node tags (folded tags k graph) o)) (of_node depth (folded depth k graph) o))
  astray k None is = (refl, (refl, record { many = refl; far = refl }))
  astray k (Some node) is = cc

  pub astray_settled : (k i : ℕ) → slice_get graph i ≡ None → IsSettled k graph (To i) EMPTY
  astray_settled zero i none = let a = astray zero (slice_get graph i) none in record { ends = a.1.0; places = a.1.1.many; depth = a.1.1.far }
  astray_settled (suc k) i none =
      let a = astray k (slice_get graph i) none in
      let b = astray (suc k) (slice_get graph i) none in
      record { ends = a.0; places = b.1.1.many; depth = b.1.1.far }

pub beyond : {X : Type 0} (xs : List X) (i : ℕ) → length xs ≤ i → slice_get xs i ≡ None
beyond [] i h = refl
beyond (x ∷ xs) zero h = absurd (omega arith)
beyond (x ∷ xs) (suc i) h = beyond xs i (omega arith)

pub not_within : {X : Type 0} (xs : List X) (i : ℕ) → slice_get xs i ≡ None → length xs ≤ i
not_within [] i h = omega arith
not_within (x ∷ xs) zero h = cc
not_within (x ∷ xs) (suc i) h = let le : length xs ≤ i = not_within xs i h in omega arith

module _ (graph : List Node) (table : List (Option Extent)) (long : length table ≡ length graph) (sound : IsSound graph table) where
  to_place : (i : ℕ) (extent : Extent) (o : Option (Option Extent)) → slice_get table i ≡ o → entry_extent o ≡ Some extent → IsSettled (known table) graph (To i) extent
  to_place i extent None is h =
      let past : length table ≤ i = not_within table i is in
      subst (IsSettled (known table) graph (To i)) (same_Some EMPTY extent h) (astray_settled graph (known table) i (beyond graph i (omega arith)))
  to_place i extent (Some looked_up) is h = sound i extent (is ∙ ap Some h)

  -- what a sound table tells of a link is so
  pub settled : (l : Link) (extent : Extent) → looked_up table l ≡ Some extent → IsSettled (known table) graph l extent
  settled (Field tag) extent h = subst (IsSettled (known table) graph (Field tag)) (same_Some ONE_FIELD extent h) (field_settled graph (known table) tag)
  settled (To i) extent h = to_place i extent (slice_get table i) refl h
