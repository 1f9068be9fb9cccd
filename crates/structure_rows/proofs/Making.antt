-- The rows of a structure, made link by link.
use Rattle.std.proofs.Common.{◌≡◌, ℕ, suc, Bool, false, List, [], ◌∷◌, ◌++◌, Option, Some, None, length, map, min, refl, sym, ap, ◌∙◌, subst, arith, ◌+◌, ◌-◌, ◌<◌, ◌≤◌, append_assoc, append-nil, option_map, nat_lt, Bor}
use Rattle.std.specs.Prelude.{slice_get, ◌||◌}
use Rattle.std.specs.List.{list_any}
use Rattle.std.proofs.lemmas.Bool.Decides.{nat_tests}
use Rattle.std.proofs.lemmas.List.{length-append, length-map, map-append}
use Rattle.reference_graph.specs.declared.graph.Link.{Link}
use Rattle.reference_graph.specs.declared.graph.Link.TheVariants.{To}
use Rattle.reference_graph.specs.declared.graph.Node.{Node}
use Rattle.reference_graph.specs.Graphs.{Fold, of_node, of_link, folded, fold, links_in, links_at, goes_on, is_endless}
use Rattle.reference_graph.specs.Structures.{tags, counted_tags, tags_of, node_tags, is_over_limit}
use Rattle.reference_graph.specs.Expansion.{Structure, ended, plain, counted, followed_by, counted_structure, places, structure_of}
use Rattle.reference_graph.specs.Walking.{steps, steps_left}
use Rattle.reference_graph.proofs.Chains.{ends_later, one_more}
use Rattle.reference_graph.proofs.Carrying.{carried}
use Rattle.reference_graph.proofs.Walking.{neither, steps_pushed, ends_pushed, ends_below}
use Rattle.structure_rows.specs.declared.row.PlaceRow.{PlaceRow}
use Rattle.structure_rows.specs.Rows.{field_row, group_row, rows_of}
use Rattle.structure_rows.specs.Walking.{counted_rows, rows, rows_in, link_rows, with_row, rows_left, OpensRow, Makes}

-- ---- the rows of a structure are those that are put together

joined : (x y : Structure) → rows_of (followed_by x y) ≡ rows_of x ++ rows_of y
joined ended y = refl
joined (plain tag rest) y = ap (λ rs. field_row tag ∷ rs) (joined rest y)
joined (counted tag inner rest) y =
    ap (λ rs. group_row tag (length (rows_of inner)) ∷ (rows_of inner ++ rs)) (joined rest y)
    ∙ ap (λ rs. group_row tag (length (rows_of inner)) ∷ rs) (sym (append_assoc (rows_of inner) (rows_of rest) (rows_of y)))

noded : (count : Option ℕ) (x : Structure) → rows_of (counted_structure count x) ≡ counted_rows count (rows_of x)
noded None x = refl
noded (Some tag) x = ap (λ rs. group_row tag (length (rows_of x)) ∷ rs) (append-nil (rows_of x))

pub rows_carried : (graph : List Node) (links : List Link) → rows_of (structure_of graph links) ≡ rows_in graph links
rows_carried graph links = carried places rows rows_of (record { empty = refl; field = λ tag. refl; node = noded; join = joined }) graph (suc (length graph)) links

-- ---- their tags are those of the structure

abbrev tags_in : List PlaceRow → List ℕ
tags_in rs = map (λ (r : PlaceRow). r.tag) rs

tagged_node : (count : Option ℕ) (rs : List PlaceRow) → tags_in (counted_rows count rs) ≡ counted_tags count (tags_in rs)
tagged_node None rs = refl
tagged_node (Some tag) rs = refl

tags_kept : (graph : List Node) (links : List Link) → tags_in (rows_in graph links) ≡ tags_of graph links
tags_kept graph links =
    carried rows tags tags_in (record { empty = refl; field = λ tag. refl; node = tagged_node; join = map-append (λ (r : PlaceRow). r.tag) }) graph (suc (length graph)) links

pub as_many : (graph : List Node) (links : List Link) → length (tags_of graph links) ≡ length (rows_in graph links)
as_many graph links = sym (ap length (tags_kept graph links)) ∙ length-map (rows_in graph links) (λ (r : PlaceRow). r.tag)

many_counted : (count : Option ℕ) (ts : List ℕ) (rs : List PlaceRow) → length ts ≡ length rs → length (counted_tags count ts) ≡ length (counted_rows count rs)
many_counted None ts rs h = h
many_counted (Some tag) ts rs h = ap suc h

counted_more : (count : Option ℕ) (ts : List ℕ) → length ts ≤ length (counted_tags count ts)
counted_more None ts = omega arith
counted_more (Some tag) ts = omega arith

within_limit : (n : ℕ) (b : Bool) → (nat_lt 4096 n || b) ≡ false → n ≤ 4096
within_limit n b h = let e : nat_lt 4096 n ≡ false = (neither (nat_lt 4096 n) b h).0 in grind (arith, nat_tests)

-- a node within the limits has few rows
pub few_rows : (graph : List Node) (node : Node) → is_over_limit graph node ≡ false → length (rows_in graph node.links) ≤ 4096
few_rows graph node h =
    let most : length (node_tags graph node) ≤ 4096 = within_limit (length (node_tags graph node)) _ h in
    let less : length (tags_of graph node.links) ≤ length (node_tags graph node) = counted_more node.count (tags_of graph node.links) in
    let same : length (tags_of graph node.links) ≡ length (rows_in graph node.links) = as_many graph node.links in
    omega arith

-- ---- what a link leads to

nothing : (rs : List PlaceRow) → length rs ≡ 0 → rs ≡ []
nothing [] h = refl
nothing (r ∷ rs) h = absurd (omega arith)

grouped : (count : Option ℕ) (places : ℕ) (rs : List PlaceRow) → places ≡ length (counted_rows count rs) →
    counted_rows count rs ≡ with_row (option_map (λ tag. group_row tag (places - 1)) count) rs
grouped None places rs h = refl
grouped (Some tag) places rs h = let e : length rs ≡ places - 1 = omega arith in ap (λ n. group_row tag n ∷ rs) e

module _ (graph : List Node) (i : ℕ) (ends : goes_on (length graph) graph (To i) ≡ false) where
  unrolled : {X : Type 0} (R : Fold X) (node : Node) → slice_get graph i ≡ Some node → of_link R graph (folded R (length graph) graph) (To i) ≡ R.node node.count (fold R graph node.links)
  unrolled R node at = sym (one_more R graph (length graph) (To i) ends) ∙ ap (of_node R (fold R graph)) at

  pub ends_after : (node : Node) → slice_get graph i ≡ Some node → is_endless graph node.links ≡ false
  ends_after node at = sym (ap (λ (o : Option Node). list_any (goes_on (length graph) graph) (links_in o)) at) ∙ ends_later (length graph) graph (To i) ends

  bare : link_rows graph (To i) ≡ [] → OpensRow graph (To i) None []
  bare none = record { rows = none; ends = refl; steps = omega arith }

  pub opens_nothing : slice_get graph i ≡ None → OpensRow graph (To i) None []
  opens_nothing none = bare (ap (of_node rows (folded rows (length graph) graph)) none)

  module _ (node : Node) (at : slice_get graph i ≡ Some node) (places : ℕ) (told : places ≡ min (length (node_tags graph node)) 4097) (short : length (link_rows graph (To i)) ≤ 4096) where
    exact : places ≡ length (counted_rows node.count (rows_in graph node.links))
    exact =
        let many : length (node_tags graph node) ≡ length (counted_rows node.count (rows_in graph node.links)) = many_counted node.count (tags_of graph node.links) (rows_in graph node.links) (as_many graph node.links) in
        let here : length (link_rows graph (To i)) ≡ length (counted_rows node.count (rows_in graph node.links)) = ap length (unrolled rows node at) in
        omega arith

    pub opens_bare : places ≡ 0 → OpensRow graph (To i) None []
    opens_bare none = bare (unrolled rows node at ∙ nothing (counted_rows node.count (rows_in graph node.links)) (sym exact ∙ none))

    pub opens_node : OpensRow graph (To i) (option_map (λ tag. group_row tag (places - 1)) node.count) node.links
    opens_node =
        let e : of_link steps graph (folded steps (length graph) graph) (To i) ≡ fold steps graph node.links = unrolled steps node at in
        record {
          rows = unrolled rows node at ∙ grouped node.count places (rows_in graph node.links) exact;
          ends = ends_after node at;
          steps = omega arith;
        }

-- ---- what is left

first_row : (row : Option PlaceRow) (rs : List PlaceRow) → with_row row rs ≡ with_row row [] ++ rs
first_row None rs = refl
first_row (Some row) rs = refl

module _ (graph : List Node) where
  pub rows_pushed : (left : List (List Link)) (links : List Link) → rows_left graph (left ++ links ∷ []) ≡ rows_in graph links ++ rows_left graph left
  rows_pushed [] links = sym (append-nil (rows_in graph links))
  rows_pushed (l ∷ left) links = ap (λ rs. rs ++ rows_in graph l) (rows_pushed left links) ∙ append_assoc (rows_in graph links) (rows_left graph left) (rows_in graph l)

  module _ (all made : List PlaceRow) (left below : List (List Link)) where
    -- where no links are left on top
    pub emptied : (links : List Link) → left ≡ below ++ links ∷ [] → length links < 1 → Makes graph all made left → Makes graph all made below
    emptied (l ∷ links) is none g = absurd (omega arith)
    emptied [] is none g = record {
      rest = ap (λ rs. made ++ rs) (sym (ap (rows_left graph) is ∙ rows_pushed below [])) ∙ g.rest;
      short = g.short;
      ends = (ends_below graph below [] (sym (ap (list_any (is_endless graph)) is) ∙ g.ends)).0;
    }

    pub emptied_steps : (links : List Link) → left ≡ below ++ links ∷ [] → steps_left graph below < steps_left graph left
    emptied_steps links is =
        let e : steps_left graph left ≡ steps_left graph below + suc (fold steps graph links) = ap (steps_left graph) is ∙ steps_pushed graph below links in
        omega arith

    module _ (link : Link) (rest : List Link) (is : left ≡ below ++ (link ∷ rest) ∷ []) (g : Makes graph all made left) where
      ends_rest : (list_any (is_endless graph) below ≡ false) × (is_endless graph (link ∷ rest) ≡ false)
      ends_rest = ends_below graph below (link ∷ rest) (sym (ap (list_any (is_endless graph)) is) ∙ g.ends)

      -- the link that comes next ends
      pub next_ends : goes_on (length graph) graph link ≡ false
      next_ends = (neither (goes_on (length graph) graph link) (is_endless graph rest) ends_rest.1).0

      next_split : all ≡ made ++ (link_rows graph link ++ (rows_in graph rest ++ rows_left graph below))
      next_split =
          sym g.rest
          ∙ ap (λ (rs : List PlaceRow). made ++ rs)
          (ap (rows_left graph) is ∙ rows_pushed below (link ∷ rest) ∙ append_assoc (link_rows graph link) (rows_in graph rest) (rows_left graph below))

      -- and is within the limit
      pub next_short : length (link_rows graph link) ≤ 4096
      next_short =
          let whole : length all ≡ length made + length (link_rows graph link ++ (rows_in graph rest ++ rows_left graph below)) =
          ap length next_split ∙ length-append made (link_rows graph link ++ (rows_in graph rest ++ rows_left graph below)) in
          let more : length (link_rows graph link ++ (rows_in graph rest ++ rows_left graph below)) ≡ length (link_rows graph link) + length (rows_in graph rest ++ rows_left graph below) =
          length-append (link_rows graph link) (rows_in graph rest ++ rows_left graph below) in
          let most : length all ≤ 4096 = g.short in
          omega arith

      module _ (row : Option PlaceRow) (inner : List Link) (o : OpensRow graph link row inner) where
        pub went_steps : steps_left graph ((below ++ rest ∷ []) ++ inner ∷ []) < steps_left graph left
        went_steps =
            let old : steps_left graph left ≡ steps_left graph below + suc (fold steps graph (link ∷ rest)) = ap (steps_left graph) is ∙ steps_pushed graph below (link ∷ rest) in
            let one : steps_left graph (below ++ rest ∷ []) ≡ steps_left graph below + suc (fold steps graph rest) = steps_pushed graph below rest in
            let two : steps_left graph ((below ++ rest ∷ []) ++ inner ∷ []) ≡ steps_left graph (below ++ rest ∷ []) + suc (fold steps graph inner) = steps_pushed graph (below ++ rest ∷ []) inner in
            let whole_is : fold steps graph (link ∷ rest) ≡ of_link steps graph (folded steps (length graph) graph) link + fold steps graph rest + 2 = refl in
            let small : fold steps graph inner ≤ of_link steps graph (folded steps (length graph) graph) link = o.steps in
            omega arith

        left_then : rows_left graph ((below ++ rest ∷ []) ++ inner ∷ []) ≡ rows_in graph inner ++ (rows_in graph rest ++ rows_left graph below)
        left_then = rows_pushed (below ++ rest ∷ []) inner ∙ ap (λ (rs : List PlaceRow). rows_in graph inner ++ rs) (rows_pushed below rest)

        pub went : (now : List PlaceRow) → now ≡ made ++ with_row row [] → Makes graph all now ((below ++ rest ∷ []) ++ inner ∷ [])
        went now is_now =
            let after : List PlaceRow = rows_in graph rest ++ rows_left graph below in
            record {
              rest =
                  ap (λ (rs : List PlaceRow). now ++ rs) left_then
                  ∙ ap (λ (rs : List PlaceRow). rs ++ (rows_in graph inner ++ after)) is_now
                  ∙ append_assoc made (with_row row []) (rows_in graph inner ++ after)
                  ∙ ap (λ (rs : List PlaceRow). made ++ rs) (sym (append_assoc (with_row row []) (rows_in graph inner) after))
                  ∙ ap (λ (rs : List PlaceRow). made ++ (rs ++ after)) (sym (o.rows ∙ first_row row (rows_in graph inner)))
                  ∙ sym next_split;
              short = g.short;
              ends = ends_pushed graph (below ++ rest ∷ []) inner
                  (ends_pushed graph below rest ends_rest.0 (neither (goes_on (length graph) graph link) (is_endless graph rest) ends_rest.1).1) o.ends;
            }

-- ---- the beginning and the end

module _ (graph : List Node) (i : ℕ) where
  -- the rows of all
  abbrev pub whole : List PlaceRow
  whole = rows_in graph (links_at graph i)

  pub begins : (node : Node) → slice_get graph i ≡ Some node → is_endless graph (links_at graph i) ≡ false → is_over_limit graph node ≡ false →
      (made : List PlaceRow) → made ≡ [] → (left : List (List Link)) → left ≡ node.links ∷ [] → Makes graph whole made left
  begins node at ends short made none left first =
      let same : links_at graph i ≡ node.links = ap links_in at in
      let few : length (rows_in graph node.links) ≤ 4096 = few_rows graph node short in
      record {
        rest = ap (λ (rs : List PlaceRow). rs ++ rows_left graph left) none ∙ ap (rows_left graph) first ∙ ap (rows_in graph) (sym same);
        short = subst (λ (ls : List Link). length (rows_in graph ls) ≤ 4096) (sym same) few;
        ends = ap (list_any (is_endless graph)) first ∙ ap (λ (b : Bool). b || false) (ap (is_endless graph) (sym same) ∙ ends);
      }

  pub all_made : (made : List PlaceRow) (left : List (List Link)) → length left ≡ 0 → Makes graph whole made left → made ≡ rows_of (structure_of graph (links_at graph i))
  all_made made [] none g = sym (append-nil made) ∙ g.rest ∙ sym (rows_carried graph (links_at graph i))
  all_made made (links ∷ left) none g = absurd (omega arith)

pub none_left : (items : List (Bor (List Link))) → length items ≡ 0 → length (map (λ (r : Bor (List Link)). r.now) items) ≡ 0
none_left items h = length-map items (λ (r : Bor (List Link)). r.now) ∙ h
