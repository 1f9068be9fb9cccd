-- Passes over nodes, whose tags go by numbers.
use Rattle.std.proofs.Common.{◌≡◌, ◌⊎◌, inl, inr, ⊎_elim, ℕ, zero, suc, Bool, true, false, List, [], ◌∷◌, ◌++◌, Option, Some, None, length, set, replicate, map, refl, sym, ap, ◌∙◌, subst, arith, ◌+◌, ◌-◌, ◌<◌, ◌≤◌, nat_eq, nat_lt, append_assoc, append-nil, length-set}
use Rattle.std.specs.Prelude.{slice_get, if◌then◌else◌, option_map, unwrap_or, position}
use Rattle.std.specs.Int.RustNames.{bit_and, bit_or}
use Rattle.std.proofs.lemmas.Bool.Decides.{nat_tests}
use Rattle.std.proofs.lemmas.List.{map-append}
use Rattle.std.proofs.lemmas.Option.{same_Some, none-some}
use Rattle.reference_graph.specs.declared.graph.Link.{Link}
use Rattle.reference_graph.specs.declared.graph.Link.TheVariants.{Field, To}
use Rattle.reference_graph.specs.declared.graph.Node.{Node}
use Rattle.reference_graph.specs.Graphs.{of_node, of_link, of_links, folded}
use Rattle.reference_graph.specs.Structures.{tags, counted_tags, tags_of, is_ambiguous}
use Rattle.reference_graph.specs.Numbering.{number_by, number_of, numbered_link, numbered_node}
use Rattle.reference_graph.specs.Marking.{mark, count_mark, entry_word, link_word, with_word, links_word, node_word, times, one_if, IsMarked, numbers_at, AreMarked, Passed, AreClear, AreDistinct}
use Rattle.reference_graph.proofs.Marks.{marks_none, marks_one, marks_both, marks_front, mark_above, none_twice, times_append}
use Rattle.reference_graph.proofs.Settling.{beyond, not_within}
use Rattle.reference_graph.proofs.Rounds.{got_set}

below_or : (n m : ℕ) → (n < m) ⊎ (m ≤ n)
below_or n zero = inr (omega arith)
below_or zero (suc m) = inl (omega arith)
below_or (suc n) (suc m) = ⊎_elim (λ lt. inl (omega (arith, lt))) (λ le. inr (omega (arith, le))) (below_or n m)

differ : (n m : ℕ) → m < n → nat_eq n m ≡ false
differ n m h = grind (arith, nat_tests, h)

-- ---- what words tell of a node is so

module _ (graph : List Node) (first : ℕ) (words : List (Option ℕ)) (long : length words ≡ length graph) (marked : AreMarked graph first words) (k : ℕ) where
  abbrev numbers_of : Link → List ℕ
  numbers_of = of_link tags graph (folded tags k graph)

  to_marked : (i word : ℕ) (o : Option (Option ℕ)) → slice_get words i ≡ o → entry_word o ≡ Some word → IsMarked first word (numbers_of (To i))
  to_marked i word None is h =
      let past : slice_get graph i ≡ None = beyond graph i (omega (arith, long, not_within words i is)) in
      subst (IsMarked first word) (sym (ap (of_node tags (folded tags k graph)) past)) (marks_none first word)
  to_marked i word (Some found) is h = marked i word k (is ∙ ap Some h)

  link_marked : (l : Link) (word : ℕ) → link_word words first l ≡ Some word → IsMarked first word (numbers_of l)
  link_marked (Field n) word h = subst (λ w. IsMarked first w (n ∷ [])) (same_Some (mark first n) word h) (marks_one first n)
  link_marked (To i) word h = to_marked i word (slice_get words i) refl h

  abbrev Goes : List Link → Type 0
  Goes ls = (all total : ℕ) (front : List ℕ) → IsMarked first all front → links_word words first all ls ≡ Some total → IsMarked first total (front ++ of_links tags numbers_of ls)

  no_bit : (n : ℕ) → nat_eq n 0 ≡ true → n ≡ 0
  no_bit n h = grind (arith, nat_tests, h)

  shared : (l : Link) (ls : List Link) → Goes ls → (all total : ℕ) (front : List ℕ) → IsMarked first all front → (word : ℕ) → link_word words first l ≡ Some word →
      (b : Bool) → nat_eq (bit_and all word) 0 ≡ b → (if b then links_word words first (bit_or all word) ls else None) ≡ Some total →
      IsMarked first total (front ++ (numbers_of l ++ of_links tags numbers_of ls))
  shared l ls more all total front m word is true none g =
      subst (IsMarked first total) (append_assoc front (numbers_of l) (of_links tags numbers_of ls))
      (more (bit_or all word) total (front ++ numbers_of l) (marks_both first all word front (numbers_of l) m (link_marked l word is) (no_bit (bit_and all word) none)) g)
  shared l ls more all total front m word is false none g = absurd (none-some total g)

  one_more : (l : Link) (ls : List Link) → Goes ls → (all total : ℕ) (front : List ℕ) → IsMarked first all front → (o : Option ℕ) → link_word words first l ≡ o →
      with_word (λ both. links_word words first both ls) all o ≡ Some total → IsMarked first total (front ++ (numbers_of l ++ of_links tags numbers_of ls))
  one_more l ls more all total front m None is h = absurd (none-some total h)
  one_more l ls more all total front m (Some word) is h = shared l ls more all total front m word is (nat_eq (bit_and all word) 0) refl h

  links_marked : (ls : List Link) → Goes ls
  links_marked [] all total front m h = subst (IsMarked first total) (sym (append-nil front)) (subst (λ w. IsMarked first w front) (same_Some all total h) m)
  links_marked (l ∷ ls) all total front m h = one_more l ls (links_marked ls) all total front m (link_word words first l) refl h

  count_marked : (count : Option ℕ) → IsMarked first (count_mark first count) (counted_tags count [])
  count_marked None = marks_none first 0
  count_marked (Some n) = marks_one first n

  pub marked_with : (node : Node) (word : ℕ) → node_word words first node ≡ Some word → IsMarked first word (counted_tags node.count [] ++ of_links tags numbers_of node.links)
  marked_with node word h = links_marked node.links (count_mark first node.count) word (counted_tags node.count []) (count_marked node.count) h

counted_front : (count : Option ℕ) (inner : List ℕ) → counted_tags count [] ++ inner ≡ counted_tags count inner
counted_front None inner = refl
counted_front (Some n) inner = refl

module _ (graph : List Node) (first : ℕ) (words : List (Option ℕ)) (long : length words ≡ length graph) (marked : AreMarked graph first words) where
  by_names : (node : Node) (word : ℕ) → node_word words first node ≡ Some word → (k : ℕ) → IsMarked first word (of_node tags (folded tags k graph) (Some node))
  by_names node word h zero = marks_front first word (counted_tags node.count []) (of_links tags (of_link tags graph (folded tags zero graph)) node.links) (marked_with graph first words long marked zero node word h)
  by_names node word h (suc k) =
      subst (IsMarked first word) (counted_front node.count (of_links tags (of_link tags graph (folded tags k graph)) node.links)) (marked_with graph first words long marked k node word h)

  node_marked : (i : ℕ) (node : Node) (word k : ℕ) → slice_get graph i ≡ Some node → node_word words first node ≡ Some word → IsMarked first word (numbers_at k graph i)
  node_marked i node word k at h = subst (IsMarked first word) (sym (ap (of_node tags (folded tags k graph)) at)) (by_names node word h k)

-- ---- a pass

module _ (graph : List Node) (first : ℕ) (before : List (Option ℕ)) where
  none_there : (n i word : ℕ) → slice_get (replicate n None) i ≡ Some (Some word) → ⊥
  none_there zero i word h = none-some (Some word) h
  none_there (suc n) zero word h = none-some word (same_Some None (Some word) h)
  none_there (suc n) (suc i) word h = none_there n i word h

  -- nothing was gone over yet
  pub passed_none : (words : List (Option ℕ)) → words ≡ replicate (length graph) None → length words ≡ length graph → Passed graph first before words
  passed_none words is long = record {
    long = long;
    marked = λ i word k h. absurd (none_there (length graph) i word (subst (λ (ws : List (Option ℕ)). slice_get ws i ≡ Some (Some word)) is h));
    also = λ i word h. absurd (none_there (length graph) i word (subst (λ (ws : List (Option ℕ)). slice_get ws i ≡ Some (Some word)) is h));
  }

  -- one node more
  pub passed_one : (words : List (Option ℕ)) (i : ℕ) (node : Node) (told : Option ℕ) (other : ℕ) → slice_get graph i ≡ Some node → slice_get before i ≡ Some (Some other) →
      node_word words first node ≡ told → Passed graph first before words → Passed graph first before (set words i told)
  passed_one words i node told other at was is p = record {
    long = length-set words i told ∙ p.long;
    marked = λ j word k h. ⊎_elim
        (λ e. subst (λ n. IsMarked first word (numbers_at k graph n)) (sym e.0) (node_marked graph first words p.long p.marked i node word k at (is ∙ e.1)))
        (λ g. p.marked j word k g)
        (got_set words i j told (Some word) h);
    also = λ j word h. ⊎_elim
        (λ e. (other, subst (λ n. slice_get before n ≡ Some (Some other)) (sym e.0) was))
        (λ g. p.also j word g)
        (got_set words i j told (Some word) h);
  }

-- before any pass
pub clear_none : (graph : List Node) (words : List (Option ℕ)) → length words ≡ length graph → AreClear graph 0 words
clear_none graph words long = record { long = long; clear = λ i word k n h below. absurd (omega (arith, below)) }

module _ (graph : List Node) (first : ℕ) (before after : List (Option ℕ)) (c : AreClear graph first before) (p : Passed graph first before after) where
  by_pass : (i word k n : ℕ) → slice_get after i ≡ Some (Some word) → n < first + 128 → (n < first) ⊎ (first ≤ n) → times n (numbers_at k graph i) ≤ 1
  by_pass i word k n h below = ⊎_elim
      (λ lt. let was : (other : ℕ) × (slice_get before i ≡ Some (Some other)) = p.also i word h in c.clear i was.0 k n was.1 lt)
      (λ le. let m : IsMarked first word (numbers_at k graph i) = p.marked i word k h in m.once n (mark_above first n le below))

  either : (n : ℕ) → (n < first) ⊎ (first ≤ n)
  either n = below_or n first

  -- after one pass more
  pub clear_more : AreClear graph (first + 128) after
  clear_more = record { long = p.long; clear = λ i word k n h below. by_pass i word k n h below (either n) }

pub clear_below : (graph : List Node) (first last : ℕ) (words : List (Option ℕ)) → last ≤ first → AreClear graph first words → AreClear graph last words
clear_below graph first last words le c = record { long = c.long; clear = λ i word k n h below. c.clear i word k n h (omega (arith, below, le)) }

-- ---- from numbers to tags

module _ (last : ℕ) (all : List ℕ) (graph : List Node) where
  abbrev number : ℕ → ℕ
  number = number_of last all

  abbrev numbered : List Node
  numbered = map (numbered_node last all) graph

  node_at : (ns : List Node) (i : ℕ) → slice_get (map (numbered_node last all) ns) i ≡ option_map (numbered_node last all) (slice_get ns i)
  node_at [] i = refl
  node_at (n ∷ ns) zero = refl
  node_at (n ∷ ns) (suc i) = node_at ns i

  counted : (count : Option ℕ) (ts : List ℕ) → counted_tags (option_map number count) (map number ts) ≡ map number (counted_tags count ts)
  counted None ts = refl
  counted (Some t) ts = refl

  module _ (f g : List Link → List ℕ) (same : (ls : List Link) → f (map (numbered_link last all) ls) ≡ map number (g ls)) where
    by_node : (o : Option Node) → of_node tags f (option_map (numbered_node last all) o) ≡ map number (of_node tags g o)
    by_node None = refl
    by_node (Some node) = ap (counted_tags (option_map number node.count)) (same node.links) ∙ counted node.count (g node.links)

    by_link : (l : Link) → of_link tags numbered f (numbered_link last all l) ≡ map number (of_link tags graph g l)
    by_link (Field t) = refl
    by_link (To i) = ap (of_node tags f) (node_at graph i) ∙ by_node (slice_get graph i)

    by_links : (ls : List Link) → of_links tags (of_link tags numbered f) (map (numbered_link last all) ls) ≡ map number (of_links tags (of_link tags graph g) ls)
    by_links [] = refl
    by_links (l ∷ ls) =
        ap (λ ts. ts ++ of_links tags (of_link tags numbered f) (map (numbered_link last all) ls)) (by_link l)
        ∙ ap (λ ts. map number (of_link tags graph g l) ++ ts) (by_links ls)
        ∙ sym (map-append number (of_link tags graph g l) (of_links tags (of_link tags graph g) ls))

  -- the numbers of a structure are those of its tags
  pub numbers_are : (k : ℕ) (ls : List Link) → folded tags k numbered (map (numbered_link last all) ls) ≡ map number (folded tags k graph ls)
  numbers_are zero ls = refl
  numbers_are (suc k) ls = by_links (folded tags k numbered) (folded tags k graph) (numbers_are k) ls

  long_as : (ns : List Node) → length (map (numbered_node last all) ns) ≡ length ns
  long_as [] = refl
  long_as (n ∷ ns) = ap suc (long_as ns)

  rest_times : (n : ℕ) (count : Option ℕ) (ts : List ℕ) → times n ts ≤ times n (counted_tags count ts)
  rest_times n None ts = omega arith
  rest_times n (Some t) ts = omega arith

  test_within : (i : ℕ) (b : Bool) → nat_lt i last ≡ b → (if b then i + 1 else 0) < last + 1
  test_within i true is = grind (arith, nat_tests, is)
  test_within i false is = omega arith

  place_within : (o : Option ℕ) → number_by last o < last + 1
  place_within None = omega arith
  place_within (Some i) = test_within i (nat_lt i last) refl

  number_within : (t : ℕ) → number t < last + 1
  number_within t = place_within (position (nat_eq t) all)

  none_past : (n : ℕ) (ts : List ℕ) → last < n → times n (map number ts) ≡ 0
  none_past n [] h = refl
  none_past n (t ∷ ts) h =
      let no : nat_eq n (number t) ≡ false = differ n (number t) (omega (arith, h, number_within t)) in
      ap (λ b. one_if b + times n (map number ts)) no ∙ omega (arith, none_past n ts h)

  module _ (words : List (Option ℕ)) (c : AreClear numbered (last + 1) words) (i word : ℕ) (node : Node) (h : slice_get words i ≡ Some (Some word)) (at : slice_get graph i ≡ Some node) where
    abbrev its : List ℕ
    its = tags_of graph node.links

    there : numbers_at (suc (length graph)) numbered i ≡ counted_tags (option_map number node.count) (map number its)
    there =
        ap (of_node tags (folded tags (suc (length graph)) numbered)) (node_at graph i ∙ ap (option_map (numbered_node last all)) at)
        ∙ ap (counted_tags (option_map number node.count)) (numbers_are (suc (length graph)) node.links)

    low : (n : ℕ) → n < last + 1 → times n (map number its) ≤ 1
    low n lt =
        let most : times n (counted_tags (option_map number node.count) (map number its)) ≤ 1 = subst (λ ns. times n ns ≤ 1) there (c.clear i word (suc (length graph)) n h lt) in
        omega (arith, most, rest_times n (option_map number node.count) (map number its))

    each : (n : ℕ) → (n < last + 1) ⊎ (last + 1 ≤ n) → times n (map number its) ≤ 1
    each n = ⊎_elim (λ lt. low n lt) (λ le. omega (arith, none_past n its (omega (arith, le))))

    pub not_twice : is_ambiguous graph node.links ≡ false
    not_twice = none_twice number its (λ n. each n (below_or n (last + 1)))

  -- what has no number twice has no tag twice
  pub distinct_by : (words : List (Option ℕ)) → AreClear numbered (last + 1) words → AreDistinct graph words
  distinct_by words c = record { long = c.long ∙ long_as graph; distinct = λ i word node h at. not_twice words c i word node h at }
