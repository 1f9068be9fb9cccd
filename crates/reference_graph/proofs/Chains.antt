-- Chains of references that end: through more names nothing else is folded.
use Rattle.std.proofs.Common.{◌≡◌, ℕ, zero, suc, Bool, true, false, List, [], ◌∷◌, Option, Some, None, refl, sym, ap, ◌∙◌, arith, ◌+◌, ◌≤◌, ◌-◌}
use Rattle.std.specs.Prelude.{slice_get, is_some, ◌||◌}
use Rattle.std.specs.List.{list_any}
use Rattle.reference_graph.specs.declared.graph.Link.{Link}
use Rattle.reference_graph.specs.declared.graph.Link.TheVariants.{Field, To}
use Rattle.reference_graph.specs.declared.graph.Node.{Node}
use Rattle.reference_graph.specs.Graphs.{Fold, of_node, of_link, of_links, folded, links_in, links_at, links_after, goes_on}

neither : (p q : Bool) → (p || q) ≡ false → (p ≡ false) × (q ≡ false)
neither true q h = cc
neither false q h = (refl, h)

pub head_ends : (p : Link → Bool) (l : Link) (ls : List Link) → list_any p (l ∷ ls) ≡ false → p l ≡ false
head_ends p l ls h = (neither (p l) (list_any p ls) h).0

pub rest_ends : (p : Link → Bool) (l : Link) (ls : List Link) → list_any p (l ∷ ls) ≡ false → list_any p ls ≡ false
rest_ends p l ls h = (neither (p l) (list_any p ls) h).1

pub none_of : (p q : Link → Bool) → ((l : Link) → p l ≡ false → q l ≡ false) → (ls : List Link) → list_any p ls ≡ false → list_any q ls ≡ false
none_of p q f [] h = refl
none_of p q f (l ∷ ls) h =
    let one : q l ≡ false = f l (head_ends p l ls h) in
    let more : list_any q ls ≡ false = none_of p q f ls (rest_ends p l ls h) in
    ap (λ b. b || list_any q ls) one ∙ more

-- ---- a chain that has at most so many nodes has at most one more

nowhere : (graph : List Node) (i : ℕ) (o : Option Node) → o ≡ slice_get graph i → is_some o ≡ false → list_any (goes_on zero graph) (links_in o) ≡ false
nowhere graph i None is h = refl
nowhere graph i (Some node) is h = cc

pub ends_later : (k : ℕ) (graph : List Node) (l : Link) → goes_on k graph l ≡ false → goes_on (suc k) graph l ≡ false
ends_later zero graph (Field tag) h = refl
ends_later zero graph (To i) h = nowhere graph i (slice_get graph i) refl h
ends_later (suc k) graph l h = none_of (goes_on k graph) (goes_on (suc k) graph) (ends_later k graph) (links_after graph l) h

pub ends_by : (j k : ℕ) (graph : List Node) (l : Link) → goes_on k graph l ≡ false → goes_on (j + k) graph l ≡ false
ends_by zero k graph l h = let e : 0 + k ≡ k = omega arith in ap (λ n. goes_on n graph l) e ∙ h
ends_by (suc j) k graph l h =
    let e : suc j + k ≡ suc (j + k) = omega arith in
    ap (λ n. goes_on n graph l) e ∙ ends_later (j + k) graph l (ends_by j k graph l h)

pub ends_within : (k n : ℕ) (graph : List Node) (l : Link) → k ≤ n → goes_on k graph l ≡ false → goes_on n graph l ≡ false
ends_within k n graph l below h = let e : n - k + k ≡ n = omega arith in sym (ap (λ m. goes_on m graph l) e) ∙ ends_by (n - k) k graph l h

-- ---- what is folded through one name more

module _ {X : Type 0} (R : Fold X) (graph : List Node) where
  pub same_links : (p : Link → Bool) (one two : Link → X) → ((l : Link) → p l ≡ false → one l ≡ two l) → (ls : List Link) → list_any p ls ≡ false → of_links R one ls ≡ of_links R two ls
  same_links p one two f [] h = refl
  same_links p one two f (l ∷ ls) h =
      ap (λ x. R.join x (of_links R one ls)) (f l (head_ends p l ls h)) ∙ ap (R.join (two l)) (same_links p one two f ls (rest_ends p l ls h))

  unled : (one two : List Link → X) (o : Option Node) → is_some o ≡ false → of_node R one o ≡ of_node R two o
  unled one two None h = refl
  unled one two (Some node) h = cc

  within : (one two : List Link → X) (o : Option Node) → one (links_in o) ≡ two (links_in o) → of_node R one o ≡ of_node R two o
  within one two None h = refl
  within one two (Some node) h = ap (R.node node.count) h

  -- through one name more the same is folded
  pub one_more : (k : ℕ) (l : Link) → goes_on k graph l ≡ false → of_link R graph (folded R (suc k) graph) l ≡ of_link R graph (folded R k graph) l
  one_more zero (Field tag) h = refl
  one_more zero (To i) h = unled (folded R (suc zero) graph) (folded R zero graph) (slice_get graph i) h
  one_more (suc k) (Field tag) h = refl
  one_more (suc k) (To i) h =
      within (folded R (suc (suc k)) graph) (folded R (suc k) graph) (slice_get graph i)
      (same_links (goes_on k graph) (of_link R graph (folded R (suc k) graph)) (of_link R graph (folded R k graph)) (one_more k) (links_at graph i) h)

  pub many_more : (j k : ℕ) (l : Link) → goes_on k graph l ≡ false → of_link R graph (folded R (j + k) graph) l ≡ of_link R graph (folded R k graph) l
  many_more zero k l h = let e : 0 + k ≡ k = omega arith in ap (λ n. of_link R graph (folded R n graph) l) e
  many_more (suc j) k l h =
      let e : suc j + k ≡ suc (j + k) = omega arith in
      ap (λ n. of_link R graph (folded R n graph) l) e ∙ one_more (j + k) l (ends_by j k graph l h) ∙ many_more j k l h

  -- where no chain has more than k nodes, k names are enough
  pub enough : (k n : ℕ) (l : Link) → k ≤ n → goes_on k graph l ≡ false → of_link R graph (folded R n graph) l ≡ of_link R graph (folded R k graph) l
  enough k n l below h = let e : n - k + k ≡ n = omega arith in sym (ap (λ m. of_link R graph (folded R m graph) l) e) ∙ many_more (n - k) k l h

  -- the same for links
  pub enough_links : (k n : ℕ) (ls : List Link) → k ≤ n → list_any (goes_on k graph) ls ≡ false → folded R (suc n) graph ls ≡ folded R (suc k) graph ls
  enough_links k n ls below h = same_links (goes_on k graph) (of_link R graph (folded R n graph)) (of_link R graph (folded R k graph)) (λ l. enough k n l below) ls h
