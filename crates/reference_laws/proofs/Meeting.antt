-- Endless references are those that come to a node twice.
use Rattle.std.proofs.Common.{◌≡◌, ℕ, zero, suc, ◌<◌, ◌≤◌, Bool, true, false, List, [], ◌∷◌, ◌++◌, length, Option, Some, None, refl, sym, ap, ◌∙◌, subst, arith}
use Rattle.std.specs.Prelude.{◌||◌, nat_eq, slice_get, is_some}
use Rattle.std.specs.List.{list_any, IsDistinct, AllByRecursion}
use Rattle.std.proofs.lemmas.Map.Steps.{length-le_from_distinct_below}
use Rattle.std.proofs.lemmas.Bool.Decides.{nat_tests}
use Rattle.reference_graph.specs.declared.graph.Link.{Link}
use Rattle.reference_graph.specs.declared.graph.Link.TheVariants.{Field, To}
use Rattle.reference_graph.specs.declared.graph.Node.{Node}
use Rattle.reference_graph.specs.Graphs.{links_in, goes_on, is_endless}
use Rattle.reference_laws.specs.Cycles.{leads_to, IsChain, comes_twice, MeetsTwice}

-- ---- tests

or_left : (a b : Bool) → a ≡ true → (a || b) ≡ true
or_left true b h = refl
or_left false b h = cc

or_right : (a b : Bool) → b ≡ true → (a || b) ≡ true
or_right true b h = refl
or_right false b h = h

or_to : {P : Type 0} (a b : Bool) → (a || b) ≡ true → (a ≡ true → P) → (b ≡ true → P) → P
or_to true b h f g = f refl
or_to false b h f g = g h

by_test : {P : Type 0} (b : Bool) → (b ≡ true → P) → (b ≡ false → P) → P
by_test true f g = f refl
by_test false f g = g refl

same_number : (i : ℕ) → nat_eq i i ≡ true
same_number i = grind (arith, nat_tests)

-- ---- links of which something holds

-- some link leads to a node of which it holds
Leads : (Link → Bool) → List Link → Type 0
Leads p links = (i : ℕ) × (list_any (leads_to i) links ≡ true) × (p (To i) ≡ true)

found : (p : Link → Bool) → ((tag : ℕ) → p (Field tag) ≡ false) → (links : List Link) → list_any p links ≡ true → Leads p links
unfolding Leads
found p none [] h = cc
found p none (Field tag ∷ ls) h = found p none ls (sym (ap (λ b. b || list_any p ls) (none tag)) ∙ h)
found p none (To j ∷ ls) h =
    or_to (p (To j)) (list_any p ls) h
    (λ e. (j, or_left (nat_eq j j) (list_any (leads_to j) ls) (same_number j), e))
    (λ e. let more = found p none ls e in (more.0, or_right (nat_eq more.0 j) (list_any (leads_to more.0) ls) more.1, more.2))

one_of : (p : Link → Bool) (i : ℕ) (links : List Link) → list_any (leads_to i) links ≡ true → p (To i) ≡ true → list_any p links ≡ true
one_of p i [] h is = cc
one_of p i (Field tag ∷ ls) h is = or_right (p (Field tag)) (list_any p ls) (one_of p i ls h is)
one_of p i (To j ∷ ls) h is =
    or_to (nat_eq i j) (list_any (leads_to i) ls) h
    (λ e. let same : i ≡ j = grind (arith, nat_tests) in or_left (p (To j)) (list_any p ls) (ap (λ k. p (To k)) (sym same) ∙ is))
    (λ e. or_right (p (To j)) (list_any p ls) (one_of p i ls e is))

-- ---- endless references have chains of any length

there : (o : Option Node) → is_some o ≡ true → (node : Node) × (o ≡ Some node)
there None h = cc
there (Some node) h = (node, refl)

on_from : (p : Link → Bool) (o : Option Node) → list_any p (links_in o) ≡ true → (node : Node) × (o ≡ Some node) × (list_any p node.links ≡ true)
on_from p None h = cc
on_from p (Some node) h = (node, refl, h)

no_field : (n : ℕ) (graph : List Node) (tag : ℕ) → goes_on n graph (Field tag) ≡ false
no_field zero graph tag = refl
no_field (suc n) graph tag = refl

chain_of : (graph : List Node) (n : ℕ) (links : List Link) → list_any (goes_on n graph) links ≡ true → (ks : List ℕ) × IsChain graph links ks × (length ks ≡ suc n)
unfolding Leads
chain_of graph zero links h =
    let l = found (goes_on zero graph) (no_field zero graph) links h in
    let t = there (slice_get graph l.0) l.2 in
    (l.0 ∷ [], (t.0, l.1, t.1, tt), refl)
chain_of graph (suc n) links h =
    let l = found (goes_on (suc n) graph) (no_field (suc n) graph) links h in
    let t = on_from (goes_on n graph) (slice_get graph l.0) l.2 in
    let more = chain_of graph n t.0.links t.2 in
    (l.0 ∷ more.0, (t.0, l.1, t.1, more.1), ap suc more.2)

-- ---- more nodes than there are: one comes twice

below : (graph : List Node) (k : ℕ) (node : Node) → slice_get graph k ≡ Some node → k < length graph
below [] k node h = cc
below (x ∷ xs) zero node h = omega arith
below (x ∷ xs) (suc k) node h = let e = below xs k node h in omega (arith, e)

chain_below : (graph : List Node) (links : List Link) (ks : List ℕ) → IsChain graph links ks → (q : ℕ) → list_any (nat_eq q) ks ≡ true → q < length graph
chain_below graph links [] chain q h = cc
chain_below graph links (k ∷ ks) chain q h =
    or_to (nat_eq q k) (list_any (nat_eq q) ks) h
    (λ e. let lt = below graph k chain.0 chain.2 in grind (arith, nat_tests))
    (chain_below graph chain.0.links ks chain.3 q)

none_same : (k : ℕ) (ks : List ℕ) → list_any (nat_eq k) ks ≡ false → AllByRecursion (λ q. nat_eq k q ≡ false) ks
none_same k [] h = tt
none_same k (q ∷ ks) h =
    by_test (nat_eq k q) (λ e. cc) (λ e. (e, none_same k ks (sym (ap (λ b. b || list_any (nat_eq k) ks) e) ∙ h)))

distinct : (ks : List ℕ) → comes_twice ks ≡ false → IsDistinct nat_eq ks
unfolding IsDistinct
distinct [] h = tt
distinct (k ∷ ks) h =
    by_test (list_any (nat_eq k) ks) (λ e. cc) (λ e. (none_same k ks e, distinct ks (sym (ap (λ b. b || comes_twice ks) e) ∙ h)))

too_many : (graph : List Node) (links : List Link) (ks : List ℕ) → IsChain graph links ks → length graph < length ks → comes_twice ks ≡ true
too_many graph links ks chain many =
    by_test (comes_twice ks) (λ e. e) (λ e.
    let few : length ks ≤ length graph = length-le_from_distinct_below ks (length graph) (distinct ks e) (chain_below graph links ks chain) in
    absurd (omega (arith, few, many)))

pub meets : (graph : List Node) (links : List Link) → is_endless graph links ≡ true → MeetsTwice graph links
meets graph links h =
    let more = chain_of graph (length graph) links h in
    let many : length graph < length more.0 = omega (arith, more.2) in
    (more.0, more.1, too_many graph links more.0 more.1 many)

-- ---- a node that comes twice makes references endless

same_node : (o : Option Node) (c d : Node) → o ≡ Some c → o ≡ Some d → c ≡ d
same_node o c d h e = cc

module _ (graph : List Node) where
  goes_from : (n k : ℕ) (node : Node) → slice_get graph k ≡ Some node → ((m : ℕ) → list_any (goes_on m graph) node.links ≡ true) → goes_on n graph (To k) ≡ true
  goes_from zero k node at h = ap is_some at
  goes_from (suc n) k node at h = ap (λ (o : Option Node). list_any (goes_on n graph) (links_in o)) at ∙ h n

  -- a chain that leads to a node from which a chain leads back to it
  loops : (k : ℕ) (c : Node) (round : List ℕ) → slice_get graph k ≡ Some c → IsChain graph c.links (round ++ k ∷ []) →
      (n : ℕ) (links : List Link) (ks : List ℕ) → IsChain graph links (ks ++ k ∷ []) → list_any (goes_on n graph) links ≡ true
  loops k c round at back zero links [] chain = one_of (goes_on zero graph) k links chain.1 (ap is_some chain.2)
  loops k c round at back zero links (j ∷ ks) chain = one_of (goes_on zero graph) j links chain.1 (ap is_some chain.2)
  loops k c round at back (suc n) links [] chain =
      one_of (goes_on (suc n) graph) k links chain.1
      (ap (λ (o : Option Node). list_any (goes_on n graph) (links_in o)) chain.2
      ∙ subst (λ (x : Node). list_any (goes_on n graph) x.links ≡ true) (same_node (slice_get graph k) c chain.0 at chain.2) (loops k c round at back n c.links round back))
  loops k c round at back (suc n) links (j ∷ ks) chain =
      one_of (goes_on (suc n) graph) j links chain.1
      (ap (λ (o : Option Node). list_any (goes_on n graph) (links_in o)) chain.2 ∙ loops k c round at back n chain.0.links ks chain.3)

  -- the part of a chain that leads to k
  leads : (k : ℕ) (links : List Link) (ks : List ℕ) → IsChain graph links ks → list_any (nat_eq k) ks ≡ true → (round : List ℕ) × IsChain graph links (round ++ k ∷ [])
  leads k links [] chain h = cc
  leads k links (j ∷ ks) chain h =
      by_test (nat_eq k j)
      (λ e. let same : j ≡ k = grind (arith, nat_tests) in ([], subst (λ i. IsChain graph links (i ∷ [])) same (chain.0, chain.1, chain.2, tt)))
      (λ e. let more = leads k chain.0.links ks chain.3 (sym (ap (λ b. b || list_any (nat_eq k) ks) e) ∙ h) in (j ∷ more.0, (chain.0, chain.1, chain.2, more.1)))

  goes_always : (links : List Link) (ks : List ℕ) → IsChain graph links ks → comes_twice ks ≡ true → (n : ℕ) → list_any (goes_on n graph) links ≡ true
  goes_always links [] chain twice n = cc
  goes_always links (k ∷ ks) chain twice n =
      or_to (list_any (nat_eq k) ks) (comes_twice ks) twice
      (λ h. let back = leads k chain.0.links ks chain.3 h in loops k chain.0 back.0 chain.2 back.1 n links [] (chain.0, chain.1, chain.2, tt))
      (λ h. one_of (goes_on n graph) k links chain.1 (goes_from n k chain.0 chain.2 (goes_always chain.0.links ks chain.3 h)))

  pub ends_not : (links : List Link) → MeetsTwice graph links → is_endless graph links ≡ true
  ends_not links twice = goes_always links twice.0 twice.1 twice.2 (length graph)
