-- Going through a structure, each node once.
use Rattle.std.proofs.Common.{◌≡◌, ◌⊎◌, inl, inr, ⊎_elim, ℕ, zero, suc, Bool, true, false, List, [], ◌∷◌, ◌++◌, Option, Some, None, length, set, replicate, refl, sym, ap, ◌∙◌, subst, arith, ◌+◌, ◌<◌, ◌≤◌, nat_eq, length-set, map, Bor}
use Rattle.std.specs.Prelude.{slice_get, ◌||◌}
use Rattle.std.specs.List.{list_any}
use Rattle.std.proofs.lemmas.Bool.Decides.{nat_tests}
use Rattle.std.proofs.lemmas.Option.{same_Some, slice_get_within, none-some}
use Rattle.reference_graph.specs.declared.graph.Link.{Link}
use Rattle.reference_graph.specs.declared.graph.Link.TheVariants.{Field, To}
use Rattle.reference_graph.specs.declared.graph.Node.{Node}
use Rattle.reference_graph.specs.Graphs.{of_node, of_link, of_links, folded, fold, goes_on, is_endless}
use Rattle.reference_graph.specs.Structures.{tags, counted_tags, tags_of}
use Rattle.reference_graph.specs.Walking.{steps, tags_left, steps_left, Opens, Inserts}
use Rattle.reference_graph.proofs.Rounds.{got_set}
use Rattle.reference_graph.proofs.Opening.{opens_node}
use Rattle.reference_graph.proofs.Walking.{neither, tags_pushed, steps_pushed, ends_pushed, ends_below}
use Rattle.structure_tags.specs.Reaching.{is_in, HasTags, Enters, a_field, passes, goes_in, LinkIn, IsLeft, IsMet}

-- ---- tags in lists

either_way : (p q : Bool) → (p || q) ≡ true → (p ≡ true) ⊎ (q ≡ true)
either_way true q h = inl refl
either_way false q h = inr h

first_one : (p q : Bool) → p ≡ true → (p || q) ≡ true
first_one p q h = ap (λ b. b || q) h

second_one : (p q : Bool) → q ≡ true → (p || q) ≡ true
second_one true q h = refl
second_one false q h = h

alone : (p : Bool) → (p || false) ≡ true → p ≡ true
alone true h = refl
alone false h = h

both_ways : (p q : Bool) → (p ≡ true → q ≡ true) → (q ≡ true → p ≡ true) → p ≡ q
both_ways true q f g = sym (f refl)
both_ways false true f g = g refl
both_ways false false f g = refl

same_tag : (s t : ℕ) → nat_eq s t ≡ true → s ≡ t
same_tag s t h = grind (arith, nat_tests, h)

itself : (t : ℕ) → nat_eq t t ≡ true
itself t = grind (arith, nat_tests)

in_one : (t : ℕ) (front back : List ℕ) → is_in t (front ++ back) ≡ true → (is_in t front ≡ true) ⊎ (is_in t back ≡ true)
in_one t [] back h = inr h
in_one t (f ∷ front) back h =
    ⊎_elim (λ a. inl (first_one (nat_eq t f) (is_in t front) a))
    (λ b. ⊎_elim (λ x. inl (second_one (nat_eq t f) (is_in t front) x)) (λ y. inr y) (in_one t front back b))
    (either_way (nat_eq t f) (is_in t (front ++ back)) h)

in_front : (t : ℕ) (front back : List ℕ) → is_in t front ≡ true → is_in t (front ++ back) ≡ true
in_front t [] back h = cc
in_front t (f ∷ front) back h =
    ⊎_elim (λ a. first_one (nat_eq t f) (is_in t (front ++ back)) a)
    (λ b. second_one (nat_eq t f) (is_in t (front ++ back)) (in_front t front back b))
    (either_way (nat_eq t f) (is_in t front) h)

in_back : (t : ℕ) (front back : List ℕ) → is_in t back ≡ true → is_in t (front ++ back) ≡ true
in_back t [] back h = h
in_back t (f ∷ front) back h = second_one (nat_eq t f) (is_in t (front ++ back)) (in_back t front back h)

in_counted : (t : ℕ) (count : Option ℕ) (inner : List ℕ) → is_in t (counted_tags count inner) ≡ true → (count ≡ Some t) ⊎ (is_in t inner ≡ true)
in_counted t None inner h = inr h
in_counted t (Some s) inner h = ⊎_elim (λ a. inl (ap Some (sym (same_tag t s a)))) (λ b. inr b) (either_way (nat_eq t s) (is_in t inner) h)

counted_has : (t : ℕ) (count : Option ℕ) (inner : List ℕ) → count ≡ Some t → is_in t (counted_tags count inner) ≡ true
counted_has t None inner h = cc
counted_has t (Some s) inner h = first_one (nat_eq t s) (is_in t inner) (ap (nat_eq t) (same_Some s t h) ∙ itself t)

counted_inner : (t : ℕ) (count : Option ℕ) (inner : List ℕ) → is_in t inner ≡ true → is_in t (counted_tags count inner) ≡ true
counted_inner t None inner h = h
counted_inner t (Some s) inner h = second_one (nat_eq t s) (is_in t inner) h

nothing_in : (t : ℕ) → is_in t [] ≡ true → ⊥
nothing_in t h = cc

-- ---- a tag that is put into the set

module _ (old now : List ℕ) where
  kept : (o : Option ℕ) (b : Bool) → Inserts old o now b → (s : ℕ) → is_in s old ≡ true → is_in s now ≡ true
  kept None b put s h = ap (is_in s) put.1 ∙ h
  kept (Some t) true put s h = ap (is_in s) put.1 ∙ in_front s old (t ∷ []) h
  kept (Some t) false put s h = ap (is_in s) put.1 ∙ h

  held : (o : Option ℕ) (t : ℕ) (b : Bool) → Inserts old o now b → o ≡ Some t → is_in t now ≡ true
  held None t b put h = cc
  held (Some s) t true put h =
      ap (is_in t) put.1 ∙ in_back t old (s ∷ []) (first_one (nat_eq t s) false (ap (nat_eq t) (same_Some s t h) ∙ itself t))
  held (Some s) t false put h = ap (is_in t) put.1 ∙ (ap (λ n. is_in n old) (sym (same_Some s t h)) ∙ put.0)

  only : (o : Option ℕ) (b : Bool) → Inserts old o now b → (s : ℕ) → is_in s now ≡ true → (is_in s old ≡ true) ⊎ (o ≡ Some s)
  only None b put s h = inl (sym (ap (is_in s) put.1) ∙ h)
  only (Some t) false put s h = inl (sym (ap (is_in s) put.1) ∙ h)
  only (Some t) true put s h =
      ⊎_elim (λ a. inl a) (λ e. inr (ap Some (sym (same_tag s t (alone (nat_eq s t) e))))) (in_one s old (t ∷ []) (sym (ap (is_in s) put.1) ∙ h))

-- ---- links that are left

left_push : (l : Link) (left : List (List Link)) (links : List Link) → LinkIn l links → IsLeft l (left ++ links ∷ [])
left_push l [] links h = inl h
left_push l (x ∷ left) links h = inr (left_push l left links h)

left_keep : (l : Link) (left : List (List Link)) (links : List Link) → IsLeft l left → IsLeft l (left ++ links ∷ [])
left_keep l [] links h = absurd h
left_keep l (x ∷ left) links h = ⊎_elim (λ a. inl a) (λ b. inr (left_keep l left links b)) h

left_pop : (l : Link) (left : List (List Link)) (links : List Link) → IsLeft l (left ++ links ∷ []) → IsLeft l left ⊎ LinkIn l links
left_pop l [] links h = ⊎_elim (λ a. inr a) (λ b. absurd b) h
left_pop l (x ∷ left) links h = ⊎_elim (λ a. inl (inl a)) (λ b. ⊎_elim (λ c. inl (inr c)) (λ d. inr d) (left_pop l left links b)) h

-- ---- nodes that were entered

set_there : (xs : List Bool) (i : ℕ) → i < length xs → slice_get (set xs i true) i ≡ Some true
set_there [] i h = absurd (omega arith)
set_there (x ∷ xs) zero h = refl
set_there (x ∷ xs) (suc i) h = set_there xs i (omega arith)

set_keeps : (xs : List Bool) (i j : ℕ) → slice_get xs j ≡ Some true → slice_get (set xs i true) j ≡ Some true
set_keeps [] i j h = h
set_keeps (x ∷ xs) zero zero h = refl
set_keeps (x ∷ xs) zero (suc j) h = h
set_keeps (x ∷ xs) (suc i) zero h = h
set_keeps (x ∷ xs) (suc i) (suc j) h = set_keeps xs i j h

long_replicate : (n : ℕ) → length (replicate n false) ≡ n
long_replicate zero = refl
long_replicate (suc n) = ap suc (long_replicate n)

none_entered : (n i : ℕ) → slice_get (replicate n false) i ≡ Some true → ⊥
none_entered zero i h = cc
none_entered (suc n) zero h = cc
none_entered (suc n) (suc i) h = none_entered n i h

-- the node at a place was entered just now
pub record IsFresh (graph : List Node) (i : ℕ) (count : Option ℕ) (inner : List Link) : Type 0 where
  pub node : Node
  pub at : slice_get graph i ≡ Some node
  pub counts : count ≡ node.count
  pub links : inner ≡ node.links

module _ (graph : List Node) (old new : List Bool) (link : Link) (count : Option ℕ) (inner : List Link) where
  as_long : Enters graph old link new count inner → length new ≡ length old
  as_long (a_field tag is c i n) = ap length n
  as_long (passes k is was c i n) = ap length n
  as_long (goes_in k node is at c i n) = ap length n ∙ length-set old k true

  entry_kept : Enters graph old link new count inner → (j : ℕ) → slice_get old j ≡ Some true → slice_get new j ≡ Some true
  entry_kept (a_field tag is c i n) j h = ap (λ v. slice_get v j) n ∙ h
  entry_kept (passes k is was c i n) j h = ap (λ v. slice_get v j) n ∙ h
  entry_kept (goes_in k node is at c i n) j h = ap (λ v. slice_get v j) n ∙ set_keeps old k j h

  entry_new : Enters graph old link new count inner → (j : ℕ) → slice_get new j ≡ Some true → (slice_get old j ≡ Some true) ⊎ IsFresh graph j count inner
  entry_new (a_field tag is c i n) j h = inl (sym (ap (λ v. slice_get v j) n) ∙ h)
  entry_new (passes k is was c i n) j h = inl (sym (ap (λ v. slice_get v j) n) ∙ h)
  entry_new (goes_in k node is at c i n) j h =
      ⊎_elim
      (λ p. inr (record { node = node; at = ap (slice_get graph) p.0 ∙ at; counts = c; links = i }))
      (λ g. inl g)
      (got_set old k j true true (sym (ap (λ v. slice_get v j) n) ∙ h))

  -- what a link leads to is part of its structure
  pub record IsPart : Type 0 where
    pub tags : (t : ℕ) → is_in t (counted_tags count (tags_of graph inner)) ≡ true → is_in t (of_link tags graph (folded tags (length graph) graph) link) ≡ true
    pub ends : is_endless graph inner ≡ false
    pub steps : fold steps graph inner ≤ of_link steps graph (folded steps (length graph) graph) link

  module _ (link_ends : goes_on (length graph) graph link ≡ false) where
    to_field : (tag : ℕ) → link ≡ Field tag → count ≡ Some tag → inner ≡ [] → IsPart
    to_field tag is c i = record {
      tags = λ t h. ap (λ l. is_in t (of_link tags graph (folded tags (length graph) graph) l)) is ∙ (sym (ap (λ o. is_in t (counted_tags o [])) c) ∙ (sym (ap (λ ls. is_in t (counted_tags count (tags_of graph ls))) i) ∙ h));
      ends = ap (is_endless graph) i;
      steps = subst (λ ls. fold steps graph ls ≤ of_link steps graph (folded steps (length graph) graph) link) (sym i) (omega arith);
    }

    to_nothing : count ≡ None → inner ≡ [] → IsPart
    to_nothing c i = record {
      tags = λ t h. absurd (nothing_in t (sym (ap (λ o. is_in t (counted_tags o [])) c) ∙ (sym (ap (λ ls. is_in t (counted_tags count (tags_of graph ls))) i) ∙ h)));
      ends = ap (is_endless graph) i;
      steps = subst (λ ls. fold steps graph ls ≤ of_link steps graph (folded steps (length graph) graph) link) (sym i) (omega arith);
    }

    opened : Opens graph link count inner → IsPart
    opened o = record { tags = λ t h. ap (is_in t) o.tags ∙ h; ends = o.ends; steps = o.steps }

    to_node : (i : ℕ) (node : Node) → link ≡ To i → slice_get graph i ≡ Some node → count ≡ node.count → inner ≡ node.links → IsPart
    to_node i node is at c ls =
        opened
        (subst (λ l. Opens graph l count inner) (sym is)
        (subst (λ o. Opens graph (To i) o inner) (sym c)
        (subst (Opens graph (To i) node.count) (sym ls)
        (opens_node graph i (subst (λ l. goes_on (length graph) graph l ≡ false) is link_ends) node at))))

    part : Enters graph old link new count inner → IsPart
    part (a_field tag is c i n) = to_field tag is c i
    part (passes k is was c i n) = to_nothing c i
    part (goes_in k node is at c i n) = to_node k node is at c i

  module _ (ts now : List ℕ) (b : Bool) (put : Inserts ts count now b) (long : length old ≡ length graph) where
    met_here : Enters graph old link new count inner → IsMet graph new now link
    met_here (a_field tag is c i n) = subst (IsMet graph new now) (sym is) (held ts now count tag b put c)
    met_here (passes k is was c i n) = subst (IsMet graph new now) (sym is) (⊎_elim (λ a. inl a) (λ e. inr (ap (λ v. slice_get v k) n ∙ e)) was)
    met_here (goes_in k node is at c i n) =
        let lt : k < length graph = slice_get_within graph k node at in
        subst (IsMet graph new now) (sym is) (inr (ap (λ v. slice_get v k) n ∙ set_there old k (omega arith)))

    met_still : Enters graph old link new count inner → (l : Link) → IsMet graph old ts l → IsMet graph new now l
    met_still e (Field tag) m = kept ts now count b put tag m
    met_still e (To j) m = ⊎_elim (λ a. inl a) (λ h. inr (entry_kept e j h)) m

-- ---- what is left to go through

-- what was found is part of the structure, as is what is left; what was entered was met, or is left
pub record Goes (graph : List Node) (start : List Link) (entries : List Bool) (ts : List ℕ) (left : List (List Link)) : Type 0 where
  pub long : length entries ≡ length graph
  pub ends : list_any (is_endless graph) left ≡ false
  pub found : (t : ℕ) → is_in t ts ≡ true → is_in t (tags_of graph start) ≡ true
  pub ahead : (t : ℕ) → is_in t (tags_left graph left) ≡ true → is_in t (tags_of graph start) ≡ true
  pub counts : (i : ℕ) (node : Node) (t : ℕ) → slice_get entries i ≡ Some true → slice_get graph i ≡ Some node → node.count ≡ Some t → is_in t ts ≡ true
  pub inside : (i : ℕ) (node : Node) (l : Link) → slice_get entries i ≡ Some true → slice_get graph i ≡ Some node → LinkIn l node.links → IsMet graph entries ts l ⊎ IsLeft l left
  pub begun : (l : Link) → LinkIn l start → IsMet graph entries ts l ⊎ IsLeft l left

module _ (graph : List Node) (start : List Link) where
  first : (entries : List Bool) → entries ≡ replicate (length graph) false → is_endless graph start ≡ false → Goes graph start entries [] (start ∷ [])
  first entries is ends = record {
    long = ap length is ∙ long_replicate (length graph);
    ends = ap (λ b. b || false) ends;
    found = λ t h. absurd (nothing_in t h);
    ahead = λ t h. h;
    counts = λ i node t x at c. absurd (none_entered (length graph) i (sym (ap (λ v. slice_get v i) is) ∙ x));
    inside = λ i node l x at m. absurd (none_entered (length graph) i (sym (ap (λ v. slice_get v i) is) ∙ x));
    begun = λ l m. inr (inl m);
  }

  pub goes_first : (entries : List Bool) (ts : List ℕ) (left : List (List Link)) → entries ≡ replicate (length graph) false → ts ≡ [] → left ≡ start ∷ [] →
      is_endless graph start ≡ false → Goes graph start entries ts left
  goes_first entries ts left is none one ends =
      subst (λ (x : List ℕ). Goes graph start entries x left) (sym none) (subst (Goes graph start entries []) (sym one) (first entries is ends))

  module _ (old : List Bool) (ts : List ℕ) (left below : List (List Link)) (g : Goes graph start old ts left) where
    below_or_none : (l : Link) (links : List Link) → left ≡ below ++ links ∷ [] → links ≡ [] → IsMet graph old ts l ⊎ IsLeft l left → IsMet graph old ts l ⊎ IsLeft l below
    below_or_none l links is none h =
        ⊎_elim (λ m. inl m)
        (λ f. ⊎_elim (λ x. inr x) (λ y. absurd (subst (LinkIn l) none y)) (left_pop l below links (subst (IsLeft l) is f)))
        h

    -- where no links are left on top
    emptied_by : (links : List Link) → left ≡ below ++ links ∷ [] → links ≡ [] → Goes graph start old ts below
    emptied_by links is none = record {
      long = g.long;
      ends = (ends_below graph below links (sym (ap (list_any (is_endless graph)) is) ∙ g.ends)).0;
      found = g.found;
      ahead = λ t h. g.ahead t (ap (λ ls. is_in t (tags_left graph ls)) is ∙ (ap (is_in t) (tags_pushed graph below links) ∙ in_back t (tags_of graph links) (tags_left graph below) h));
      counts = g.counts;
      inside = λ i node l x at m. below_or_none l links is none (g.inside i node l x at m);
      begun = λ l m. below_or_none l links is none (g.begun l m);
    }

    pub emptied : (links : List Link) → left ≡ below ++ links ∷ [] → length links < 1 → Goes graph start old ts below
    emptied [] is few = emptied_by [] is refl
    emptied (l ∷ links) is few = absurd (omega arith)

    pub emptied_steps : (links : List Link) → left ≡ below ++ links ∷ [] → steps_left graph below < steps_left graph left
    emptied_steps links is =
        let e : steps_left graph left ≡ steps_left graph below + suc (fold steps graph links) = ap (steps_left graph) is ∙ steps_pushed graph below links in
        omega arith

    module _ (link : Link) (rest : List Link) (is : left ≡ below ++ (link ∷ rest) ∷ []) where
      below_ends : (list_any (is_endless graph) below ≡ false) × (is_endless graph (link ∷ rest) ≡ false)
      below_ends = ends_below graph below (link ∷ rest) (sym (ap (list_any (is_endless graph)) is) ∙ g.ends)

      next_ends : (goes_on (length graph) graph link ≡ false) × (is_endless graph rest ≡ false)
      next_ends = neither (goes_on (length graph) graph link) (is_endless graph rest) below_ends.1

      module _ (new : List Bool) (now : List ℕ) (count : Option ℕ) (inner : List Link) (b : Bool) (e : Enters graph old link new count inner) (put : Inserts ts count now b) where
        abbrev onward : List (List Link)
        onward = (below ++ rest ∷ []) ++ inner ∷ []

        what : IsPart graph old new link count inner
        what = part graph old new link count inner next_ends.0 e

        pub went_steps : steps_left graph onward < steps_left graph left
        went_steps =
            let old : steps_left graph left ≡ steps_left graph below + suc (fold steps graph (link ∷ rest)) = ap (steps_left graph) is ∙ steps_pushed graph below (link ∷ rest) in
            let one : steps_left graph (below ++ rest ∷ []) ≡ steps_left graph below + suc (fold steps graph rest) = steps_pushed graph below rest in
            let two : steps_left graph onward ≡ steps_left graph (below ++ rest ∷ []) + suc (fold steps graph inner) = steps_pushed graph (below ++ rest ∷ []) inner in
            let whole_is : fold steps graph (link ∷ rest) ≡ of_link steps graph (folded steps (length graph) graph) link + fold steps graph rest + 2 = refl in
            let small : fold steps graph inner ≤ of_link steps graph (folded steps (length graph) graph) link = what.steps in
            omega arith

        later : (l : Link) → IsMet graph old ts l ⊎ IsLeft l left → IsMet graph new now l ⊎ IsLeft l onward
        later l h =
            ⊎_elim (λ m. inl (met_still graph old new link count inner ts now b put g.long e l m))
            (λ f. ⊎_elim
            (λ x. inr (left_keep l (below ++ rest ∷ []) inner (left_keep l below rest x)))
            (λ y. ⊎_elim
            (λ q. inl (subst (IsMet graph new now) q (met_here graph old new link count inner ts now b put g.long e)))
            (λ r. inr (left_keep l (below ++ rest ∷ []) inner (left_push l below rest r)))
            y)
            (left_pop l below (link ∷ rest) (subst (IsLeft l) is f)))
            h

        -- the tags of what a link leads to are left, before
        part_left : (t : ℕ) → is_in t (of_link tags graph (folded tags (length graph) graph) link) ≡ true → is_in t (tags_of graph start) ≡ true
        part_left t h =
            g.ahead t
            (ap (λ ls. is_in t (tags_left graph ls)) is
            ∙ (ap (is_in t) (tags_pushed graph below (link ∷ rest))
            ∙ in_front t (tags_of graph (link ∷ rest)) (tags_left graph below)
            (in_front t (of_link tags graph (folded tags (length graph) graph) link) (tags_of graph rest) h)))

        rest_left : (t : ℕ) → is_in t (tags_of graph rest) ≡ true → is_in t (tags_of graph start) ≡ true
        rest_left t h =
            g.ahead t
            (ap (λ ls. is_in t (tags_left graph ls)) is
            ∙ (ap (is_in t) (tags_pushed graph below (link ∷ rest))
            ∙ in_front t (tags_of graph (link ∷ rest)) (tags_left graph below)
            (in_back t (of_link tags graph (folded tags (length graph) graph) link) (tags_of graph rest) h)))

        below_left : (t : ℕ) → is_in t (tags_left graph below) ≡ true → is_in t (tags_of graph start) ≡ true
        below_left t h =
            g.ahead t
            (ap (λ ls. is_in t (tags_left graph ls)) is
            ∙ (ap (is_in t) (tags_pushed graph below (link ∷ rest)) ∙ in_back t (tags_of graph (link ∷ rest)) (tags_left graph below) h))

        then_left : (t : ℕ) → is_in t (tags_left graph onward) ≡ true → is_in t (tags_of graph start) ≡ true
        then_left t h =
            ⊎_elim
            (λ a. part_left t (what.tags t (counted_inner t count (tags_of graph inner) a)))
            (λ m. ⊎_elim (λ x. rest_left t x) (λ y. below_left t y)
            (in_one t (tags_of graph rest) (tags_left graph below) (sym (ap (is_in t) (tags_pushed graph below rest)) ∙ m)))
            (in_one t (tags_of graph inner) (tags_left graph (below ++ rest ∷ [])) (sym (ap (is_in t) (tags_pushed graph (below ++ rest ∷ []) inner)) ∙ h))

        same_node : (i : ℕ) (node : Node) (f : IsFresh graph i count inner) → slice_get graph i ≡ Some node → f.node ≡ node
        same_node i node f at = same_Some f.node node (sym f.at ∙ at)

        counts_then : (i : ℕ) (node : Node) (t : ℕ) → slice_get new i ≡ Some true → slice_get graph i ≡ Some node → node.count ≡ Some t → is_in t now ≡ true
        counts_then i node t x at c =
            ⊎_elim
            (λ o. kept ts now count b put t (g.counts i node t o at c))
            (λ (f : IsFresh graph i count inner). held ts now count t b put (f.counts ∙ (ap (λ (n : Node). n.count) (same_node i node f at) ∙ c)))
            (entry_new graph old new link count inner e i x)

        inside_then : (i : ℕ) (node : Node) (l : Link) → slice_get new i ≡ Some true → slice_get graph i ≡ Some node → LinkIn l node.links → IsMet graph new now l ⊎ IsLeft l onward
        inside_then i node l x at m =
            ⊎_elim
            (λ o. later l (g.inside i node l o at m))
            (λ (f : IsFresh graph i count inner). inr (left_push l (below ++ rest ∷ []) inner (subst (LinkIn l) (sym (f.links ∙ ap (λ (n : Node). n.links) (same_node i node f at))) m)))
            (entry_new graph old new link count inner e i x)

        pub went : Goes graph start new now onward
        went = record {
          long = as_long graph old new link count inner e ∙ g.long;
          ends = ends_pushed graph (below ++ rest ∷ []) inner (ends_pushed graph below rest below_ends.0 next_ends.1) what.ends;
          found = λ t h. ⊎_elim (λ a. g.found t a) (λ c. part_left t (what.tags t (counted_has t count (tags_of graph inner) c))) (only ts now count b put t h);
          ahead = then_left;
          counts = counts_then;
          inside = inside_then;
          begun = λ l m. later l (g.begun l m);
        }

  -- ---- nothing is left

  module _ (entries : List Bool) (ts : List ℕ) (left : List (List Link)) (none : left ≡ []) (g : Goes graph start entries ts left) where
    met_of : (l : Link) → IsMet graph entries ts l ⊎ IsLeft l left → IsMet graph entries ts l
    met_of l h = ⊎_elim (λ m. m) (λ f. absurd (subst (IsLeft l) none f)) h

    module _ (t : ℕ) where
      at_node : (i : ℕ) (inner : List Link → List ℕ) → ((ls : List Link) → ((l : Link) → LinkIn l ls → IsMet graph entries ts l) → is_in t (inner ls) ≡ true → is_in t ts ≡ true) →
          (o : Option Node) → slice_get graph i ≡ o → IsMet graph entries ts (To i) → is_in t (of_node tags inner o) ≡ true → is_in t ts ≡ true
      at_node i inner more None is m h = absurd (nothing_in t h)
      at_node i inner more (Some node) is m h =
          ⊎_elim
          (λ no_node. absurd (none-some node (sym no_node ∙ is)))
          (λ x. ⊎_elim
          (λ c. g.counts i node t x is c)
          (λ a. more node.links (λ l lin. met_of l (g.inside i node l x is lin)) a)
          (in_counted t node.count (inner node.links) h))
          m

      of_one : (inner : List Link → List ℕ) → ((ls : List Link) → ((l : Link) → LinkIn l ls → IsMet graph entries ts l) → is_in t (inner ls) ≡ true → is_in t ts ≡ true) →
          (l : Link) → IsMet graph entries ts l → is_in t (of_link tags graph inner l) ≡ true → is_in t ts ≡ true
      of_one inner more (Field tag) m h = ap (λ n. is_in n ts) (same_tag t tag (alone (nat_eq t tag) h)) ∙ m
      of_one inner more (To i) m h = at_node i inner more (slice_get graph i) refl m h

      of_each : (one : Link → List ℕ) → ((l : Link) → IsMet graph entries ts l → is_in t (one l) ≡ true → is_in t ts ≡ true) →
          (ls : List Link) → ((l : Link) → LinkIn l ls → IsMet graph entries ts l) → is_in t (of_links tags one ls) ≡ true → is_in t ts ≡ true
      of_each one has [] f h = absurd (nothing_in t h)
      of_each one has (l ∷ ls) f h =
          ⊎_elim (λ a. has l (f l (inl refl)) a) (λ b. of_each one has ls (λ x lin. f x (inr lin)) b) (in_one t (one l) (of_links tags one ls) h)

      through : (n : ℕ) (ls : List Link) → ((l : Link) → LinkIn l ls → IsMet graph entries ts l) → is_in t (folded tags n graph ls) ≡ true → is_in t ts ≡ true
      through zero ls f h = absurd (nothing_in t h)
      through (suc n) ls f h = of_each (of_link tags graph (folded tags n graph)) (of_one (folded tags n graph) (through n)) ls f h

    pub has_tags : HasTags graph start ts
    has_tags t = both_ways (is_in t ts) (is_in t (tags_of graph start)) (g.found t) (through t (suc (length graph)) start (λ l m. met_of l (g.begun l m)))

pub none_left : (items : List (Bor (List Link))) → length items ≡ 0 → map (λ (s : Bor (List Link)). s.now) items ≡ []
none_left [] h = refl
none_left (s ∷ items) h = absurd (omega arith)
