-- Going through a structure, link by link.
use Rattle.std.proofs.Common.{◌≡◌, ℕ, suc, Bool, true, false, List, [], ◌∷◌, ◌++◌, Option, Some, None, length, map, get_or, take, drop, refl, sym, ap, ◌∙◌, arith, ◌+◌, ◌-◌, ◌<◌, ◌≤◌, append_assoc, append-nil, nat_eq, Bor}
use Rattle.std.specs.Prelude.{◌||◌}
use Rattle.std.specs.List.{list_any}
use Rattle.std.proofs.lemmas.Bool.Decides.{nat_tests}
use Rattle.std.proofs.lemmas.List.{take_rest}
use Rattle.reference_graph.specs.declared.graph.Link.{Link}
use Rattle.reference_graph.specs.declared.graph.Link.TheVariants.{Field}
use Rattle.reference_graph.specs.declared.graph.Node.{Node}
use Rattle.reference_graph.specs.Graphs.{of_link, folded, fold, goes_on, is_endless}
use Rattle.reference_graph.specs.Structures.{tags, counted_tags, tags_of, has_twice}
use Rattle.reference_graph.specs.Walking.{steps, tags_left, steps_left, Opens, Inserts, Goes}

-- ---- tags that stand twice

turned : (s t : ℕ) → nat_eq t s ≡ false → nat_eq s t ≡ false
turned s t h = grind (arith, nat_tests, h)

turned_true : (s t : ℕ) → nat_eq t s ≡ true → nat_eq s t ≡ true
turned_true s t h = grind (arith, nat_tests, h)

pub neither : (p q : Bool) → (p || q) ≡ false → (p ≡ false) × (q ≡ false)
neither true q h = cc
neither false q h = (refl, h)

later : (p q : Bool) → q ≡ true → (p || q) ≡ true
later true q h = refl
later false q h = h

stands : (s t : ℕ) (front back : List ℕ) → nat_eq s t ≡ true → list_any (nat_eq s) (front ++ t ∷ back) ≡ true
stands s t [] back h = ap (λ b. b || list_any (nat_eq s) back) h
stands s t (f ∷ front) back h = later (nat_eq s f) (list_any (nat_eq s) (front ++ t ∷ back)) (stands s t front back h)

met_at : (s t : ℕ) (front back : List ℕ) (b : Bool) → b ≡ nat_eq t s → (b || list_any (nat_eq t) front) ≡ true → (list_any (nat_eq t) front ≡ true → has_twice (front ++ t ∷ back) ≡ true) → has_twice (s ∷ (front ++ t ∷ back)) ≡ true
met_at s t front back true is h f = ap (λ b. b || has_twice (front ++ t ∷ back)) (stands s t front back (turned_true s t (sym is)))
met_at s t front back false is h f = later (list_any (nat_eq s) (front ++ t ∷ back)) (has_twice (front ++ t ∷ back)) (f h)

-- a tag that was seen is met again
pub met_again : (t : ℕ) (seen back : List ℕ) → list_any (nat_eq t) seen ≡ true → has_twice (seen ++ t ∷ back) ≡ true
met_again t [] back h = cc
met_again t (s ∷ seen) back h = met_at s t seen back (nat_eq t s) refl h (met_again t seen back)

apart : (s t : ℕ) (front : List ℕ) → list_any (nat_eq s) front ≡ false → nat_eq t s ≡ false → list_any (nat_eq s) (front ++ t ∷ []) ≡ false
apart s t [] h g = ap (λ b. b || false) (turned s t g)
apart s t (f ∷ front) h g =
    let both = neither (nat_eq s f) (list_any (nat_eq s) front) h in
    ap (λ b. b || list_any (nat_eq s) (front ++ t ∷ [])) both.0 ∙ apart s t front both.1 g

-- a tag that is new
pub still_fresh : (t : ℕ) (seen : List ℕ) → has_twice seen ≡ false → list_any (nat_eq t) seen ≡ false → has_twice (seen ++ t ∷ []) ≡ false
still_fresh t [] h g = refl
still_fresh t (s ∷ seen) h g =
    let was = neither (list_any (nat_eq s) seen) (has_twice seen) h in
    let new = neither (nat_eq t s) (list_any (nat_eq t) seen) g in
    ap (λ b. b || has_twice (seen ++ t ∷ [])) (apart s t seen was.0 new.0) ∙ still_fresh t seen was.1 new.1

true_false : ◌≡◌ {A = Bool} true false → ⊥
true_false h = cc

-- ---- what is left

module _ (graph : List Node) where
  pub tags_pushed : (left : List (List Link)) (links : List Link) → tags_left graph (left ++ links ∷ []) ≡ tags_of graph links ++ tags_left graph left
  tags_pushed [] links = sym (append-nil (tags_of graph links))
  tags_pushed (l ∷ left) links = ap (λ ts. ts ++ tags_of graph l) (tags_pushed left links) ∙ append_assoc (tags_of graph links) (tags_left graph left) (tags_of graph l)

  pub steps_pushed : (left : List (List Link)) (links : List Link) → steps_left graph (left ++ links ∷ []) ≡ steps_left graph left + suc (fold steps graph links)
  steps_pushed [] links = refl
  steps_pushed (l ∷ left) links = let e : steps_left graph (left ++ links ∷ []) ≡ steps_left graph left + suc (fold steps graph links) = steps_pushed left links in omega arith

  pub ends_pushed : (left : List (List Link)) (links : List Link) → list_any (is_endless graph) left ≡ false → is_endless graph links ≡ false → list_any (is_endless graph) (left ++ links ∷ []) ≡ false
  ends_pushed [] links h g = ap (λ b. b || false) g
  ends_pushed (l ∷ left) links h g =
      let both = neither (is_endless graph l) (list_any (is_endless graph) left) h in
      ap (λ b. b || list_any (is_endless graph) (left ++ links ∷ [])) both.0 ∙ ends_pushed left links both.1 g

  pub ends_below : (left : List (List Link)) (links : List Link) → list_any (is_endless graph) (left ++ links ∷ []) ≡ false → (list_any (is_endless graph) left ≡ false) × (is_endless graph links ≡ false)
  ends_below [] links h = (refl, (neither (is_endless graph links) false h).0)
  ends_below (l ∷ left) links h =
      let both = neither (is_endless graph l) (list_any (is_endless graph) (left ++ links ∷ [])) h in
      let more = ends_below left links both.1 in
      (ap (λ b. b || list_any (is_endless graph) left) both.0 ∙ more.0, more.1)

  -- the first link of the last ones
  pub record Taken (left below : List (List Link)) (link : Link) (rest : List Link) : Type 0 where
    pub is : left ≡ below ++ (link ∷ rest) ∷ []

  module _ (all seen : List ℕ) (left below : List (List Link)) where
    -- where no links are left on top
    pub emptied : (links : List Link) → left ≡ below ++ links ∷ [] → length links < 1 → Goes graph all seen left → Goes graph all seen below
    emptied (l ∷ links) is none g = absurd (omega arith)
    emptied [] is none g = record {
      fresh = g.fresh;
      rest = ap (λ ts. seen ++ ts) (sym (ap (tags_left graph) is ∙ tags_pushed below [])) ∙ g.rest;
      ends = (ends_below below [] (sym (ap (list_any (is_endless graph)) is) ∙ g.ends)).0;
    }

    pub emptied_steps : (links : List Link) → left ≡ below ++ links ∷ [] → steps_left graph below < steps_left graph left
    emptied_steps links is =
        let e : steps_left graph left ≡ steps_left graph below + suc (fold steps graph links) = ap (steps_left graph) is ∙ steps_pushed below links in
        omega arith

    module _ (link : Link) (rest : List Link) (tag : Option ℕ) (inner : List Link) (is : left ≡ below ++ (link ∷ rest) ∷ []) (o : Opens graph link tag inner) (g : Goes graph all seen left) where
      split : all ≡ seen ++ (counted_tags tag (tags_of graph inner) ++ (tags_of graph rest ++ tags_left graph below))
      split =
          sym g.rest
          ∙ ap (λ (ts : List ℕ). seen ++ ts)
          (ap (tags_left graph) is ∙ tags_pushed below (link ∷ rest)
          ∙ append_assoc (of_link tags graph (folded tags (length graph) graph) link) (tags_of graph rest) (tags_left graph below)
          ∙ ap (λ (ts : List ℕ). ts ++ (tags_of graph rest ++ tags_left graph below)) o.tags)

      ends_rest : (list_any (is_endless graph) below ≡ false) × (is_endless graph rest ≡ false)
      ends_rest =
          let both = ends_below below (link ∷ rest) (sym (ap (list_any (is_endless graph)) is) ∙ g.ends) in
          (both.0, (neither (goes_on (length graph) graph link) (is_endless graph rest) both.1).1)

      -- the link that comes next ends
      pub next_ends : goes_on (length graph) graph link ≡ false
      next_ends = (neither (goes_on (length graph) graph link) (is_endless graph rest) (ends_below below (link ∷ rest) (sym (ap (list_any (is_endless graph)) is) ∙ g.ends)).1).0

      pub went_steps : steps_left graph ((below ++ rest ∷ []) ++ inner ∷ []) < steps_left graph left
      went_steps =
          let old : steps_left graph left ≡ steps_left graph below + suc (fold steps graph (link ∷ rest)) = ap (steps_left graph) is ∙ steps_pushed below (link ∷ rest) in
          let one : steps_left graph (below ++ rest ∷ []) ≡ steps_left graph below + suc (fold steps graph rest) = steps_pushed below rest in
          let two : steps_left graph ((below ++ rest ∷ []) ++ inner ∷ []) ≡ steps_left graph (below ++ rest ∷ []) + suc (fold steps graph inner) = steps_pushed (below ++ rest ∷ []) inner in
          let whole_is : fold steps graph (link ∷ rest) ≡ of_link steps graph (folded steps (length graph) graph) link + fold steps graph rest + 2 = refl in
          let small : fold steps graph inner ≤ of_link steps graph (folded steps (length graph) graph) link = o.steps in
          omega arith

      ends_then : list_any (is_endless graph) ((below ++ rest ∷ []) ++ inner ∷ []) ≡ false
      ends_then = ends_pushed (below ++ rest ∷ []) inner (ends_pushed below rest ends_rest.0 ends_rest.1) o.ends

      left_then : tags_left graph ((below ++ rest ∷ []) ++ inner ∷ []) ≡ tags_of graph inner ++ (tags_of graph rest ++ tags_left graph below)
      left_then = tags_pushed (below ++ rest ∷ []) inner ∙ ap (λ (ts : List ℕ). tags_of graph inner ++ ts) (tags_pushed below rest)

      pub went : (t : Option ℕ) (now : List ℕ) (b : Bool) → t ≡ tag → b ≡ true → Inserts seen t now b → Goes graph all now ((below ++ rest ∷ []) ++ inner ∷ [])
      went None now b same put_in put = record {
        fresh = ap has_twice put.1 ∙ g.fresh;
        rest =
            ap (λ (ts : List ℕ). now ++ ts) left_then
            ∙ ap (λ (ts : List ℕ). ts ++ (tags_of graph inner ++ (tags_of graph rest ++ tags_left graph below))) put.1
            ∙ sym (split ∙ ap (λ (o : Option ℕ). seen ++ (counted_tags o (tags_of graph inner) ++ (tags_of graph rest ++ tags_left graph below))) (sym same));
        ends = ends_then;
      }
      went (Some t) now false same put_in put = cc
      went (Some t) now true same put_in put = record {
        fresh = ap has_twice put.1 ∙ still_fresh t seen g.fresh put.0;
        rest =
            ap (λ (ts : List ℕ). now ++ ts) left_then
            ∙ ap (λ (ts : List ℕ). ts ++ (tags_of graph inner ++ (tags_of graph rest ++ tags_left graph below))) put.1
            ∙ append_assoc seen (t ∷ []) (tags_of graph inner ++ (tags_of graph rest ++ tags_left graph below))
            ∙ sym (split ∙ ap (λ (o : Option ℕ). seen ++ (counted_tags o (tags_of graph inner) ++ (tags_of graph rest ++ tags_left graph below))) (sym same));
        ends = ends_then;
      }

      pub met : (t : Option ℕ) (now : List ℕ) (b : Bool) → t ≡ tag → b ≡ false → Inserts seen t now b → has_twice all ≡ true
      met None now b same there put = absurd (true_false (sym put.0 ∙ there))
      met (Some t) now true same there put = cc
      met (Some t) now false same there put =
          ap has_twice (split ∙ ap (λ (o : Option ℕ). seen ++ (counted_tags o (tags_of graph inner) ++ (tags_of graph rest ++ tags_left graph below))) (sym same))
          ∙ met_again t seen (tags_of graph inner ++ (tags_of graph rest ++ tags_left graph below)) put.0

-- ---- slices that are left

pub seen_push : (below : List (Bor (List Link))) (s : Bor (List Link)) → map (λ (r : Bor (List Link)). r.now) (below ++ s ∷ []) ≡ map (λ (r : Bor (List Link)). r.now) below ++ s.now ∷ []
seen_push [] s = refl
seen_push (r ∷ below) s = ap (λ ls. r.now ∷ ls) (seen_push below s)

pub seen_pushed : (items below : List (Bor (List Link))) (s : Bor (List Link)) → items ≡ below ++ s ∷ [] → map (λ (r : Bor (List Link)). r.now) items ≡ map (λ (r : Bor (List Link)). r.now) below ++ s.now ∷ []
seen_pushed items below s h = ap (map (λ (r : Bor (List Link)). r.now)) h ∙ seen_push below s

pub first_and_rest : (links : List Link) → 1 ≤ length links → links ≡ get_or links 0 (Field 0) ∷ take (length links - 1) (drop 1 links)
first_and_rest [] h = absurd (omega arith)
first_and_rest (l ∷ links) h = ap (λ (ls : List Link). l ∷ ls) (sym (take_rest (l ∷ links) 1))

pub taken : (items below : List (Bor (List Link))) (s : Bor (List Link)) (rest : List Link) → items ≡ below ++ s ∷ [] → s.now ≡ get_or s.now 0 (Field 0) ∷ rest →
    map (λ (r : Bor (List Link)). r.now) items ≡ map (λ (r : Bor (List Link)). r.now) below ++ (get_or s.now 0 (Field 0) ∷ rest) ∷ []
taken items below s rest h is = seen_pushed items below s h ∙ ap (λ (ls : List Link). map (λ (r : Bor (List Link)). r.now) below ++ ls ∷ []) is
