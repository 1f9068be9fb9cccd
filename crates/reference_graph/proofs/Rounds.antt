-- Rounds of learning: what was learned stays, and where nothing is to be learned all is known that can be.
use Rattle.std.proofs.Common.{◌≡◌, ◌⊎◌, inl, inr, ⊎_elim, ℕ, zero, suc, Bool, true, false, List, [], ◌∷◌, Option, Some, None, length, set, replicate, min, refl, sym, ap, ◌∙◌, subst, arith, ◌+◌, ◌<◌, ◌≤◌, length-set, eq-or-lt_of_le, le_of_suc-le-suc}
use Rattle.std.specs.Prelude.{slice_get, is_some, ◌||◌, option_map, option_and_then, if◌then◌else◌}
use Rattle.std.specs.List.{list_any}
use Rattle.std.proofs.lemmas.Option.{same_Some, slice_get_within, none-some}
use Rattle.reference_graph.specs.declared.graph.Link.{Link}
use Rattle.reference_graph.specs.declared.graph.Link.TheVariants.{Field, To}
use Rattle.reference_graph.specs.declared.graph.Node.{Node}
use Rattle.reference_graph.specs.declared.extent.Extent.{Extent}
use Rattle.reference_graph.specs.declared.extent.TheConstants.{PLACE_LIMIT, DEPTH_LIMIT, EMPTY, ONE_FIELD}
use Rattle.reference_graph.specs.Graphs.{of_node, links_in, goes_on, is_endless}
use Rattle.reference_graph.specs.Structures.{tags, depth, counted_tags, counted_depth, tags_of, depth_of}
use Rattle.reference_graph.specs.Learning.{extent_of, extent_of_both, entry_extent, looked_up, links_extent, counted_extent, node_extent, Learned, IsStuck, IsSettled, IsSound, Keeps, Passes, final_extent, HasExtents, known}
use Rattle.reference_graph.proofs.Chains.{ends_within, enough}
use Rattle.reference_graph.proofs.Settling.{settled, node_settled, settled_later}

-- ---- how many are known

pub known_set : (table : List (Option Extent)) (i : ℕ) (extent : Extent) → slice_get table i ≡ Some None → known (set table i (Some extent)) ≡ suc (known table)
known_set [] i extent h = cc
known_set (None ∷ os) zero extent h = refl
known_set (Some f ∷ os) zero extent h = absurd (none-some f (sym (same_Some (Some f) None h)))
known_set (None ∷ os) (suc i) extent h = known_set os i extent h
known_set (Some f ∷ os) (suc i) extent h = ap suc (known_set os i extent h)

pub known_within : (table : List (Option Extent)) → known table ≤ length table
known_within [] = omega arith
known_within (None ∷ os) = omega (arith, known_within os)
known_within (Some f ∷ os) = omega (arith, known_within os)

none_known : (n : ℕ) → known (replicate n None) ≡ 0
none_known zero = refl
none_known (suc n) = none_known n

-- what stands in a list of which one item was set
pub got_set : {X : Type 0} (xs : List X) (i j : ℕ) (x y : X) → slice_get (set xs i x) j ≡ Some y → ((j ≡ i) × (x ≡ y)) ⊎ (slice_get xs j ≡ Some y)
got_set [] i j x y h = inr h
got_set (z ∷ xs) zero zero x y h = inl (refl, same_Some x y h)
got_set (z ∷ xs) zero (suc j) x y h = inr h
got_set (z ∷ xs) (suc i) zero x y h = inr h
got_set (z ∷ xs) (suc i) (suc j) x y h = ⊎_elim (λ p. inl (ap suc p.0, p.1)) (λ g. inr g) (got_set xs i j x y h)

-- ---- one node more

pub last : (i j : ℕ) → j < suc i → (j < i) ⊎ (j ≡ i)
last i j h = elim (eq-or-lt_of_le (le_of_suc-le-suc h)) [ inl e ↦ inr e | inr lt ↦ inl lt ]

module _ (graph : List Node) where
  pub sound_more : (old : List (Option Extent)) (i : ℕ) (extent : Extent) (node : Node) → length old ≡ length graph → IsSound graph old → slice_get old i ≡ Some None →
      slice_get graph i ≡ Some node → node_extent old node ≡ Some extent → IsSound graph (set old i (Some extent))
  sound_more old i extent node long sound free at is j f h =
      let k : ℕ = known old in
      let one : IsSettled (suc k) graph (To i) extent = node_settled graph old k (settled graph old long sound) i node extent at is in
      subst (λ n. IsSettled n graph (To j) f) (sym (known_set old i extent free))
      (⊎_elim
      (λ p. subst (λ n. IsSettled (suc k) graph (To n) f) (sym p.0) (subst (IsSettled (suc k) graph (To i)) (same_Some extent f p.1) one))
      (λ g. settled_later graph k (To j) f (sound j f g))
      (got_set old i j (Some extent) (Some f) h))

  pub begun : (old : List (Option Extent)) → length old ≡ length graph → Passes graph old 0 old false
  begun old long = record {
    long = long;
    sound = λ s. s;
    grows = omega arith;
    more = λ e. cc;
    same = λ e. refl;
    stuck = λ e i node below. absurd (omega arith);
  }

  -- a node of which something was learned
  pub learned_one : (old mid new : List (Option Extent)) (i : ℕ) (before : Bool) → Passes graph old i mid before → Learned graph i mid new true → Passes graph old (i + 1) new true
  learned_one old mid new i before p l =
      let extent : Extent = l.0 in
      let node : Node = l.1 in
      let free : slice_get mid i ≡ Some None = l.2 in
      let at : slice_get graph i ≡ Some node = l.3 in
      let is : node_extent mid node ≡ Some extent = l.4 in
      let made : new ≡ set mid i (Some extent) = l.5 in
      let count : known new ≡ suc (known mid) = ap known made ∙ known_set mid i extent free in
      let grows : known old ≤ known mid = p.grows in
      record {
        long = ap length made ∙ length-set mid i (Some extent) ∙ p.long;
        sound = λ s. subst (IsSound graph) (sym made) (sound_more mid i extent node p.long (p.sound s) free at is);
        grows = omega arith;
        more = λ e. omega arith;
        same = λ e. cc;
        stuck = λ e. cc;
      }

  further : (old mid : List (Option Extent)) (i j : ℕ) (node : Node) → mid ≡ old → IsStuck graph old i → ((n : Node) → slice_get graph i ≡ Some n → slice_get mid i ≡ Some None → node_extent mid n ≡ None) →
      j < suc i → slice_get graph j ≡ Some node → slice_get old j ≡ Some None → node_extent old node ≡ None
  further old mid i j node same stuck here below at free =
      ⊎_elim
      (λ lt. stuck j node lt at free)
      (λ e. subst (λ table. slice_get table i ≡ Some None → node_extent table node ≡ None) same (here node (subst (λ n. slice_get graph n ≡ Some node) e at)) (subst (λ n. slice_get old n ≡ Some None) e free))
      (last i j below)

  -- a node of which nothing was learned
  pub learned_none : (old mid new : List (Option Extent)) (i : ℕ) (before : Bool) → Passes graph old i mid before → Learned graph i mid new false → Passes graph old (i + 1) new before
  learned_none old mid new i before p l =
      subst (λ table. Passes graph old (i + 1) table before) (sym l.0)
      (record {
        long = p.long;
        sound = p.sound;
        grows = p.grows;
        more = p.more;
        same = p.same;
        stuck = λ e j node below at free. further old mid i j node (p.same e) (p.stuck e) l.1 (omega arith) at free;
      })

-- ---- where nothing is to be learned

either : (p q : Bool) → q ≡ true → (p || q) ≡ true
either true q h = refl
either false q h = h

unknown_first : (table : List (Option Extent)) (p : Link → Bool) → ((l : Link) → looked_up table l ≡ None → p l ≡ true) → (l : Link) (ls : List Link) (all : Extent) →
    ((new : Extent) → links_extent table new ls ≡ None → list_any p ls ≡ true) →
    (o : Option Extent) → looked_up table l ≡ o → option_and_then (λ (f : Extent). links_extent table (extent_of_both all f) ls) o ≡ None → (p l || list_any p ls) ≡ true
unknown_first table p f l ls all more None is h = ap (λ b. b || list_any p ls) (f l is)
unknown_first table p f l ls all more (Some extent) is h = either (p l) (list_any p ls) (more (extent_of_both all extent) h)

-- some link is one of which nothing is known
unknown : (table : List (Option Extent)) (p : Link → Bool) → ((l : Link) → looked_up table l ≡ None → p l ≡ true) → (ls : List Link) (all : Extent) → links_extent table all ls ≡ None → list_any p ls ≡ true
unknown table p f [] all h = cc
unknown table p f (l ∷ ls) all h = unknown_first table p f l ls all (λ new. unknown table p f ls new) (looked_up table l) refl h

no_map : {X Y : Type 0} (f : X → Y) (o : Option X) → option_map f o ≡ None → o ≡ None
no_map f None h = refl
no_map f (Some x) h = absurd (none-some (f x) (sym h))

none_there : {X : Type 0} (xs : List X) (i : ℕ) → slice_get xs i ≡ None → i < length xs → ⊥
none_there [] i h lt = omega arith
none_there (x ∷ xs) zero h lt = none-some x (sym h)
none_there (x ∷ xs) (suc i) h lt = none_there xs i h (omega arith)

module _ (graph : List Node) (table : List (Option Extent)) (long : length table ≡ length graph) (stuck : IsStuck graph table (length graph)) where
  there : (i : ℕ) (o : Option Node) → slice_get graph i ≡ o → slice_get table i ≡ Some None → (node : Node) × (o ≡ Some node)
  there i None is h =
      let lt : i < length table = slice_get_within table i None h in
      absurd (none_there graph i is (omega arith))
  there i (Some node) is h = (node, refl)

  to_unknown : (n i : ℕ) (o : Option (Option Extent)) → slice_get table i ≡ o → entry_extent o ≡ None → (slice_get table i ≡ Some None → goes_on n graph (To i) ≡ true) → goes_on n graph (To i) ≡ true
  to_unknown n i None is h f = absurd (none-some EMPTY (sym h))
  to_unknown n i (Some looked_up) is h f = f (is ∙ ap Some h)

  link_unknown : (n : ℕ) → ((i : ℕ) → slice_get table i ≡ Some None → goes_on n graph (To i) ≡ true) → (l : Link) → looked_up table l ≡ None → goes_on n graph l ≡ true
  link_unknown n f (Field tag) h = absurd (none-some ONE_FIELD (sym h))
  link_unknown n f (To i) h = to_unknown n i (slice_get table i) refl h (f i)

  -- chains from a node that stays unknown go on and on
  pub on_and_on : (n i : ℕ) → slice_get table i ≡ Some None → goes_on n graph (To i) ≡ true
  on_and_on zero i h = let t = there i (slice_get graph i) refl h in ap is_some t.1
  on_and_on (suc n) i h =
      let t : (node : Node) × (slice_get graph i ≡ Some node) = there i (slice_get graph i) refl h in
      let lt : i < length table = slice_get_within table i None h in
      let none : node_extent table t.0 ≡ None = stuck i t.0 (omega arith) t.1 h in
      ap (λ (o : Option Node). list_any (goes_on n graph) (links_in o)) t.1
      ∙ unknown table (goes_on n graph) (link_unknown n (on_and_on n)) t.0.links EMPTY (no_map (counted_extent t.0.count) (links_extent table EMPTY t.0.links) none)

  module _ (sound : IsSound graph table) where
    entry : (i : ℕ) (node : Node) → slice_get graph i ≡ Some node → (o : Option (Option Extent)) → slice_get table i ≡ o → o ≡ Some (final_extent graph node)
    entry i node at None is =
        let lt : i < length graph = slice_get_within graph i node at in
        absurd (none_there table i is (omega arith))
    entry i node at (Some None) is =
        let endless : is_endless graph node.links ≡ true = sym (ap (λ (o : Option Node). list_any (goes_on (length graph) graph) (links_in o)) at) ∙ on_and_on (suc (length graph)) i is in
        ap Some (sym (ap (λ b. if b then None else Some (extent_of (length (counted_tags node.count (tags_of graph node.links))) (counted_depth node.count (depth_of graph node.links)))) endless))
    entry i node at (Some (Some extent)) is =
        let x : IsSettled (known table) graph (To i) extent = sound i extent is in
        let bound : known table ≤ length table = known_within table in
        let within : known table ≤ suc (length graph) = omega arith in
        let ends : is_endless graph node.links ≡ false = sym (ap (λ (o : Option Node). list_any (goes_on (length graph) graph) (links_in o)) at) ∙ ends_within (known table) (suc (length graph)) graph (To i) within x.ends in
        let many : extent.places ≡ min (length (counted_tags node.count (tags_of graph node.links))) (PLACE_LIMIT + 1) =
        x.places ∙ ap (λ (ts : List ℕ). min (length ts) (PLACE_LIMIT + 1)) (sym (enough tags graph (known table) (suc (length graph)) (To i) within x.ends) ∙ ap (of_node tags (tags_of graph)) at) in
        let far : extent.depth ≡ min (counted_depth node.count (depth_of graph node.links)) (DEPTH_LIMIT + 1) =
        x.depth ∙ ap (λ d. min d (DEPTH_LIMIT + 1)) (sym (enough depth graph (known table) (suc (length graph)) (To i) within x.ends) ∙ ap (of_node depth (depth_of graph)) at) in
        let one : extent ≡ extent_of (length (counted_tags node.count (tags_of graph node.links))) (counted_depth node.count (depth_of graph node.links)) = λ j. record { places = many j; depth = far j } in
        ap Some (ap Some one ∙ sym (ap (λ b. if b then None else Some (extent_of (length (counted_tags node.count (tags_of graph node.links))) (counted_depth node.count (depth_of graph node.links)))) ends))

    -- where nothing is to be learned, all is known that can be
    pub all_told : HasExtents graph table
    all_told = record { long = long; looked_up = λ i node at. entry i node at (slice_get table i) refl }

-- ---- nodes in some order

pub kept_one : (graph : List Node) (old mid new : List (Option Extent)) (i : ℕ) (learned : Bool) → Keeps graph old mid → Learned graph i mid new learned → Keeps graph old new
kept_one graph old mid new i false k l = subst (Keeps graph old) (sym l.0) k
kept_one graph old mid new i true k l = record {
  long = ap length l.5 ∙ length-set mid i (Some l.0) ∙ k.long;
  sound = λ s. subst (IsSound graph) (sym l.5) (sound_more graph mid i l.0 l.1 k.long (k.sound s) l.2 l.3 l.4);
}

pub kept_none : (graph : List Node) (old : List (Option Extent)) → length old ≡ length graph → Keeps graph old old
kept_none graph old long = record { long = long; sound = λ s. s }

none_there_yet : (n i : ℕ) (extent : Extent) → slice_get (replicate n None) i ≡ Some (Some extent) → ⊥
none_there_yet zero i extent h = cc
none_there_yet (suc n) zero extent h = none-some extent (same_Some None (Some extent) h)
none_there_yet (suc n) (suc i) extent h = none_there_yet n i extent h

-- a table of nothing is sound
pub none_sound : (graph : List Node) (n : ℕ) → IsSound graph (replicate n None)
none_sound graph n i extent h = absurd (none_there_yet n i extent h)
