-- Where the levels stand among all levels.
use Rattle.std.proofs.Common.{◌≡◌, ◌<◌, inl, inr, ℕ, zero, suc, ◌+◌, List, [], ◌∷◌, ◌++◌, length, take, get_or, Option, Some, None, refl, sym, ap, ◌∙◌, subst, arith, append_assoc, length-append}
use Rattle.std.specs.Prelude.{slice_get, flat_map}
use Rattle.std.proofs.lemmas.List.{append-nil}
use Rattle.sbe_types.specs.declared.schema.Level as levels
use Rattle.sbe_types.specs.declared.kind.Member.{Member}
use Rattle.sbe_types.specs.declared.schema.Group.{Group, Group'}
use Rattle.sbe_types.specs.declared.schema.Level.{Level, Level', out-Level, Row_of-Group, end_of-Group, more_of-Group}
use Rattle.sbe_types.specs.declared.schema.WireSchema.{WireSchema}
use Rattle.schema_facts.specs.Levels.{Node, nodes, nodes_below, nodes_of, nodes_from, all_nodes, Stands, node}
pub use Rattle.schema_facts.proofs.LevelWalk.{nodes_open, open_group}
use Rattle.layout_tables.proofs.Items.{in_two}

pub stands_more : (a b : List Node) (k : ℕ) (ys : List Node) → Stands a k ys → Stands (a ++ b) k ys
stands_more a b k ys h =
    (h.0, h.1 ++ b, ap (λ l. l ++ b) h.2 ∙ append_assoc h.0 (ys ++ h.1) b ∙ ap (λ l. h.0 ++ l) (append_assoc ys h.1 b), h.3)

pub stands_behind : (a b : List Node) (k : ℕ) (ys : List Node) → Stands b k ys → Stands (a ++ b) (length a + k) ys
stands_behind a b k ys h =
    (a ++ h.0, h.1, ap (λ l. a ++ l) h.2 ∙ sym (append_assoc a h.0 (ys ++ h.1)), length-append a h.0 ∙ ap (λ n. length a + n) h.3)

stands_next : (y : Node) (b : List Node) (k : ℕ) (ys : List Node) → Stands b k ys → Stands (y ∷ b) (suc k) ys
stands_next y b k ys h = (y ∷ h.0, h.1, ap (λ l. y ∷ l) h.2, ap suc h.3)

get_at : (front : List Node) (y : Node) (rest : List Node) → slice_get (front ++ (y ∷ rest)) (length front) ≡ Some y
get_at [] y rest = refl
get_at (x ∷ front) y rest = get_at front y rest

pub stands_first : (xs : List Node) (k : ℕ) (y : Node) (ys : List Node) → Stands xs k (y ∷ ys) → slice_get xs k ≡ Some y
stands_first xs k y ys h = ap (λ l. slice_get l k) h.2 ∙ ap (slice_get (h.0 ++ (y ∷ (ys ++ h.1)))) (sym h.3) ∙ get_at h.0 y (ys ++ h.1)

pub stands_split : (xs : List Node) (k : ℕ) (ys zs : List Node) → Stands xs k (ys ++ zs) → Stands xs (k + length ys) zs
stands_split xs k ys zs h =
    (h.0 ++ ys, h.1, h.2 ∙ ap (λ l. h.0 ++ l) (append_assoc ys zs h.1) ∙ sym (append_assoc h.0 ys (zs ++ h.1)), length-append h.0 ys ∙ ap (λ n. n + length ys) h.3)

pub whole : (xs : List Node) → Stands xs 0 xs
whole xs = ([], [], sym (append-nil xs), refl)

two_stand : (a b : List Node) (k : ℕ) (node : Node) (ys : List Node) → (slice_get a k ≡ Some node → Stands a k ys) → ((j : ℕ) → slice_get b j ≡ Some node → Stands b j ys) →
    slice_get (a ++ b) k ≡ Some node → Stands (a ++ b) k ys
two_stand a b k node ys here there at = elim (in_two a b k node at) [
  | inl e ↦ stands_more a b k ys (here e)
  | inr e ↦ subst (λ n. Stands (a ++ b) n ys) (sym e.1) (stands_behind a b e.0 ys (there e.0 e.2))
]

mutual
  unfolding nodes nodes_below nodes_of

  in_nodes : (t : ℕ) (dim : Option (List Member)) (level : Level) (k : ℕ) (node : Node) → slice_get (nodes t dim level) k ≡ Some node → Stands (nodes t dim level) k (nodes node.template node.dim node.level)
  in_nodes t dim (Level' name id semantic since block_length fields n groups parts) zero node h =
      let this : Node = record { template = t; dim = dim; level = Level' name id semantic since block_length fields n groups parts } in
      let same : this ≡ node = cc in
      subst (λ (x : Node). Stands (nodes t dim this.level) 0 (nodes x.template x.dim x.level)) same (whole (nodes t dim this.level))
  in_nodes t dim (Level' name id semantic since block_length fields n groups parts) (suc k) node h =
      let this : Node = record { template = t; dim = dim; level = Level' name id semantic since block_length fields n groups parts } in
      stands_next this (nodes_below t groups) k (nodes node.template node.dim node.level) (in_below t groups k node h)

  in_below : (t : ℕ) {n : _} (row : Row_of-Group n) (k : ℕ) (node : Node) → slice_get (nodes_below t row) k ≡ Some node → Stands (nodes_below t row) k (nodes node.template node.dim node.level)
  in_below t end_of-Group k node h = cc
  in_below t (more_of-Group g rest) k node h =
      two_stand (nodes_of t g) (nodes_below t rest) k node (nodes node.template node.dim node.level) (in_group t g k node) (λ j. in_below t rest j node) h

  in_group : (t : ℕ) (g : Group) (k : ℕ) (node : Node) → slice_get (nodes_of t g) k ≡ Some node → Stands (nodes_of t g) k (nodes node.template node.dim node.level)
  in_group t (Group' dim level) k node h = in_nodes t (Some dim) level k node h

in_roots : (t : ℕ) (roots : List Level) (k : ℕ) (node : Node) → slice_get (nodes_from t roots) k ≡ Some node → Stands (nodes_from t roots) k (nodes node.template node.dim node.level)
in_roots t [] k node h = cc
in_roots t (root ∷ roots) k node h =
    two_stand (nodes t None root) (nodes_from (suc t) roots) k node (nodes node.template node.dim node.level) (in_nodes t None root k node) (λ j. in_roots (suc t) roots j node) h

-- ---- a level's groups as a list

-- the levels of a level's groups stand after it
pub children : (schema : WireSchema) (n : ℕ) (this : Node) → slice_get (all_nodes schema) n ≡ Some this → Stands (all_nodes schema) (n + 1) (flat_map (nodes_of this.template) (out-Level this.level).groups)
children schema n this at =
    let here = subst (λ ys. Stands (all_nodes schema) n ys) (nodes_open this.template this.dim this.level) (in_roots 0 schema.messages n this at) in
    stands_split (all_nodes schema) n (this ∷ []) (flat_map (nodes_of this.template) (out-Level this.level).groups) here

-- the first of some groups, and those after it
pub child : (schema : WireSchema) (k t : ℕ) (g : Group) (gs : List Group) → Stands (all_nodes schema) k (flat_map (nodes_of t) (g ∷ gs)) →
    (dim : List Member) × (level : Level) × (g ≡ Group' dim level) × (slice_get (all_nodes schema) k ≡ Some (node t (Some dim) level)) × Stands (all_nodes schema) (k + length (nodes t (Some dim) level)) (flat_map (nodes_of t) gs)
unfolding nodes_of
child schema k t (Group' dim level) gs h =
    let opened = subst (λ ys. Stands (all_nodes schema) k (ys ++ flat_map (nodes_of t) gs)) (nodes_open t (Some dim) level) h in
    (dim, level, refl, stands_first (all_nodes schema) k (node t (Some dim) level) _ opened, stands_split (all_nodes schema) k (nodes t (Some dim) level) (flat_map (nodes_of t) gs) h)

pub flat_more : (t : ℕ) (gs : List Group) (i : ℕ) (g : Group) → i < length gs → g ≡ get_or gs i g → flat_map (nodes_of t) (take (i + 1) gs) ≡ flat_map (nodes_of t) (take i gs) ++ nodes_of t g
flat_more t [] i g h is = absurd (omega arith)
flat_more t (f ∷ gs) zero g h is = append-nil (nodes_of t f) ∙ ap (nodes_of t) (sym is)
flat_more t (f ∷ gs) (suc i) g h is =
    let next : suc i + 1 ≡ suc (i + 1) = omega arith in
    ap (λ m. flat_map (nodes_of t) (take m (f ∷ gs))) next ∙ ap (λ l. nodes_of t f ++ l) (flat_more t gs i g (omega arith) is) ∙ sym (append_assoc (nodes_of t f) (flat_map (nodes_of t) (take i gs)) (nodes_of t g))
