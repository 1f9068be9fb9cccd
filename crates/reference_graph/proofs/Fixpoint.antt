-- For any nodes there is a table of all that can be known; so a node whose chains end is one at which chains end.
use Rattle.std.proofs.Common.{◌≡◌, ◌⊎◌, inl, inr, ⊎_elim, ℕ, zero, suc, false, List, [], ◌∷◌, Option, Some, None, length, set, refl, sym, ap, ◌∙◌, subst, arith, ◌+◌, ◌≤◌, length-set}
use Rattle.std.specs.Prelude.{slice_get, if◌then◌else◌}
use Rattle.std.proofs.lemmas.Option.{same_Some, none-some}
use Rattle.reference_graph.specs.declared.graph.Link.TheVariants.{To}
use Rattle.reference_graph.specs.declared.graph.Node.{Node}
use Rattle.reference_graph.specs.declared.extent.Extent.{Extent}
use Rattle.reference_graph.specs.Graphs.{goes_on, is_endless}
use Rattle.reference_graph.specs.Structures.{node_tags, node_depth}
use Rattle.reference_graph.specs.Learning.{extent_of, node_extent, IsStuck, IsSettled, IsSound, HasExtents, known}
use Rattle.reference_graph.proofs.Chains.{ends_within}
use Rattle.reference_graph.proofs.Rounds.{known_set, known_within, last, sound_more, all_told}

module _ (graph : List Node) where
  -- a node of which something can be learned
  pub record Free (table : List (Option Extent)) : Type 0 where
    pub i : ℕ
    pub node : Node
    pub extent : Extent
    pub at : slice_get graph i ≡ Some node
    pub free : slice_get table i ≡ Some None
    pub looked_up : node_extent table node ≡ Some extent

  stuck_more : (table : List (Option Extent)) (n : ℕ) → IsStuck graph table n → ((node : Node) → slice_get graph n ≡ Some node → slice_get table n ≡ Some None → node_extent table node ≡ None) → IsStuck graph table (suc n)
  stuck_more table n stuck here i node below at free =
      ⊎_elim
      (λ lt. stuck i node lt at free)
      (λ e. here node (subst (λ k. slice_get graph k ≡ Some node) e at) (subst (λ k. slice_get table k ≡ Some None) e free))
      (last n i below)

  by_told : (table : List (Option Extent)) (n : ℕ) → IsStuck graph table n → (node : Node) → slice_get graph n ≡ Some node → slice_get table n ≡ Some None → (o : Option Extent) → node_extent table node ≡ o → IsStuck graph table (suc n) ⊎ Free table
  by_told table n stuck node at free None is = inl (stuck_more table n stuck (λ other here open_. subst (λ (m : Node). node_extent table m ≡ None) (same_Some node other (sym at ∙ here)) is))
  by_told table n stuck node at free (Some extent) is = inr (record { i = n; node = node; extent = extent; at = at; free = free; looked_up = is })

  by_entry : (table : List (Option Extent)) (n : ℕ) → IsStuck graph table n → (node : Node) → slice_get graph n ≡ Some node → (o : Option (Option Extent)) → slice_get table n ≡ o → IsStuck graph table (suc n) ⊎ Free table
  by_entry table n stuck node at None is = inl (stuck_more table n stuck (λ other here free. absurd (none-some {A = Option Extent} None (sym is ∙ free))))
  by_entry table n stuck node at (Some (Some f)) is = inl (stuck_more table n stuck (λ other here free. absurd (none-some f (sym (same_Some (Some f) None (sym is ∙ free))))))
  by_entry table n stuck node at (Some None) is = by_told table n stuck node at is (node_extent table node) refl

  by_node : (table : List (Option Extent)) (n : ℕ) → IsStuck graph table n → (o : Option Node) → slice_get graph n ≡ o → IsStuck graph table (suc n) ⊎ Free table
  by_node table n stuck None is = inl (stuck_more table n stuck (λ node at free. absurd (none-some node (sym is ∙ at))))
  by_node table n stuck (Some node) is = by_entry table n stuck node is (slice_get table n) refl

  stuck_or_free : (table : List (Option Extent)) (n : ℕ) → IsStuck graph table n ⊎ Free table
  stuck_or_free table zero = inl (λ i node below. absurd (omega arith))
  stuck_or_free table (suc n) = ⊎_elim (λ stuck. by_node table n stuck (slice_get graph n) refl) (λ free. inr free) (stuck_or_free table n)

  -- all that can be known
  pub record Settled : Type 0 where
    pub table : List (Option Extent)
    pub long : length table ≡ length graph
    pub sound : IsSound graph table
    pub stuck : IsStuck graph table (length graph)

  full : (table : List (Option Extent)) → length table ≡ length graph → length graph ≤ known table → Free table → ⊥
  full table long all free =
      let more : known (set table free.i (Some free.extent)) ≡ suc (known table) = known_set table free.i free.extent free.free in
      let within : known (set table free.i (Some free.extent)) ≤ length (set table free.i (Some free.extent)) = known_within (set table free.i (Some free.extent)) in
      let same : length (set table free.i (Some free.extent)) ≡ length table = length-set table free.i (Some free.extent) in
      omega arith

  settle : (m : ℕ) (table : List (Option Extent)) → length table ≡ length graph → IsSound graph table → length graph ≤ known table + m → Settled
  settle zero table long sound room =
      ⊎_elim
      (λ stuck. record { table = table; long = long; sound = sound; stuck = stuck })
      (λ free. absurd (full table long (omega arith) free))
      (stuck_or_free table (length graph))
  settle (suc m) table long sound room =
      ⊎_elim
      (λ stuck. record { table = table; long = long; sound = sound; stuck = stuck })
      (λ free.
      let more : known (set table free.i (Some free.extent)) ≡ suc (known table) = known_set table free.i free.extent free.free in
      settle m (set table free.i (Some free.extent)) (length-set table free.i (Some free.extent) ∙ long)
      (sound_more graph table free.i free.extent free.node long sound free.free free.at free.looked_up) (omega arith))
      (stuck_or_free table (length graph))

  abbrev blank : List Node → List (Option Extent)
  blank [] = []
  blank (n ∷ ns) = None ∷ blank ns

  blank_long : (ns : List Node) → length (blank ns) ≡ length ns
  blank_long [] = refl
  blank_long (n ∷ ns) = ap suc (blank_long ns)

  blank_none : (ns : List Node) (i : ℕ) (extent : Extent) → slice_get (blank ns) i ≡ Some (Some extent) → ⊥
  blank_none [] i extent h = cc
  blank_none (n ∷ ns) zero extent h = none-some extent (same_Some None (Some extent) h)
  blank_none (n ∷ ns) (suc i) extent h = blank_none ns i extent h

  pub some_settled : Settled
  some_settled = settle (length graph) (blank graph) (blank_long graph) (λ i extent h. absurd (blank_none graph i extent h)) (omega arith)

  -- a node whose links end is one at which chains end
  pub ends_at : (j : ℕ) (node : Node) → slice_get graph j ≡ Some node → is_endless graph node.links ≡ false → goes_on (length graph) graph (To j) ≡ false
  ends_at j node at ends =
      let s : Settled = some_settled in
      let all : Extent = extent_of (length (node_tags graph node)) (node_depth graph node) in
      let tells : HasExtents graph s.table = all_told graph s.table s.long s.stuck s.sound in
      let here : slice_get s.table j ≡ Some (Some all) = tells.looked_up j node at ∙ ap (λ b. Some (if b then None else Some all)) ends in
      let x : IsSettled (known s.table) graph (To j) all = s.sound j all here in
      let bound : known s.table ≤ length s.table = known_within s.table in
      let long : length s.table ≡ length graph = s.long in
      ends_within (known s.table) (length graph) graph (To j) (omega arith) x.ends
