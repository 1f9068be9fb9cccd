-- The index of a member's node in the graph.
use Rattle.std.specs.Prelude.{◌≡◌, ℕ, List, Some, slice_get}
use Rattle.std.specs.Borrow.{Bor}
use Rattle.reference_graph.specs.declared.graph.Node.{Node}

-- the graph has the node of each member at the index that belongs to it
abbrev pub StandAt : {A : Type 0} → (ℕ → ℕ) → List Node → (A → Node) → List (Bor A) → Type 0
StandAt {A} place graph node members = (i : ℕ) (x : Bor A) → slice_get members i ≡ Some x → slice_get graph (place i) ≡ Some (node x.now)
