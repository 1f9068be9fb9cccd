use Rattle.std.proofs.Common.{ℕ, List, drop}
use Rattle.reference_graph.specs.Expansion.{Structure}
use Rattle.bridge_plan.specs.Mappings.{Mapping}
use Rattle.bridge_plan.specs.Covers.{data_uncovered}
use Rattle.bridge_cover.specs.Parts.{Passes, Sees}
use Rattle.bridge_cover.proofs.walk.data_uncovered.Given as goal

abbrev pub invariant-loop-part : goal.invariant-loop-part
invariant-loop-part l =
    (m : Mapping) (s : Structure) (before : List ℕ) → Sees m s before l.fn.here
    → Passes m s l.here (λ earlier. data_uncovered m s earlier (drop l.part-index l.parts)) (data_uncovered m s before l.parts)
