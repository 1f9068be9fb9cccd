use Rattle.std.proofs.Common.{◌≡◌, ℕ, List, [], drop}
use Rattle.reference_graph.specs.Expansion.{Structure}
use Rattle.bridge_plan.specs.Mappings.{Mapping}
use Rattle.bridge_cover.specs.Parts.{groups_left, Passes, PassesFields, Sees}
use Rattle.bridge_cover.proofs.walk.+walk.Given as goal

abbrev pub invariant-parts_uncovered-loop-field : goal.invariant-parts_uncovered-loop-field
invariant-parts_uncovered-loop-field l =
    (m : Mapping) (s : Structure) → Sees m s [] l.fn.here → PassesFields m s l.here (drop l.field-index l.fields) l.fields

abbrev pub invariant-groups_uncovered-loop-group : goal.invariant-groups_uncovered-loop-group
invariant-groups_uncovered-loop-group l =
    (m : Mapping) (s : Structure) (before : List ℕ) → Sees m s before l.fn.here
    → Passes m s l.here (λ earlier. groups_left m s earlier (drop l.group-index l.groups) l.parts) (groups_left m s before l.groups l.parts)
