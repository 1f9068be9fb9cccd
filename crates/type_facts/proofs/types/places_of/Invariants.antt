use Rattle.std.proofs.Common.{◌≡◌, ◌≤◌, ℕ, List, length, drop}
use Rattle.std.specs.Str.{bytes_eq}
use Rattle.std.specs.HashMap.{get_by}
use Rattle.schema_rules.specs.Names.{place_from}
use Rattle.type_facts.proofs.types.places_of.Given as goal

abbrev pub invariant-names : goal.invariant-names
invariant-names l =
    (l.i ≤ length l.declared) × ((name : List ℕ) → get_by (λ key. bytes_eq name key.items) l.places ≡ place_from l.i name (drop l.i l.declared))

abbrev pub decreases-names : goal.decreases-names
decreases-names l = l.i
