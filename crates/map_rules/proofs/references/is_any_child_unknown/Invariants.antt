use Rattle.std.proofs.Common.{◌≡◌, drop}
use Rattle.std.specs.List.{list_any}
use Rattle.map_rules.specs.Rules.{is_unknown_child}
use Rattle.map_rules.proofs.references.is_any_child_unknown.Given as goal

abbrev pub invariant-loop-child : goal.invariant-loop-child
invariant-loop-child l = list_any (is_unknown_child l.ids) (drop l.child-index l.children) ≡ list_any (is_unknown_child l.ids) l.children
