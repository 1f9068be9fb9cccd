use Rattle.std.proofs.Common.{◌≡◌, drop}
use Rattle.std.specs.List.{list_any}
use Rattle.map_links.specs.Links.{is_unknown}
use Rattle.map_rules.proofs.references.is_any_unknown.Given as goal

abbrev pub invariant-loop-reference : goal.invariant-loop-reference
invariant-loop-reference l = list_any (is_unknown l.ids) (drop l.reference-index l.references) ≡ list_any (is_unknown l.ids) l.references
