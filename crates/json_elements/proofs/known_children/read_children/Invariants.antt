use Rattle.std.proofs.Common.{◌≡◌, [], drop}
use Rattle.json_data.specs.Trees.{items_of}
use Rattle.json_elements.specs.KnownChildren.{known_children}
use Rattle.json_elements.proofs.known_children.read_children.Given as goal

abbrev pub invariant-loop-i : goal.invariant-loop-i
invariant-loop-i g l = known_children g.C.Child.child l.children l.i (items_of (drop l.i l.items)) ≡ known_children g.C.Child.child [] 0 (items_of l.items)
