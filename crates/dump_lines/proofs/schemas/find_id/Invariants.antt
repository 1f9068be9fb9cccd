use Rattle.std.proofs.Common.{◌≡◌, drop, find}
use Rattle.dump_lines.specs.Chosen.{has_id}
use Rattle.dump_lines.proofs.schemas.find_id.Given as goal

-- none of the schemas so far has the id
abbrev pub invariant-loop-layout : goal.invariant-loop-layout
invariant-loop-layout l = find (has_id l.id) (drop l.layout-index l.layouts) ≡ find (has_id l.id) l.layouts
