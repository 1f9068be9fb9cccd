use Rattle.std.proofs.Common.{sym}
use Rattle.sbe_types.proofs.KindRows.{width_comp}
use Rattle.schema_facts.proofs.KindLists.{narrow_members}
use Rattle.flat_rows.proofs.places.+width.Goals as goal

pub end_of-loop-member-init : goal.end_of-loop-member-init
end_of-loop-member-init t c = record {
  ends = sym (width_comp _);
  narrow = narrow_members _ c.requires;
}
