use Rattle.std.proofs.Common.{refl}
use Rattle.schema_facts.proofs.KindLists.{narrow_members}
use Rattle.layout_compile.proofs.tables.kind_of.Goals as goal

pub loop-member-init : goal.loop-member-init
loop-member-init c = record {
  named = refl;
  narrow = narrow_members _ c.requires;
}
