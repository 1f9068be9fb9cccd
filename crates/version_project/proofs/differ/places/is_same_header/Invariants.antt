use Rattle.std.proofs.Common.{◌≡◌, drop}
use Rattle.std.specs.Prelude.{false}
use Rattle.schema_facts.proofs.KindLists.{NarrowList}
use Rattle.version_project.specs.Pairwise.{ends_at, all_stay, is_header_member}
use Rattle.version_project.proofs.differ.places.is_same_header.Given as goal

abbrev pub invariant-loop-i : goal.invariant-loop-i
invariant-loop-i l = record {
  so_far : all_stay false is_header_member (ends_at l.end l.other_end) (drop l.i l.fn.old) (drop l.i l.fn.new)
      ≡ all_stay false is_header_member (ends_at 0 0) l.fn.old l.fn.new;
  old : NarrowList l.end (drop l.i l.fn.old);
  new : NarrowList l.other_end (drop l.i l.fn.new);
}
