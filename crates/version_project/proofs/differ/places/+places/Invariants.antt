use Rattle.std.proofs.Common.{◌≡◌, drop}
use Rattle.std.specs.Prelude.{true}
use Rattle.schema_facts.proofs.KindLists.{NarrowList}
use Rattle.version_project.specs.Pairwise.{ends_at, all_stay, member_stays}
use Rattle.version_project.proofs.differ.places.+places.Given as goal

abbrev pub invariant-do_stay-loop-i : goal.invariant-do_stay-loop-i
invariant-do_stay-loop-i l = record {
  so_far : all_stay true member_stays (ends_at l.end l.other_end) (drop l.i l.fn.old) (drop l.i l.fn.new) ≡ all_stay true member_stays (ends_at 0 0) l.fn.old l.fn.new;
  old : NarrowList l.end (drop l.i l.fn.old);
  new : NarrowList l.other_end (drop l.i l.fn.new);
}
