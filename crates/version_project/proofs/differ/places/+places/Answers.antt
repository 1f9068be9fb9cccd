use Rattle.std.proofs.Common.{refl, sym, ap, ◌∙◌, arith}
use Rattle.std.specs.Prelude.{true}
use Rattle.sbe_types.specs.declared.kind.Kind.{Comp}
use Rattle.version_laws.specs.Same.{same_places}
use Rattle.schema_facts.proofs.KindLists.{narrow_members}
use Rattle.version_project.specs.Pairwise.{member_stays}
use Rattle.sbe_types.proofs.kind.Member.TheLaws.{the_size}
use Rattle.version_project.proofs.Sizes.{size_at}
use Rattle.version_project.proofs.NarrowRows.{narrow_next, narrow_goes}
use Rattle.version_project.proofs.StayWalk.{stay_goes, stay_stops, old_ends, new_ends, composites_stay}
use Rattle.version_project.proofs.differ.places.+places.Goals as goal

pub do_stay-loop-i-init : goal.do_stay-loop-i-init
do_stay-loop-i-init t c = record {
  so_far = refl;
  old = narrow_members _ c.requires.old;
  new = narrow_members _ c.requires.new;
}

pub do_stay-end_after-end-requires-clause-narrow : goal.do_stay-end_after-end-requires-clause-narrow
do_stay-end_after-end-requires-clause-narrow t c = (narrow_next c.loop-i.end c.args.old.now c.loop-i.i _ c.at-member.ensures c.loop-i.invariant.old).0

pub do_stay-end_after-end-requires-clause-within : goal.do_stay-end_after-end-requires-clause-within
do_stay-end_after-end-requires-clause-within t c = (narrow_next c.loop-i.end c.args.old.now c.loop-i.i _ c.at-member.ensures c.loop-i.invariant.old).1

pub do_stay-end_after-other_end-requires-clause-narrow : goal.do_stay-end_after-other_end-requires-clause-narrow
do_stay-end_after-other_end-requires-clause-narrow t c = (narrow_next c.loop-i.other_end c.args.new.now c.loop-i.i _ c.at-other.ensures c.loop-i.invariant.new).0

pub do_stay-end_after-other_end-requires-clause-within : goal.do_stay-end_after-other_end-requires-clause-within
do_stay-end_after-other_end-requires-clause-within t c = (narrow_next c.loop-i.other_end c.args.new.now c.loop-i.i _ c.at-other.ensures c.loop-i.invariant.new).1

pub do_stay-loop-i-preserved : goal.do_stay-loop-i-preserved
do_stay-loop-i-preserved t c = record {
  so_far =
      stay_goes true member_stays c.loop-i.end c.loop-i.other_end _ _ c.loop-i.i c.args.old.now c.args.new.now _ _ _ _ c.at-member.ensures c.at-other.ensures
      c.does_stay.ensures c.if-not-does_stay.false c.end_after-end.ensures c.end_after-other_end.ensures c.loop-i.invariant.so_far;
  old = narrow_goes c.loop-i.end _ c.args.old.now c.loop-i.i _ c.at-member.ensures c.end_after-end.ensures c.loop-i.invariant.old;
  new = narrow_goes c.loop-i.other_end _ c.args.new.now c.loop-i.i _ c.at-other.ensures c.end_after-other_end.ensures c.loop-i.invariant.new;
}

pub do_stay-does_stay-requires : goal.do_stay-does_stay-requires
do_stay-does_stay-requires t c = (
  omega (arith, size_at the_size c.args.old.now c.loop-i.i c.at-member.result.now c.at-member.ensures),
  (
    (narrow_next c.loop-i.end c.args.old.now c.loop-i.i _ c.at-member.ensures c.loop-i.invariant.old).0,
    (narrow_next c.loop-i.other_end c.args.new.now c.loop-i.i _ c.at-other.ensures c.loop-i.invariant.new).0,
  ),
)

pub do_stay-returns-then-i-len : goal.do_stay-returns-then-i-len
do_stay-returns-then-i-len t c =
    new_ends member_stays c.loop-i.end c.loop-i.other_end c.loop-i.i c.args.old.now c.args.new.now _ (omega arith) c.loop-i.invariant.so_far

pub do_stay-returns-then-not-does_stay : goal.do_stay-returns-then-not-does_stay
do_stay-returns-then-not-does_stay t c =
    stay_stops true member_stays c.loop-i.end c.loop-i.other_end c.loop-i.i c.args.old.now c.args.new.now _ _ _ _ c.at-member.ensures c.at-other.ensures
    c.does_stay.ensures c.if-not-does_stay.true c.loop-i.invariant.so_far

pub do_stay-returns : goal.do_stay-returns
do_stay-returns t c =
    old_ends member_stays c.loop-i.end c.loop-i.other_end c.loop-i.i c.args.old.now c.args.new.now _ (omega arith) c.loop-i.invariant.so_far

pub are_same_places-returns-in-Comp-new : goal.are_same_places-returns-in-Comp-new
are_same_places-returns-in-Comp-new t c =
    c.do_stay.ensures ∙ sym (composites_stay c.in-Comp.members c.in-Comp-new.others)
    ∙ ap (λ k. same_places k (Comp c.in-Comp-new.others)) (sym c.in-Comp.is) ∙ ap (same_places c.args.old.now) (sym c.in-Comp-new.is)
