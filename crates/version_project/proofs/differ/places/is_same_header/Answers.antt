use Rattle.std.proofs.Common.{refl, sym, ◌∙◌, arith}
use Rattle.std.specs.Prelude.{false}
use Rattle.schema_facts.proofs.KindLists.{narrow_members}
use Rattle.version_project.specs.Pairwise.{is_header_member}
use Rattle.version_project.proofs.NarrowRows.{narrow_next, narrow_goes}
use Rattle.version_project.proofs.StayWalk.{stay_goes, stay_stops, stay_ends, unlike_header, headers_stay}
use Rattle.version_project.proofs.differ.places.is_same_header.Goals as goal

pub loop-i-init : goal.loop-i-init
loop-i-init c = record {
  so_far = refl;
  old = narrow_members _ c.requires.old;
  new = narrow_members _ c.requires.new;
}

pub end_after-end-requires-clause-narrow : goal.end_after-end-requires-clause-narrow
end_after-end-requires-clause-narrow c = (narrow_next c.loop-i.end c.args.old.now c.loop-i.i _ c.at-member.ensures c.loop-i.invariant.old).0

pub end_after-end-requires-clause-within : goal.end_after-end-requires-clause-within
end_after-end-requires-clause-within c = (narrow_next c.loop-i.end c.args.old.now c.loop-i.i _ c.at-member.ensures c.loop-i.invariant.old).1

pub end_after-other_end-requires-clause-narrow : goal.end_after-other_end-requires-clause-narrow
end_after-other_end-requires-clause-narrow c = (narrow_next c.loop-i.other_end c.args.new.now c.loop-i.i _ c.at-other.ensures c.loop-i.invariant.new).0

pub end_after-other_end-requires-clause-within : goal.end_after-other_end-requires-clause-within
end_after-other_end-requires-clause-within c = (narrow_next c.loop-i.other_end c.args.new.now c.loop-i.i _ c.at-other.ensures c.loop-i.invariant.new).1

pub loop-i-preserved : goal.loop-i-preserved
loop-i-preserved c = record {
  so_far =
      stay_goes false is_header_member c.loop-i.end c.loop-i.other_end _ _ c.loop-i.i c.args.old.now c.args.new.now _ _ _ _ c.at-member.ensures c.at-other.ensures
      c.is_same_member.ensures c.if-not-is_same_member.false c.end_after-end.ensures c.end_after-other_end.ensures c.loop-i.invariant.so_far;
  old = narrow_goes c.loop-i.end _ c.args.old.now c.loop-i.i _ c.at-member.ensures c.end_after-end.ensures c.loop-i.invariant.old;
  new = narrow_goes c.loop-i.other_end _ c.args.new.now c.loop-i.i _ c.at-other.ensures c.end_after-other_end.ensures c.loop-i.invariant.new;
}

pub returns-then-len : goal.returns-then-len
returns-then-len c =
    unlike_header 0 0 c.args.old.now c.args.new.now (λ same. c.if-len.true (c.len.ensures ∙ same ∙ sym c.len-2.ensures)) ∙ sym (headers_stay 0 0 c.args.old.now c.args.new.now)

pub returns-then-not-is_same_member : goal.returns-then-not-is_same_member
returns-then-not-is_same_member c =
    stay_stops false is_header_member c.loop-i.end c.loop-i.other_end c.loop-i.i c.args.old.now c.args.new.now _ _ _ _ c.at-member.ensures c.at-other.ensures
    c.is_same_member.ensures c.if-not-is_same_member.true c.loop-i.invariant.so_far
    ∙ sym (headers_stay 0 0 c.args.old.now c.args.new.now)

pub returns : goal.returns
returns c =
    stay_ends false is_header_member c.loop-i.end c.loop-i.other_end c.loop-i.i c.args.old.now c.args.new.now _ (omega arith) (omega arith) c.loop-i.invariant.so_far
    ∙ sym (headers_stay 0 0 c.args.old.now c.args.new.now)
