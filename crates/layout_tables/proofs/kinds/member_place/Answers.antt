use Rattle.std.proofs.Common.{sym, ap, ◌∙◌, arith, length, take, refl}
use Rattle.std.specs.Prelude.{Some}
use Rattle.std.proofs.lemmas.List.{length-take-le}
use Rattle.sbe_types.specs.Places.{begin_of}
use Rattle.schema_facts.proofs.KindLists.{narrow_members}
use Rattle.layout_tables.proofs.Widths.{narrow_take, place_is, place_within, members_done}
use Rattle.layout_tables.proofs.kinds.member_place.Goals as goal

pub slice_bounds-member-items-end : goal.slice_bounds-member-items-end
slice_bounds-member-items-end c =
    let within = place_within 0 c.args.members.now c.args.i c.requires.placed in
    sym (length-take-le c.args.i c.as_slice.result.now (omega (arith, within, ap length c.as_slice.ensures)))

pub loop-member-init : goal.loop-member-init
loop-member-init c = record {
  ends = refl;
  narrow = narrow_take 0 c.args.members.now c.args.i (narrow_members _ c.requires.narrow);
}

pub at-requires : goal.at-requires
at-requires c = place_within 0 c.args.members.now c.args.i c.requires.placed

pub returns : goal.returns
returns c =
    let done = members_done c.loop-member.end (take c.args.i c.args.members.now) c.loop-member.member-index (omega (arith, ap (λ l. length (take c.args.i l)) c.as_slice.ensures)) in
    place_is 0 c.args.members.now c.args.i c.at.result.now c.at.ensures c.requires.placed
    ∙ ap (λ e. Some (begin_of e c.at.result.now.offset)) (sym c.loop-member.invariant.ends ∙ done)
    ∙ ap Some (sym c.begin_of.ensures)
