use Rattle.std.proofs.Common.{◌≡◌, ◌+◌, ◌-◌, true, false, length, take, drop, refl, sym, ap, ◌∙◌, subst, arith, rules, length-take, length-drop}
use Rattle.std.specs.Prelude.{Some, map}
use Rattle.std.specs.Option.{IsSome}
use Rattle.sbe_types.specs.Places.{is_const, width, bytes_at, field_place}
use Rattle.schema_facts.specs.InOrder.{IsKindInOrder}
use Rattle.flyweight_view.specs.inner.Planned.{bytes_of}
use Rattle.flyweight_view.specs.TypedBlocks.{member_field}
use Rattle.flyweight_view.proofs.SlotsTold.{const_place, field_of_member, member_order, placed_member, places_same, some_same, zero_alive}
use Rattle.flyweight_view.proofs.plan.member_slot.Goals as goal

pub member_place-begin-requires-clause-placed : goal.member_place-begin-requires-clause-placed
member_place-begin-requires-clause-placed c =
    let moves : is_const c.at-member.result.now.kind ≡ false = search rules in
    let at = placed_member c.args.members.now c.args.span.now.size c.args.i c.at-member.result.now c.requires.plan c.at-member.ensures moves in
    subst IsSome (sym at.there) (search rules)

pub width_of-wide-requires : goal.width_of-wide-requires
width_of-wide-requires c = (member_order c.args.members.now c.args.i c.at-member.result.now c.requires.plan.order c.at-member.ensures).within.narrow

pub slice_bounds-result-end : goal.slice_bounds-result-end
slice_bounds-result-end c =
    let s = c.args.span.now in
    let moves : is_const c.at-member.result.now.kind ≡ false = search rules in
    let at = placed_member c.args.members.now s.size c.args.i c.at-member.result.now c.requires.plan c.at-member.ensures moves in
    let begin = some_same at.place c.member_place-begin.result (sym at.there ∙ c.member_place-begin.ensures) in
    let near = c.requires.near in
    let long : length (take (s.at + s.size - s.at) (drop s.at s.body.now)) ≡ s.size = simp (length-take, length-drop) (omega arith) in
    omega (arith, at.within, begin, long, c.width_of-wide.ensures)

pub returns-then-is_constant : goal.returns-then-is_constant
returns-then-is_constant c =
    let ms = c.args.members.now in
    let m = c.at-member.result.now in
    let fixed : is_const m.kind ≡ true = search rules in
    let there = field_of_member ms c.args.i m c.at-member.ensures in
    record {
      field = member_field m;
      there = there;
      kind = c.bare_slot.ensures.kind;
      order = subst IsKindInOrder (sym c.bare_slot.ensures.kind) (member_order ms c.args.i m c.requires.plan.order c.at-member.ensures);
      alive = c.bare_slot.ensures.alive ∙ sym (zero_alive c.args.span.now.mode.version);
      bytes = λ a. c.bare_slot.ensures.bytes ∙ ap (λ o. bytes_at o (width m.kind) (bytes_of c.args.span.now)) (sym (const_place 0 c.args.i (map member_field ms) (member_field m) there fixed));
    }

pub returns : goal.returns
returns c =
    let ms = c.args.members.now in
    let s = c.args.span.now in
    let m = c.at-member.result.now in
    let begin = c.member_place-begin.result in
    let there = field_of_member ms c.args.i m c.at-member.ensures in
    let wide : begin + c.width_of-wide.result - begin ≡ width m.kind = omega (arith, c.width_of-wide.ensures) in
    let size : s.at + s.size - s.at ≡ s.size = omega arith in
    let place : field_place 0 (map member_field ms) c.args.i ≡ Some begin = places_same 0 c.args.i ms ∙ c.member_place-begin.ensures in
    record {
      field = member_field m;
      there = there;
      kind = refl;
      order = member_order ms c.args.i m c.requires.plan.order c.at-member.ensures;
      alive = sym (zero_alive s.mode.version);
      bytes = λ a. ap (λ k. take k (drop begin (take (s.at + s.size - s.at) (drop s.at s.body.now)))) wide
          ∙ ap (λ k. take (width m.kind) (drop begin (take k (drop s.at s.body.now)))) size
          ∙ ap (λ o. bytes_at o (width m.kind) (bytes_of s)) (sym place);
    }
