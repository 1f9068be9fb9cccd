use Rattle.std.proofs.Common.{◌≡◌, ◌+◌, ◌-◌, take, drop, length, sym, ap, subst, ◌∙◌, arith, length-take, length-drop}
use Rattle.std.specs.Prelude.{Some}
use Rattle.std.proofs.lemmas.Bool.Decides.{nat_tests}
use Rattle.sbe_types.specs.Places.{begin_of, bytes_at, width}
use Rattle.sbe_types.specs.Shows.{Shows}
use Rattle.flyweight_view.proofs.SlotsTold.{member_order, placed_member, some_same}
use Rattle.value_texts.proofs.FirstMembers.{const_mantissa, first_place, first_value, no_mantissa}
use Rattle.value_texts.proofs.composite.first_number.Goals as goal

pub returns-then-is_empty : goal.returns-then-is_empty
returns-then-is_empty c = λ known v h.
    let none : length c.args.members.now ≡ 0 = grind (arith, nat_tests) in
    no_mantissa c.args.order known c.args.members.now v c.args.bytes.now none h

pub returns-then-is_constant : goal.returns-then-is_constant
returns-then-is_constant c = λ known v h.
    const_mantissa c.args.order known c.args.members.now c.at-member.result.now v c.args.bytes.now c.at-member.ensures (sym c.is_constant.ensures ∙ c.if-is_constant.true) h

pub width_of-wide-requires : goal.width_of-wide-requires
width_of-wide-requires c = (member_order c.args.members.now 0 c.at-member.result.now c.requires.ready c.at-member.ensures).within.narrow

pub slice_bounds-kind_number-end : goal.slice_bounds-kind_number-end
slice_bounds-kind_number-end c =
    let m = c.at-member.result.now in
    let moves = sym c.is_constant.ensures ∙ c.if-is_constant.false in
    let at = placed_member c.args.members.now (length c.args.bytes.now) 0 m (record { order = c.requires.ready; wide = c.requires.wide }) c.at-member.ensures moves in
    let begin = some_same at.place (begin_of 0 m.offset) (sym at.there ∙ first_place c.args.members.now m c.at-member.ensures moves) in
    omega (arith, at.within, begin, c.begin_of-begin.ensures, c.width_of-wide.ensures)

pub kind_number-requires-clause-ready : goal.kind_number-requires-clause-ready
kind_number-requires-clause-ready c = member_order c.args.members.now 0 c.at-member.result.now c.requires.ready c.at-member.ensures

pub kind_number-requires-clause-wide : goal.kind_number-requires-clause-wide
kind_number-requires-clause-wide c =
    let m = c.at-member.result.now in
    let moves = sym c.is_constant.ensures ∙ c.if-is_constant.false in
    let at = placed_member c.args.members.now (length c.args.bytes.now) 0 m (record { order = c.requires.ready; wide = c.requires.wide }) c.at-member.ensures moves in
    let begin = some_same at.place (begin_of 0 m.offset) (sym at.there ∙ first_place c.args.members.now m c.at-member.ensures moves) in
    let within = at.within in
    let place = c.begin_of-begin.ensures in
    let wide = c.width_of-wide.ensures in
    simp (length-take, length-drop) (omega (arith, within, begin, place, wide))

pub returns : goal.returns
returns c = λ known v h.
    let m = c.at-member.result.now in
    let b = c.args.bytes.now in
    let begin = c.begin_of-begin.result in
    let moves = sym c.is_constant.ensures ∙ c.if-is_constant.false in
    let of = first_value c.args.order known c.args.members.now m v b c.at-member.ensures h in
    let wide : begin + c.width_of-wide.result - begin ≡ width m.kind = omega (arith, c.width_of-wide.ensures) in
    let same : bytes_at (Some (begin_of 0 m.offset)) (width m.kind) b ≡ take (begin + c.width_of-wide.result - begin) (drop begin b) =
    ap (λ n. take (width m.kind) (drop n b)) (sym c.begin_of-begin.ensures) ∙ ap (λ k. take k (drop begin b)) (sym wide) in
    of.first
    ∙ c.kind_number.ensures known of.value
    (subst (λ l. Shows c.args.order known m.kind of.value l)
    (ap (λ o. bytes_at o (width m.kind) b) (first_place c.args.members.now m c.at-member.ensures moves) ∙ same) of.shows)
