use Rattle.std.proofs.Common.{◌≤◌, ◌<◌, length, take, sym, subst, arith}
use Rattle.std.proofs.lemmas.List.{take_all}
use Rattle.std.proofs.lemmas.List.Elements.{All-more, All-same}
use Rattle.printed_lines.specs.ByteConstants.{IsByteMember}
use Rattle.printed_lines.proofs.constants.+kind.Goals as goal

pub members_have_bytes-loop-member-preserved : goal.members_have_bytes-loop-member-preserved
members_have_bytes-loop-member-preserved t c =
    let inside : c.loop-member.member-index < length c.args.members.now = omega (arith, c.loop-member-test.true, c.loop-member.auto.member-index-end) in
    All-more IsByteMember c.args.members.now c.loop-member.member-index c.member-item.result inside c.loop-member.invariant (subst IsByteMember c.member-item.is c.kind_has_bytes.ensures)

pub members_have_bytes-returns : goal.members_have_bytes-returns
members_have_bytes-returns t c =
    let past : length c.args.members.now ≤ c.loop-member.member-index = omega (arith, c.loop-member-test.false, c.loop-member.auto.member-index-end) in
    All-same IsByteMember c.args.members.now (take c.loop-member.member-index c.args.members.now) (sym (take_all c.loop-member.member-index c.args.members.now past)) c.loop-member.invariant
