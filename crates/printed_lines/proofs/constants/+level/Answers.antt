use Rattle.std.proofs.Common.{◌≤◌, ◌<◌, length, take, sym, subst, arith}
use Rattle.std.proofs.lemmas.List.{take_all}
use Rattle.std.proofs.lemmas.List.Elements.{All-more, All-same}
use Rattle.printed_lines.specs.ByteConstants.{IsByteGroup}
use Rattle.printed_lines.proofs.ByteRows.{group_has}
use Rattle.printed_lines.proofs.constants.+level.Goals as goal

pub groups_have_bytes-loop-group-preserved : goal.groups_have_bytes-loop-group-preserved
groups_have_bytes-loop-group-preserved t c =
    let inside : c.loop-group.group-index < length c.args.groups.now = omega (arith, c.loop-group-test.true, c.loop-group.auto.group-index-end) in
    All-more IsByteGroup c.args.groups.now c.loop-group.group-index c.group-item.result inside c.loop-group.invariant (subst IsByteGroup c.group-item.is (group_has c.group-item.result c.level_has_bytes.ensures))

pub groups_have_bytes-returns : goal.groups_have_bytes-returns
groups_have_bytes-returns t c =
    let past : length c.args.groups.now ≤ c.loop-group.group-index = omega (arith, c.loop-group-test.false, c.loop-group.auto.group-index-end) in
    All-same IsByteGroup c.args.groups.now (take c.loop-group.group-index c.args.groups.now) (sym (take_all c.loop-group.group-index c.args.groups.now past)) c.loop-group.invariant
