use Rattle.std.proofs.Common.{◌≤◌, ◌<◌, length, take, sym, subst, arith}
use Rattle.std.proofs.lemmas.List.{take_all}
use Rattle.std.proofs.lemmas.List.Elements.{All-more, All-same}
use Rattle.printed_lines.specs.ByteConstants.{IsByteLevel}
use Rattle.printed_lines.proofs.constants.levels_have_bytes.Goals as goal

pub loop-level-preserved : goal.loop-level-preserved
loop-level-preserved c =
    let inside : c.loop-level.level-index < length c.args.levels.now = omega (arith, c.loop-level-test.true, c.loop-level.auto.level-index-end) in
    All-more IsByteLevel c.args.levels.now c.loop-level.level-index c.level-item.result inside c.loop-level.invariant (subst IsByteLevel c.level-item.is c.level_has_bytes.ensures)

pub returns : goal.returns
returns c =
    let past : length c.args.levels.now ≤ c.loop-level.level-index = omega (arith, c.loop-level-test.false, c.loop-level.auto.level-index-end) in
    All-same IsByteLevel c.args.levels.now (take c.loop-level.level-index c.args.levels.now) (sym (take_all c.loop-level.level-index c.args.levels.now past)) c.loop-level.invariant
