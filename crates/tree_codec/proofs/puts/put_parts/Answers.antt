use Rattle.std.proofs.Common.{◌+◌, ◌<◌, length, refl, arith}
use Rattle.sbe_types.specs.declared.message.Block.{out-Block}
use Rattle.sbe_types.specs.declared.schema.Level.{out-Level}
use Rattle.sbe_wire.specs.Misfit.{parts_taken}
use Rattle.typed_writer.specs.States.{level_of}
use Rattle.tree_codec.proofs.PutParts.{part_behind_groups, part_counted, part_is_left, part_is_next, parts_begin, parts_end, parts_next}
use Rattle.tree_codec.proofs.PutSteps.{part_fits}
use Rattle.tree_codec.proofs.ShapesBelow.{part_there, shaped}
use Rattle.tree_codec.proofs.puts.put_parts.Goals as goal

pub loop-i-init : goal.loop-i-init
loop-i-init c = parts_begin c.args.layout.now (level_of c.args.buf.now.frames) c.args.level.now c.args.block.now c.requires.level c.args.buf.now c.requires.state refl c.requires.at

pub at-requires-in-loop-i : goal.at-requires-in-loop-i
at-requires-in-loop-i c =
    let shape = shaped c.args.level.now c.args.block.now c.requires.shape in
    omega (arith, c.loop-i-test.true, c.len-i-end.ensures, shape.parts)

pub put_part-requires-clause-groups : goal.put_part-requires-clause-groups
put_part-requires-clause-groups c = part_behind_groups c.args.layout.now (level_of c.args.buf.now.frames) c.args.level.now c.args.block.now c.requires.level c.loop-i.i c.args.buf.now c.loop-i.buf c.loop-i.invariant

pub put_part-requires-clause-more : goal.put_part-requires-clause-more
put_part-requires-clause-more c =
    let more : c.loop-i.i < length (out-Level c.args.level.now).parts = omega (arith, c.loop-i-test.true, c.len-i-end.ensures) in
    part_is_left c.args.layout.now (level_of c.args.buf.now.frames) c.args.level.now c.args.block.now c.requires.level c.loop-i.i c.args.buf.now c.loop-i.buf c.loop-i.invariant more

pub put_part-requires-clause-next : goal.put_part-requires-clause-next
put_part-requires-clause-next c =
    part_is_next c.args.layout.now (level_of c.args.buf.now.frames) c.args.level.now c.args.block.now c.requires.level c.loop-i.i c.args.buf.now c.loop-i.buf c.loop-i.invariant c.at.result.now c.at.ensures

pub put_part-requires-clause-there : goal.put_part-requires-clause-there
put_part-requires-clause-there c = part_there c.args.level.now c.args.block.now c.loop-i.i c.at-in-loop-i.result.now c.requires.shape c.at-in-loop-i.ensures

pub put_part-requires-clause-room : goal.put_part-requires-clause-room
put_part-requires-clause-room c =
    let level = c.args.level.now in
    let block = c.args.block.now in
    let first = length (out-Level level).fields + length (out-Level level).groups in
    part_fits c.loop-i.buf.limit (first + c.loop-i.i) c.loop-i.i (length c.loop-i.buf.bytes) (parts_taken c.args.buf.now.limit first (length c.args.buf.now.bytes) (out-Level level).parts (out-Block block).parts) c.requires.room
    (out-Level level).parts (out-Block block).parts c.at.result.now c.at-in-loop-i.result.now c.at.ensures c.at-in-loop-i.ensures
    (part_counted c.args.layout.now (level_of c.args.buf.now.frames) level block c.requires.level c.loop-i.i c.args.buf.now c.loop-i.buf c.loop-i.invariant)

pub loop-i-preserved : goal.loop-i-preserved
loop-i-preserved c =
    parts_next c.args.layout.now (level_of c.args.buf.now.frames) c.args.level.now c.args.block.now c.requires.level c.loop-i.i c.args.buf.now c.loop-i.buf c.loop-i.invariant c.at.result.now c.at-in-loop-i.result.now c.put_part.new.buf
    c.at.ensures c.at-in-loop-i.ensures c.put_part.ensures.ready c.put_part.ensures.puts

pub returns-clause-puts : goal.returns-clause-puts
returns-clause-puts c =
    let shape = shaped c.args.level.now c.args.block.now c.requires.shape in
    parts_end c.args.layout.now (level_of c.args.buf.now.frames) c.args.level.now c.args.block.now c.requires.level c.loop-i.i c.args.buf.now c.loop-i.buf c.loop-i.invariant
    (omega (arith, c.loop-i-test.false, c.loop-i.auto.i-end, c.len-i-end.ensures)) (omega (arith, c.loop-i-test.false, c.loop-i.auto.i-end, c.len-i-end.ensures, shape.parts))
