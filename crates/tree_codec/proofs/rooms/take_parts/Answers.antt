use Rattle.std.proofs.Common.{◌≡◌, ◌+◌, suc, ◌∙◌, arith}
use Rattle.sbe_types.specs.declared.message.Block.{out-Block}
use Rattle.sbe_types.specs.declared.schema.Level.{out-Level}
use Rattle.tree_codec.proofs.RoomSteps.{part_went, part_stopped, no_part}
use Rattle.tree_codec.proofs.rooms.take_parts.Goals as goal

pub returns-in-None-clause-told : goal.returns-in-None-clause-told
returns-in-None-clause-told c =
    part_stopped c.args.limit (c.len.result + c.len-2.result + c.loop-i.i) c.loop-i.i c.loop-i.at (out-Level c.args.level.now).parts (out-Block c.args.block.now).parts c.at.result.now c.at-in-loop-i.result.now
    c.at.ensures c.at-in-loop-i.ensures c.take_part.new.out c.inside.new.self c.in-None.ensures.told c.inside.ensures.told
    ∙ c.loop-i.invariant.told

pub loop-i-preserved : goal.loop-i-preserved
loop-i-preserved c =
    let k = c.len.result + c.len-2.result + c.loop-i.i in
    let on : c.len.result + c.len-2.result + (c.loop-i.i + 1) ≡ suc k = omega arith in
    record {
      near = c.in-Some.ensures.within;
      told = part_went c.args.limit k c.loop-i.i c.loop-i.at (out-Level c.args.level.now).parts (out-Block c.args.block.now).parts c.at.result.now c.at-in-loop-i.result.now
          c.at.ensures c.at-in-loop-i.ensures c.in-Some.after (c.len.result + c.len-2.result + (c.loop-i.i + 1)) on c.in-Some.ensures.told
          ∙ c.loop-i.invariant.told;
    }

pub returns-clause-told : goal.returns-clause-told
returns-clause-told c =
    no_part c.args.limit (c.len.result + c.len-2.result + c.loop-i.i) c.loop-i.i c.loop-i.at (out-Level c.args.level.now).parts (out-Block c.args.block.now).parts (omega arith) ∙ c.loop-i.invariant.told
