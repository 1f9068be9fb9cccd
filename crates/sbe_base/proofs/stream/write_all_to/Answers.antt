use Rattle.std.proofs.Common.{rules}
use Rattle.sbe_base.proofs.Written.{took_more, took_none}
use Rattle.sbe_base.proofs.stream.write_all_to.Goals as goal

pub loop-done-preserved : goal.loop-done-preserved
loop-done-preserved g c =
    record {
      within = search rules;
      written = took_more c.args.bytes.now c.loop-done.done c.loop-done.invariant.written c.in-Ok.n c.in-Ok.ensures.bytes c.in-Ok.ensures.cause.kept;
    }

pub returns-in-Err : goal.returns-in-Err
returns-in-Err g c =
    took_none c.args.bytes.now c.loop-done.done c.loop-done.invariant.written c.in-Err.ensures.bytes c.in-Err.ensures.cause.later c.in-Err.ensures.cause.failed
