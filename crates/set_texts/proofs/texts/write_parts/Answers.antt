use Rattle.set_texts.proofs.Written.{next_written}
use Rattle.set_texts.proofs.texts.write_parts.Goals as goal

pub loop-run-preserved : goal.loop-run-preserved
loop-run-preserved c = record {
  long = c.in_ok-written.ensures.long;
  within = c.in_ok-written.ensures.within;
  written = λ codes are.
      next_written c.args.runs.now c.loop-run.run-index c.run-item.result codes c.loop-run.written c.in_ok-written.written c.loop-run.room c.write_part.new.room c.args.bits
      c.loop-run-test.true c.run-item.is c.in_ok-written.ensures.more (c.loop-run.invariant.written codes are);
}
