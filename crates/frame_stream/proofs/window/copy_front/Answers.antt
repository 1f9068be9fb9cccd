use Rattle.std.proofs.Common.{arith}
use Rattle.frame_stream.specs.declared.window.TheConstants.{SHORT, LONG}
use Rattle.frame_stream.proofs.Blocks.{fewer_taken}
use Rattle.frame_stream.proofs.window.copy_front.Goals as goal

pub returns-then-has_both-clause-copied : goal.returns-then-has_both-clause-copied
returns-then-has_both-clause-copied c = fewer_taken c.args.n SHORT c.copy_block.new.buf c.args.from.now (omega (arith, c.if-n-le-SHORT.true)) c.copy_block.ensures.copied

pub returns-then-has_both-2-clause-copied : goal.returns-then-has_both-2-clause-copied
returns-then-has_both-2-clause-copied c = fewer_taken c.args.n LONG c.copy_block-then-has_both-2-2.new.buf c.args.from.now (omega (arith, c.if-n-le-LONG.true)) c.copy_block-then-has_both-2-2.ensures.copied
