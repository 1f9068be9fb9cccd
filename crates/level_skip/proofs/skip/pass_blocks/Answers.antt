use Rattle.std.proofs.Common.{arith}
use Rattle.level_skip.proofs.Steps.{blocks_fit, blocks_pass}
use Rattle.level_skip.proofs.skip.pass_blocks.Goals as goal

pub returns-then-bytes-dim-clause-told : goal.returns-then-bytes-dim-clause-told
returns-then-bytes-dim-clause-told c =
    blocks_pass c.args.dim.block c.args.bytes.now c.args.dim.count c.args.dim.after c.requires.at (omega arith)

pub returns-clause-told : goal.returns-clause-told
returns-clause-told c =
    blocks_fit c.args.dim.block c.args.bytes.now c.args.dim.count c.args.dim.after (omega arith)
