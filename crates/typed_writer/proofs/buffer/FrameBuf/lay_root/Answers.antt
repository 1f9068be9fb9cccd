use Rattle.std.proofs.Common.{rules}
use Rattle.typed_writer.proofs.Standing.{root_ready}
use Rattle.typed_writer.proofs.buffer.FrameBuf.lay_root.Goals as goal

pub returns-clause-ready : goal.returns-clause-ready
returns-clause-ready c =
    root_ready c.args.layout.now c.args.template c.root-level.result _ (search rules) (search rules) (search rules) (search rules) (search rules) (search rules)
