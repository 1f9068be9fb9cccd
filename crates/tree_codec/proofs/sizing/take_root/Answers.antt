use Rattle.std.proofs.Common.{arith}
use Rattle.body_walk.proofs.Bodies.{root_level}
use Rattle.body_walk.proofs.LevelsReady.{level_ready}
use Rattle.tree_codec.proofs.WholeMisfit.{root_shallow}
use Rattle.tree_codec.proofs.sizing.take_root.Goals as goal

pub take_block-requires-clause-ready : goal.take_block-requires-clause-ready
take_block-requires-clause-ready c =
    (level_ready c.args.layout.now c.root-root.result c.args.level.now c.requires.schema (root_level c.args.layout.now c.args.template c.root-root.result c.args.level.now c.root-root.ensures c.requires.root)).ready

pub take_block-requires-clause-few : goal.take_block-requires-clause-few
take_block-requires-clause-few c =
    let known = level_ready c.args.layout.now c.root-root.result c.args.level.now c.requires.schema (root_level c.args.layout.now c.args.template c.root-root.result c.args.level.now c.root-root.ensures c.requires.root) in
    omega (arith, known.few)

pub take_tail-requires-clause-level : goal.take_tail-requires-clause-level
take_tail-requires-clause-level c = root_level c.args.layout.now c.args.template c.root-root.result c.args.level.now c.root-root.ensures c.requires.root

pub take_tail-requires-clause-shallow : goal.take_tail-requires-clause-shallow
take_tail-requires-clause-shallow c = root_shallow c.args.layout.now c.args.template c.args.level.now c.requires.schema c.requires.root
