use Rattle.std.proofs.Common.{Ok, Err, sym, subst}
use Rattle.body_walk.specs.inner.Blocks.{IsBlockRow}
use Rattle.body_walk.specs.inner.Outcomes.{fault_of}
use Rattle.body_walk.proofs.Opens.{block_known}
use Rattle.body_walk.proofs.blocks.walk_block.Goals as goal

pub judge_block-requires-clause-row : goal.judge_block-requires-clause-row
judge_block-requires-clause-row c = subst (λ k. IsBlockRow c.args.mode.version k c.args.level.now c.args.row.now) (sym c.in-Some.ensures.lies.long) c.requires.row

pub returns-then-not-judge_block-clause-told : goal.returns-then-not-judge_block-clause-told
returns-then-not-judge_block-clause-told c =
    block_known c.args.mode c.args.level.now c.args.block c.args.body.now c.args.at c.requires.at c.args.row.now _ (Err (fault_of c.judge_block.new.out)) c.requires.row.are c.in-Some.ensures.lies c.if-not-judge_block.ensures.told

pub returns-else-not-judge_block-clause-told : goal.returns-else-not-judge_block-clause-told
returns-else-not-judge_block-clause-told c =
    block_known c.args.mode c.args.level.now c.args.block c.args.body.now c.args.at c.requires.at c.args.row.now _ (Ok tt) c.requires.row.are c.in-Some.ensures.lies c.if-not-judge_block.ensures.told
