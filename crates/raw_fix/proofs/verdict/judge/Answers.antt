use Rattle.raw_fix.proofs.NearLemmas.{plain_known}
use Rattle.raw_fix.proofs.verdict.judge.Goals as goal

pub refuses-requires-clause-plain : goal.refuses-requires-clause-plain
refuses-requires-clause-plain c = plain_known c.args.bytes.now c.args.known.plain c.requires.none c.requires.within
