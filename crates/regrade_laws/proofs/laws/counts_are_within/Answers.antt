use Rattle.regrade_laws.proofs.Counting.{few_filled, few_dropped}
use Rattle.regrade_laws.proofs.laws.counts_are_within.Goals as goal

pub returns-clause-filled : goal.returns-clause-filled
returns-clause-filled c = λ level block few. few_filled level few.template few.dim block few.each

pub returns-clause-dropped : goal.returns-clause-dropped
returns-clause-dropped c = λ version level block few. few_dropped version level few.template few.dim block few.each
