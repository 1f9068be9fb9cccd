use Rattle.std.proofs.Common.{rules}
use Rattle.fix_values.proofs.LeafLemmas.{outside}
use Rattle.fix_values.proofs.digits.admitted.Goals as goal

pub returns-then-is_value-clause-outside : goal.returns-then-is_value-clause-outside
returns-then-is_value-clause-outside c n unfit = outside c.args.leaf.now n (search rules) (search rules) unfit

pub returns-else-is_value-clause-outside : goal.returns-else-is_value-clause-outside
returns-else-is_value-clause-outside c n unfit = outside c.args.leaf.now n (search rules) (search rules) unfit

pub returns-in-None-clause-outside : goal.returns-in-None-clause-outside
returns-in-None-clause-outside c n unfit = outside c.args.leaf.now n (search rules) (search rules) unfit
