use Rattle.std.proofs.Common.{rules, sym}
use Rattle.tagvalue_codec.proofs.Drafting.{one_digit, two_digits, three_digits}
use Rattle.tagvalue_codec.proofs.digits.digit_count.Goals as goal

pub returns-then-number-lt10-clause-is : goal.returns-then-number-lt10-clause-is
returns-then-number-lt10-clause-is c = sym (one_digit c.args.number (search rules))

pub returns-then-number-lt100-clause-is : goal.returns-then-number-lt100-clause-is
returns-then-number-lt100-clause-is c = sym (two_digits c.args.number (search rules) (search rules))

pub returns-then-number-lt1000-clause-is : goal.returns-then-number-lt1000-clause-is
returns-then-number-lt1000-clause-is c = sym (three_digits c.args.number (search rules) (search rules))
