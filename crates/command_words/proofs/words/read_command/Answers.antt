use Rattle.command_words.proofs.WordLists.{texts}
use Rattle.command_words.proofs.WordLimits.{limits_within, draws_within, fields_given}
use Rattle.command_words.proofs.words.read_command.Goals as goal

pub returns-in-Ok-names_of-clause-ranges : goal.returns-in-Ok-names_of-clause-ranges
returns-in-Ok-names_of-clause-ranges c = record {
  limits = limits_within (texts c.args.options.now) c.in-Some-read_limits.limits c.in-Some-read_limits.ensures;
  head = fields_given (texts c.args.options.now) c.in-Ok-read_head.head c.in-Ok-read_head.ensures;
  count = draws_within (texts c.args.numbers.now) c.in-Some.draws c.in-Some.ensures;
}
