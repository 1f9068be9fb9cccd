use Rattle.frame_stream.proofs.Iterated.{last_taken, lines_taken}
use Rattle.frame_stream.proofs.laws.takes_are_the_lines.Goals as goal

pub returns-clause-end : goal.returns-clause-end
returns-clause-end c = lines_taken

pub returns-clause-last : goal.returns-clause-last
returns-clause-last c = last_taken
