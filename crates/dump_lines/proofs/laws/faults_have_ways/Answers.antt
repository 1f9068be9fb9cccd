use Rattle.dump_lines.proofs.Ways as lemmas
use Rattle.dump_lines.proofs.laws.faults_have_ways.Goals as goal

pub returns : goal.returns
returns c = lemmas.faults_have_ways
