use Rattle.raw_fix.proofs.FaultLemmas.{resumes}
use Rattle.raw_fix.proofs.laws.faults_change_nothing.Goals as goal

pub returns : goal.returns
returns c = λ texts old mid new stream left later result before after same fault next. resumes texts old mid stream left before after same fault new later result next
