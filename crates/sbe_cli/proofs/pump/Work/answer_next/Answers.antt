use Rattle.sbe_cli.proofs.pump.Work.answer_next.Goals as goal

pub returns-in-ToFix-clause-answers : goal.returns-in-ToFix-clause-answers
returns-in-ToFix-clause-answers g c = rw c.in-ToFix.is c.answer_next-in-ToFix.ensures.answers
