use Rattle.tofix_command.proofs.loading.load_translations.Goals as goal

pub returns-in-Ok-clause-loads : goal.returns-in-Ok-clause-loads
returns-in-Ok-clause-loads g c = rw c.in-Ok.ensures.schemas at c.load_also.ensures.loads
