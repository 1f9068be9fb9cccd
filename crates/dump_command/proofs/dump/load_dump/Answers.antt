use Rattle.dump_command.proofs.Loaded.{dump_loaded, dump_stopped}
use Rattle.dump_command.proofs.dump.load_dump.Goals as goal

pub returns-in-Ok-clause-loads : goal.returns-in-Ok-clause-loads
returns-in-Ok-clause-loads g c = dump_loaded _ _ _ c.in-Ok.schemas c.in-Ok.ensures.order c.in-Ok.ensures.loads

pub returns-in-Err-clause-loads : goal.returns-in-Err-clause-loads
returns-in-Err-clause-loads g c = dump_stopped _ _ _ c.in-Err.stop c.in-Err.ensures.loads c.in-Err.ensures.fails
