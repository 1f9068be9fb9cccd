use Rattle.map_files.proofs.map_file.read_repository.Goals as goal

pub returns-in-Ok-clause-read : goal.returns-in-Ok-clause-read
returns-in-Ok-clause-read c = (c.args.bytes.now, c.in-Ok.ensures.answers)
