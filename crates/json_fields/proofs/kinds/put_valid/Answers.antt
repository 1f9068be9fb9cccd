use Rattle.json_fields.proofs.Valid.{name_written}
use Rattle.json_fields.proofs.kinds.put_valid.Goals as goal

pub returns-in-Some : goal.returns-in-Some
returns-in-Some g c = name_written c.args.names.now c.args.number.now c.in-Some.name.now c.requires c.in-Some.ensures c.put_in_quotes.ensures
