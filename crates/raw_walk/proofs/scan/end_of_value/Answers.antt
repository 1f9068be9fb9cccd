use Rattle.raw_walk.proofs.Plain.{search_none, search_some}
use Rattle.raw_walk.proofs.scan.end_of_value.Goals as goal

pub returns-in-Some : goal.returns-in-Some
returns-in-Some c = search_some c.args.bytes.now c.args.at c.in-Some.i c.requires c.in-Some.ensures

pub returns-in-None : goal.returns-in-None
returns-in-None c = search_none c.args.bytes.now c.args.at c.requires c.in-None.ensures
