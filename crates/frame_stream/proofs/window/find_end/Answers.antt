use Rattle.frame_stream.proofs.Ends.{nowhere, found}
use Rattle.frame_stream.proofs.window.find_end.Goals as goal

pub returns-in-Some : goal.returns-in-Some
returns-in-Some c = found c.args.bytes.now c.args.plain c.in-Some.i c.requires.within c.requires.none c.in-Some.ensures

pub returns-in-None : goal.returns-in-None
returns-in-None c = nowhere c.args.bytes.now c.args.plain c.requires.none c.in-None.ensures
