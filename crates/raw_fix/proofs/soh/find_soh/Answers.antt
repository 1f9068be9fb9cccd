use Rattle.frame_stream.proofs.Ends.{byte_nowhere, byte_found}
use Rattle.tagvalue_codec.specs.Fields.{soh}
use Rattle.raw_fix.proofs.soh.find_soh.Goals as goal

pub returns-in-Some : goal.returns-in-Some
returns-in-Some c = byte_found soh c.args.bytes.now c.args.plain c.in-Some.i c.requires.within c.requires.none c.in-Some.ensures

pub returns-in-None : goal.returns-in-None
returns-in-None c = byte_nowhere soh c.args.bytes.now c.args.plain c.requires.none c.in-None.ensures
