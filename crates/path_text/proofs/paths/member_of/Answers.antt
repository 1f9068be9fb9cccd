use Rattle.path_text.proofs.PathParts.{member_told}
use Rattle.path_text.proofs.paths.member_of.Goals as goal

pub returns : goal.returns
returns c = member_told c.args.kind.now c.in-Comp.members c.args.i c.at.result.now c.in-Comp.is c.at.ensures
