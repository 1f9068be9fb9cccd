use Rattle.version_project.proofs.AddedWalk.{among_goes, among_stops}
use Rattle.version_project.proofs.added.added_among.Goals as goal

pub returns-in-Some : goal.returns-in-Some
returns-in-Some c = among_stops c.args.version c.args.olds.now c.args.news.now _ c.loop-i.i _ _ _ c.at.ensures c.in_ok-path.ensures c.in-Some.is c.loop-i.invariant

pub loop-i-preserved : goal.loop-i-preserved
loop-i-preserved c = among_goes c.args.version c.args.olds.now c.args.news.now _ c.loop-i.i _ _ c.at.ensures c.in_ok-path.ensures c.in_default.is c.loop-i.invariant
