use Rattle.bridge_cover.proofs.Passed.{passed}
use Rattle.bridge_cover.proofs.level.LevelMap.pass.Goals as goal

pub returns : goal.returns
returns c = λ m s before sees. passed m s before c.args.self.now sees c.args.tag _ _ c.in_ok-_new.ensures
