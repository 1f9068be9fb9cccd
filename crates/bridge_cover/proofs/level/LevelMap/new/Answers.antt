use Rattle.std.proofs.Common.{ap}
use Rattle.bridge_terms.specs.Plans.{is_in}
use Rattle.bridge_cover.proofs.level.LevelMap.new.Goals as goal

pub returns : goal.returns
returns c = λ m s tables is. record {
  tables = tables;
  places = c.in_ok-places.ensures s is;
  passed = λ tag. ap (is_in tag)
      c.new-before.ensures;
}
