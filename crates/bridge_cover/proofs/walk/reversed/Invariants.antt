use Rattle.std.proofs.Common.{◌≡◌, ◌++◌, length}
use Rattle.std.specs.Prelude.{reverse}
use Rattle.bridge_cover.proofs.walk.reversed.Given as goal

abbrev pub invariant-names : goal.invariant-names
invariant-names l = l.names ++ reverse l.left.items ≡ reverse l.fn.path

abbrev pub decreases-names : goal.decreases-names
decreases-names l = length l.left.items
