-- What the comparison of two schemas answers. Own profile.
use Rattle.std.specs.Prelude.{◌≡◌, ℕ, Result, Ok, Err, List, ⊤}
use Rattle.lists.specs.declared.list.NoMem.{NoMem}
use Rattle.version_laws.specs.declared.difference.Compat.{Compat}
use Rattle.version_laws.specs.declared.difference.Compat.TheVariants as answer
use Rattle.regrade_laws.specs.declared.way.Way.{Way}
use Rattle.regrade.specs.declared.ways.WayErr.{WayErr}
use Rattle.regrade.specs.declared.ways.WayErr.TheVariants.{NotAnExtension, Memory}

-- the way, or the path of the first difference, unless it is out of memory
abbrev pub GivesWay : Result Way WayErr → Result Way (List ℕ) → Type 0
GivesWay (Ok way) told = told ≡ Ok way
GivesWay (Err (NotAnExtension path)) told = told ≡ Err path
GivesWay (Err Memory) told = ⊤

-- the way, unless the answer is that the schemas differ
abbrev pub way_unless : Way → Compat → Result Way (List ℕ)
way_unless way answer.TwoWay = Ok way
way_unless way (answer.OneWay path) = Ok way
way_unless way (answer.No path reason) = Err path

-- the same, unless it is out of memory
abbrev pub GivesUnless : Result Way WayErr → Way → Result Compat NoMem → Type 0
GivesUnless result way (Ok answer) = GivesWay result (way_unless way answer)
GivesUnless result way (Err e) = result ≡ Err Memory
