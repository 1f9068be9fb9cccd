-- One name for all that a worked row opens: a proof with the line `unfolding computing` computes.
use denote.Hole.Carrier as carrier
use Rattle.sbe_types.specs.declared.schema.Level as level
use Rattle.sbe_types.specs.declared.schema.Group as group
use Rattle.std.specs.Fmt.{digits}
use Rattle.schema_facts.specs.Levels.{nodes, nodes_below, nodes_of}

unfoldable pub computing : Unit {0}
unfolding nodes nodes_below nodes_of level.out-Level group.out-Group carrier.out digits
computing = tt
