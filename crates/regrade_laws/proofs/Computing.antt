-- One name for all that a row opens: a proof with the line `unfolding computing` computes.
use denote.Hole.Carrier as carrier
use Rattle.sbe_types.specs.declared.schema.Level as level
use Rattle.version_laws.specs.Differ.{level_differs}
use Rattle.version_laws.specs.Projected.{projected_block, lifted_block}
use Rattle.regrade_laws.specs.Fill.{fill}
use Rattle.regrade_laws.specs.Filled.{filled_block}
use Rattle.regrade_laws.specs.Counts.{filled_count, dropped_count}

unfoldable pub computing : Unit {0}
unfolding level_differs projected_block lifted_block fill filled_block filled_count dropped_count level.out-Level carrier.out
computing = tt
