-- One name for all that a worked row opens: a proof with the line `unfolding computing` computes.
use denote.Hole.Carrier as carrier
use Rattle.sbe_types.specs.declared.schema.Level as level
use Rattle.schema_facts.specs.Levels.{nodes}
use Rattle.sbe_wire.specs.Reading.{times_read, each_read}
use Rattle.level_skip.specs.Passing.{tail_passed}

unfoldable pub computing : Unit {0}
unfolding nodes times_read each_read tail_passed level.out-Level carrier.out
computing = tt
