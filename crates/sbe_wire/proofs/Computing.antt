-- One name for all that a worked row opens: a proof with the line `unfolding computing` computes.
use denote.Hole.Carrier as carrier
use Rattle.sbe_types.specs.declared.schema.Level as level
use Rattle.sbe_wire.specs.Reading.{message_of, fields_read, value_read, elements_read, times_read, tail_read, each_read}
use Rattle.sbe_wire.specs.Canonical.{canonical, tail_bytes}
use Rattle.sbe_wire.specs.Misfit.{misfit, block_shape, tail_taken}

unfoldable pub computing : Unit {0}
unfolding message_of fields_read value_read elements_read times_read tail_read each_read canonical tail_bytes misfit block_shape tail_taken level.out-Level carrier.out
computing = tt
