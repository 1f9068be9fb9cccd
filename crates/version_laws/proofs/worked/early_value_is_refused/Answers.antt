use Rattle.std.proofs.Common.{refl}
use denote.Hole.Carrier as carrier
use Rattle.sbe_types.specs.declared.schema.Level as level
use Rattle.sbe_wire.specs.Reading.{message_of, fields_read, value_read, row_read, elements_read, times_read, tail_read, groups_read, group_read, each_read}
use Rattle.version_laws.proofs.worked.early_value_is_refused.Goals as goal

pub returns : goal.returns
unfolding message_of fields_read value_read row_read elements_read times_read tail_read groups_read group_read each_read level.out-Level carrier.out
returns c = refl
