use Rattle.flat_rows.proofs.ValidBytes.{none_set}
use Rattle.flat_rows.proofs.bytes.enum_bytes.Goals as goal

pub note_names-requires-clause-none : goal.note_names-requires-clause-none
note_names-requires-clause-none c = none_set 256
