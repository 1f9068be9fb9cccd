use Rattle.sbe_wire.specs.Versions.{acting}
use Rattle.schema_facts.proofs.WholeChecked.{messages_take}
use Rattle.layout_tables.proofs.Counts.{message_counted}
use Rattle.layout_tables.proofs.laws.no_more_entries_than_bytes.Goals as goal

pub returns : goal.returns
returns c = λ schema m level body checked at lays.
    message_counted schema m level body at (messages_take schema checked.entries (acting schema m.version) m.template level at) lays
