use Rattle.sbe_cli.specs.Outside.{Desk}
use Rattle.sbe_cli.specs.Opens.{fails}
use Rattle.sbe_cli.proofs.Opening.{declined, same_object}
use Rattle.sbe_cli.proofs.pump.Pump.open.Goals as goal

pub returns-in-Err-Refused : goal.returns-in-Err-Refused
returns-in-Err-Refused g c =
    let before : Desk = record { files = g.F.Files.state c.args.files.now; loads = g.F.Files.load_count c.args.files.now; notes = g.N.Sink.state c.args.notes.now } in
    let after : Desk = record { files = g.F.Files.state c.open.new.files; loads = g.F.Files.load_count c.open.new.files; notes = g.N.Sink.state c.tell.new.notes } in
    declined c.args.command before after c.in-Err-Refused.file c.tell.result (rw c.in-Err-Refused.field-0-is at c.in-Err-Refused.ensures.loads)
    (rw c.in-Err-Refused.field-0-is at c.in-Err-Refused.ensures.names) (same_object before.files after.files c.in-Err-Refused.ensures.kept (rw c.in-Err-Refused.field-0-is at c.in-Err-Refused.ensures.cause)) c.tell.ensures

pub returns-in-Err-Fault : goal.returns-in-Err-Fault
returns-in-Err-Fault g c =
    let loads = rw c.in-Err-Fault.field-0-is at c.in-Err-Fault.ensures.loads in
    let cause = rw c.in-Err-Fault.field-0-is at c.in-Err-Fault.ensures.cause in
    let names = rw c.in-Err-Fault.field-0-is at c.in-Err-Fault.ensures.names in
    fails c.in-Err-Fault.role loads.files.fails names (record { rose = cause.1; later = cause.0 }) c.tell-in-Err-Fault.ensures
