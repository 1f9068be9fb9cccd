use Rattle.printers.proofs.Printing.{rest_written}
use Rattle.printers.proofs.printer.write_whole.Goals as goal

pub returns-in-Ok-2 : goal.returns-in-Ok-2
returns-in-Ok-2 g c =
    let state = g.O.Sink.state in
    rest_written (state c.args.sink.now) (state c.write.new.self) (state c.write_rest.new.sink) c.args.bytes.now c.in-Ok.n c.write_rest.result c.in-Ok.ensures.bytes c.in-Ok.ensures.cause.kept c.write_rest.ensures
