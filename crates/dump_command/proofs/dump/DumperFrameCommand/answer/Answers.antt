use Rattle.std.proofs.Common.{subst}
use Rattle.open_framing.specs.Frames.{Item}
use Rattle.dump_lines.specs.declared.schemas.Schemas.{Schemas}
use Rattle.dump_command.specs.Dump.{IsDumpReply}
use Rattle.dump_command.proofs.Replied.{answered}
use Rattle.dump_command.proofs.dump.DumperFrameCommand.answer.Goals as goal

pub returns-clause-replied : goal.returns-clause-replied
returns-clause-replied g c =
    let item : Item = record { encoding = c.args.encoding; body = c.args.body.now } in
    let told = answered c.self.inside.schemas c.args.kept.now item c.self.invariant (g.O.Sink.state c.args.output.now) (g.O.Sink.state c.put_dumped-put.new.sink) (g.N.Sink.state c.args.notes.now) c.put_dumped-put.result c.put_dumped-put.ensures in
    (told.0, subst (λ (s : Schemas). IsDumpReply s c.args.kept.now item told.0) c.self.view_is told.1, told.2, rw c.verdict_of.ensures told.3)
