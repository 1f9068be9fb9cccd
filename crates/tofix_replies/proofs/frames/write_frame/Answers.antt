use Rattle.std.proofs.Common.{sym, subst, ap, ◌∙◌, ◌++◌}
use Rattle.sbe_base.specs.Writes.{Writes}
use Rattle.open_framing.specs.Frames.{frame}
use Rattle.open_framing.specs.declared.head.TheConstants.{TAG_VALUE}
use Rattle.tofix_replies.proofs.Framing.{head_is}
use Rattle.tofix_replies.proofs.frames.write_frame.Goals as goal

pub returns-clause-written : goal.returns-clause-written
returns-clause-written g c =
    subst (λ bytes. Writes (g.O.Sink.state c.args.sink.now) (g.O.Sink.state c.write_all_to.new.sink) bytes c.write_all_to.result)
    (c.framed.ensures.bytes c.requires.done
    ∙ ap (λ b. c.put_head.new.out ++ b) (sym c.bytes.ensures)
    ∙ head_is TAG_VALUE c.bytes.result.now _ c.put_head.ensures.bytes
    ∙ ap (frame TAG_VALUE) c.bytes.ensures) c.write_all_to.ensures
