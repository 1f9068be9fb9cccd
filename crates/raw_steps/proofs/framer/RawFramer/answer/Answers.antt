use Rattle.std.proofs.Common.{sym, subst, Result}
use Rattle.open_framing.specs.Frames.{frame}
use Rattle.open_framing.specs.declared.head.TheConstants.{TAG_VALUE}
use Rattle.sbe_base.specs.declared.status.Status.{Status}
use Rattle.replies.specs.Drafts.{DeliversDraft}
use Rattle.replies.specs.Outside.{sinks_of}
use Rattle.replies.specs.declared.verdict.Verdict.{Verdict}
use Rattle.raw_steps.specs.RawReplies.{framed}
use Rattle.raw_steps.proofs.Replied.{output_delivered}
use Rattle.raw_steps.proofs.framer.RawFramer.answer.Goals as goal

pub returns-clause-delivers : goal.returns-clause-delivers
returns-clause-delivers g c = λ notes.
    let old = g.O.Sink.state c.args.output.now in
    let new = g.O.Sink.state c.write_frame.new.sink in
    subst (λ (r : Result Verdict Status). DeliversDraft (framed c.args.text.now) (sinks_of old notes) (sinks_of new notes) r) (sym c.verdict_of.ensures.told)
    (output_delivered (frame TAG_VALUE c.args.text.now) old new notes c.write_frame.result c.write_frame.ensures)
