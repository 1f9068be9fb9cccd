use Rattle.std.proofs.Common.{sym, subst, Result}
use Rattle.sbe_base.specs.declared.status.Status.{Status}
use Rattle.refused_items.specs.Refused.{refused_line}
use Rattle.replies.specs.Drafts.{DeliversDraft}
use Rattle.replies.specs.Outside.{sinks_of}
use Rattle.replies.specs.declared.verdict.Verdict.{Verdict}
use Rattle.raw_steps.specs.RawReplies.{garbled_at, noted}
use Rattle.raw_steps.proofs.Replied.{note_delivered}
use Rattle.raw_steps.proofs.framer.RawFramer.note.Goals as goal

pub returns-clause-delivers : goal.returns-clause-delivers
returns-clause-delivers g c = λ output.
    let kept = c.args.kept.now in
    let old = g.N.Sink.state c.args.notes.now in
    let new = g.N.Sink.state c.note_garbled.new.sink in
    subst (λ (r : Result Verdict Status). DeliversDraft (noted kept c.args.code c.args.length) (sinks_of output old) (sinks_of output new) r) (sym c.verdict_of.ensures.told)
    (note_delivered (refused_line kept.items (garbled_at c.args.code kept.bytes c.args.length)) old new output c.note_garbled.result c.note_garbled.ensures)
