-- How an answer is drafted, and written.
use Rattle.std.specs.Prelude.{◌≡◌, ◌⊎◌, Result, Ok, Err, ⊤}
use Rattle.lists.specs.declared.list.NoMem.{NoMem}
use Rattle.sbe_base.specs.declared.status.Status.{Status}
use Rattle.sbe_base.specs.declared.status.Status.TheVariants as status
use Rattle.sbe_base.specs.declared.stream.WriteFault.{WriteFault}
use Rattle.replies.specs.Outside.{Sinks, Wrote, Breaks}
use Rattle.replies.specs.Reply.{Written, Reply, written_of}
use Rattle.replies.specs.declared.draft.Draft.{Draft}
use Rattle.replies.specs.declared.verdict.Verdict.{Verdict}

-- what a draft holds
abbrev pub drafted : Draft → Written
drafted draft = record { output = draft.output.items; notes = draft.notes.items }

-- a draft holds this reply, unless it is out of memory
abbrev pub Drafts : Reply → Draft → Result Verdict NoMem → Type 0
Drafts reply draft (Ok verdict) = (draft.output.items ≡ reply.output) × (draft.notes.items ≡ reply.notes) × (verdict ≡ reply.verdict)
Drafts reply draft (Err e) = ⊤

-- output and notes grew by what is written, and no call failed
abbrev pub WroteCalmly : Written → Sinks → Sinks → Type 0
WroteCalmly written old new = Wrote old new written × (new.output.faults ≡ old.output.faults) × (new.notes.faults ≡ old.notes.faults)

-- all of it is written, or a part and a call failed
abbrev pub WritesBoth : Written → Sinks → Sinks → Result (Unit {0}) WriteFault → Type 0
WritesBoth written old new (Ok done) = WroteCalmly written old new
WritesBoth written old new (Err e) = Breaks old new written

-- a reply is written, or a part and a call failed, or it is out of memory and nothing is written
abbrev pub DeliversDraft : Reply → Sinks → Sinks → Result Verdict Status → Type 0
DeliversDraft reply old new (Ok verdict) = WroteCalmly (written_of reply) old new × (verdict ≡ reply.verdict)
DeliversDraft reply old new (Err code) = ((code ≡ status.WriteFault) × Breaks old new (written_of reply)) ⊎ ((code ≡ status.NoMemory) × (new ≡ old))
