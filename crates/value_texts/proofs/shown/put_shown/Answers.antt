use Rattle.value_texts.proofs.Leaving.{shown_fine, shown_bad}
use Rattle.value_texts.proofs.shown.put_shown.Goals as goal

pub returns-in-Ok-clause-put : goal.returns-in-Ok-clause-put
returns-in-Ok-clause-put c = λ lists told unpaired left.
    shown_fine lists c.args.out.now (record { put = c.put_text.result; draft = c.put_text.new.out; halt = c.put_text.new.halt }) c.args.lead.now c.bytes.result.now c.args.text.now c.args.shown told
    c.bytes.ensures c.in-Ok.is left (c.put_text.ensures.put lists unpaired)

pub returns-in-Err-clause-put : goal.returns-in-Err-clause-put
returns-in-Err-clause-put c = λ lists told unpaired left.
    shown_bad lists c.args.out.now (record { put = c.refuse.result; draft = c.args.out.now; halt = c.refuse.new.halt }) c.args.lead.now c.args.text.now c.args.shown told c.in-Err.why
    c.in-Err.is left (c.refuse.ensures lists c.args.out.now c.args.lead.now)
