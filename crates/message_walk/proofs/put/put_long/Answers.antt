use Rattle.message_walk.proofs.Fields.{field_taken, field_untaken}
use Rattle.message_walk.proofs.put.put_long.Goals as goal

pub returns-in-Ok-clause-put : goal.returns-in-Ok-clause-put
returns-in-Ok-clause-put c = λ lists unpaired.
    field_taken lists c.args.out.now c.ready_field.new.self c.args.halt.now c.bytes-tag.result.now c.args.lead.now c.args.text.now c.bytes-tag.ensures.bytes unpaired
    c.in-Ok.ensures.ok c.in-Ok.ensures.fits

pub returns-in-Err-clause-put : goal.returns-in-Err-clause-put
returns-in-Err-clause-put c = λ lists unpaired.
    field_untaken lists c.args.out.now c.ready_field.new.self c.tell.new.self c.bytes-tag.result.now c.args.lead.now c.args.text.now c.in-Err.full c.bytes-tag.ensures.bytes unpaired
    c.in-Err.ensures.err c.tell.ensures c.in-Err.ensures.full
