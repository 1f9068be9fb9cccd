use Rattle.message_walk.proofs.Fields.{data_taken, data_untaken}
use Rattle.message_walk.proofs.put.put_data_text.Goals as goal

pub returns-in-Ok-clause-put : goal.returns-in-Ok-clause-put
returns-in-Ok-clause-put c = λ lists paired.
    data_taken lists c.args.out.now c.ready_data_field.new.self c.args.halt.now c.bytes-first.result.now c.bytes-second.result.now c.args.length_lead.now c.args.lead.now c.args.text.now
    c.bytes-first.ensures.bytes c.bytes-second.ensures.bytes paired c.in-Ok.ensures.ok c.in-Ok.ensures.fits

pub returns-in-Err-clause-put : goal.returns-in-Err-clause-put
returns-in-Err-clause-put c = λ lists paired.
    data_untaken lists c.args.out.now c.ready_data_field.new.self c.tell.new.self c.bytes-first.result.now c.bytes-second.result.now c.args.length_lead.now c.args.lead.now c.args.text.now
    c.in-Err.full c.bytes-first.ensures.bytes c.bytes-second.ensures.bytes paired c.in-Err.ensures.err c.tell.ensures c.in-Err.ensures.full
