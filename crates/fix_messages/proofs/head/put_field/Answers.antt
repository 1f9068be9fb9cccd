use Rattle.std.proofs.Common.{◌≡◌, subst, sym}
use Rattle.message_walk.specs.States.{after, outcome}
use Rattle.fix_messages.specs.Heads.{field_places, given, no_lists}
use Rattle.std.specs.Prelude.{Some}
use Rattle.fix_messages.proofs.Heads.{led_on, led_off}
use Rattle.fix_messages.proofs.head.put_field.Goals as goal

pub returns-in-Ok-clause-put : goal.returns-in-Ok-clause-put
returns-in-Ok-clause-put c = λ tag same.
    led_on c.args.out.now c.ready_field.new.self c.args.halt.now tag c.args.lead.now c.args.value.now same c.in-Ok.ensures.ok c.in-Ok.ensures.fits

pub returns-in-Err-clause-put : goal.returns-in-Err-clause-put
returns-in-Err-clause-put c = λ tag same.
    subst (λ b. outcome b c.ready_field.new.self c.no_room.new.halt ≡ after no_lists c.args.out.now (field_places (given tag (Some c.args.value.now)))) (sym c.no_room.ensures.refused)
    (led_off c.args.out.now c.ready_field.new.self c.no_room.new.halt tag c.args.lead.now c.args.value.now c.in-Err.full same c.in-Err.ensures.err c.no_room.ensures.halt c.in-Err.ensures.full)
