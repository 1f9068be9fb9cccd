use Rattle.std.proofs.Common.{◌≤◌, ◌+◌, ◌++◌, length, take, ap, ◌∙◌, sym, subst, arith, length-take-le}
use Rattle.tagvalue_codec.specs.Texts.{text_over}
use Rattle.tagvalue_codec.specs.Rooms.{begin_in, head_bytes}
use Rattle.tagvalue_codec.specs.Drafts.{Draft, ready_bytes}
use Rattle.tagvalue_codec.proofs.Drafting.{ready_long, goes_on, has_room, kept_open}
use Rattle.tagvalue_codec.proofs.write.FixWriter.led_field.Goals as goal

pub returns-clause-fits : goal.returns-clause-fits
returns-clause-fits c holds =
    let tag = take c.args.used c.args.lead.now in
    let value = c.args.value.now in
    let few : length (ready_bytes tag value) ≤ 57 = omega (arith, ready_long tag value, length-take-le c.args.used c.args.lead.now (omega (arith, c.requires.used, c.requires.lead)), c.requires.used, c.requires.short) in
    c.has_room.ensures.fits c.if-not-has_room.false (ready_bytes tag value) few

pub invariant_of-self : goal.invariant_of-self
invariant_of-self c =
    let tag = take c.args.used c.args.lead.now in
    let value = c.args.value.now in
    let piece = ready_bytes tag value in
    let few : length piece ≤ 57 = omega (arith, ready_long tag value, length-take-le c.args.used c.args.lead.now (omega (arith, c.requires.used, c.requires.lead)), c.requires.used, c.requires.short) in
    let fits = c.has_room.ensures.fits c.if-not-has_room.false piece few in (
      c.append_led.ensures.size ∙ c.self.invariant.0,
      c.self.invariant.1,
      goes_on c.self.inside.phase (begin_in c.self.inside.begin c.self.inside.text.bytes) c.self.inside.text.bytes c.self.inside.body c.append_led.new.self piece c.self.inside.text.limit
          (ap (λ (d : Draft). d.phase) c.self.view_is ∙ c.requires.open) c.self.invariant.2 c.append_led.ensures.bytes c.append_led.ensures.start
          (subst (λ (d : Draft). length (text_over d.begin (d.body ++ piece)) ≤ d.limit) (sym c.self.view_is) fits),
    )

pub append_led-requires-clause-room : goal.append_led-requires-clause-room
append_led-requires-clause-room c =
    let begin = begin_in c.self.inside.begin c.self.inside.text.bytes in
    let open_is = ap (λ (d : Draft). d.phase) c.self.view_is ∙ c.requires.open in
    let kept = kept_open c.self.inside.phase begin c.self.inside.text.bytes c.self.inside.body c.self.inside.text.limit open_is c.self.invariant.2 in
    let fits = subst (λ (d : Draft). length (head_bytes d.begin) + length d.body + 57 ≤ d.limit) (sym c.self.view_is) (c.has_room.ensures.room c.if-not-has_room.false) in
    let room = has_room begin c.self.inside.text.bytes c.self.inside.body c.self.inside.text.limit 57 c.self.invariant.0 kept.0 kept.2 fits in
    omega (arith, room, c.requires.short)
