use Rattle.std.proofs.Common.{ap, sym, ◌∙◌}
use Rattle.bridge_terms.specs.Places.{to_part}
use Rattle.message_walk.specs.Ways.{pushed}
use Rattle.message_walk.proofs.Entries.{slot_on, slot_off, written_refused, nothing_refused}
use Rattle.message_walk.proofs.walk.goes_on.Goals as goal

pub returns-in-Refused : goal.returns-in-Refused
returns-in-Refused c = λ lists old new text is.
    let h = c.args.halt.now in
    slot_off lists c.args.put old new h c.under.new.self c.args.lead.now text is c.in-Refused.is
    (c.under.ensures ∙ ap (λ t. record { cause = h.cause; way = pushed (to_part t) h.way }) c.tag.ensures)

pub returns-in-Written : goal.returns-in-Written
returns-in-Written c = λ lists old new text is.
    slot_on lists c.args.put old new c.args.halt.now c.args.halt.now c.args.lead.now text is (λ bad. written_refused (sym c.in-Written.is ∙ bad))

pub returns-in-Nothing : goal.returns-in-Nothing
returns-in-Nothing c = λ lists old new text is.
    slot_on lists c.args.put old new c.args.halt.now c.args.halt.now c.args.lead.now text is (λ bad. nothing_refused (sym c.in-Nothing.is ∙ bad))
