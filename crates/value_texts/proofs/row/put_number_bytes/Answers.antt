use Rattle.std.proofs.Common.{◌≡◌, ◌-◌, ◌∙◌, drop, take, refl, subst, sym, ap, arith, length-drop, take_all}
use Rattle.std.specs.Prelude.{Ok, Some}
use Rattle.message_walk.specs.Rows.{field_of}
use Rattle.message_walk.specs.States.{IsPut, PutResult}
use Rattle.message_walk.specs.declared.put.Put.TheVariants.{Nothing}
use Rattle.value_texts.proofs.row.put_number_bytes.Goals as goal

pub returns-in-Text-clause-put : goal.returns-in-Text-clause-put
returns-in-Text-clause-put c = λ lists unpaired reads within asks.
    let r : PutResult = record { put = c.put_text.result; draft = c.put_text.new.out; halt = c.put_text.new.halt } in
    subst (λ t. IsPut lists c.args.out.now c.args.lead.now t r) (sym (c.in-Text.ensures.told (field_of c.args.block.now c.args.number) reads)) (c.put_text.ensures.put lists unpaired)

pub returns-in-Room-clause-put : goal.returns-in-Room-clause-put
returns-in-Room-clause-put c = λ lists unpaired reads within asks.
    let r : PutResult = record { put = c.put_text-in-Room.result; draft = c.put_text-in-Room.new.out; halt = c.put_text-in-Room.new.halt } in
    let at = c.in-Room.at in
    let room = c.text_of_bytes.new.room in
    let whole : take (40 - at) (drop at room) ≡ drop at room = take_all (40 - at) (drop at room) (omega (arith, length-drop at room, c.text_of_bytes.ensures.long)) in
    let told = c.in-Room.ensures.told (field_of c.args.block.now c.args.number) reads in
    subst (λ t. IsPut lists c.args.out.now c.args.lead.now t r) (ap (λ t. Ok (Some t)) whole ∙ sym told) (c.put_text-in-Room.ensures.put lists unpaired)

pub returns-in-Nothing-clause-put : goal.returns-in-Nothing-clause-put
returns-in-Nothing-clause-put c = λ lists unpaired reads within asks.
    let r : PutResult = record { put = Nothing; draft = c.args.out.now; halt = c.args.halt.now } in
    subst (λ t. IsPut lists c.args.out.now c.args.lead.now t r) (sym (c.in-Nothing.ensures.told (field_of c.args.block.now c.args.number) reads)) (refl, refl)

pub returns-in-Other-clause-put : goal.returns-in-Other-clause-put
returns-in-Other-clause-put c = λ lists unpaired reads within asks. c.put_checked.ensures.put lists unpaired within asks
