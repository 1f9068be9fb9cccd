use Rattle.std.proofs.Common.{◌≡◌, ◌++◌, refl, subst, sym, arith, ◌∙◌}
use Rattle.std.specs.Option.{option_map}
use Rattle.std.specs.Fmt.{decimal}
use Rattle.message_walk.specs.States.{after, outcome}
use Rattle.fix_messages.specs.Heads.{field_places, given, head_of, no_lists}
use Rattle.fix_messages.proofs.Heads.{fields_on, fields_off, ready_lead, sender_lead, target_lead, number_lead, time_lead}
use Rattle.fix_messages.proofs.head.put_given_fields.Goals as goal

pub put_given-requires-clause-lead : goal.put_given-requires-clause-lead
put_given-requires-clause-lead c = ready_lead 49 _ (omega arith) (omega arith) refl sender_lead

pub put_given-requires-2-clause-lead : goal.put_given-requires-2-clause-lead
put_given-requires-2-clause-lead c = ready_lead 56 _ (omega arith) (omega arith) refl target_lead

pub put_number-requires-clause-lead : goal.put_number-requires-clause-lead
put_number-requires-clause-lead c = ready_lead 34 _ (omega arith) (omega arith) refl number_lead

pub put_given-requires-3-clause-lead : goal.put_given-requires-3-clause-lead
put_given-requires-3-clause-lead c = ready_lead 52 _ (omega arith) (omega arith) refl time_lead

pub returns-then-not-put_given-clause-put : goal.returns-then-not-put_given-clause-put
returns-then-not-put_given-clause-put c =
    let head = head_of c.args.head.now in
    let sender = given 49 head.sender in
    let rest = given 56 head.target ++ (given 34 (option_map decimal head.seq) ++ given 52 head.time) in
    let put = subst (λ b. outcome b c.put_given.new.out c.put_given.new.halt ≡ after no_lists c.args.out.now (field_places sender)) c.if-not-put_given.true (c.put_given.ensures.put 49 sender_lead) in
    fields_off c.args.out.now c.put_given.new.out c.put_given.new.halt sender rest put

pub returns-then-not-put_given-2-clause-put : goal.returns-then-not-put_given-2-clause-put
returns-then-not-put_given-2-clause-put c =
    let head = head_of c.args.head.now in
    let sender = given 49 head.sender in
    let target = given 56 head.target in
    let more = given 34 (option_map decimal head.seq) ++ given 52 head.time in
    let put = subst (λ b. outcome b c.put_given.new.out c.put_given.new.halt ≡ after no_lists c.args.out.now (field_places sender)) c.if-not-put_given.false (c.put_given.ensures.put 49 sender_lead) in
    let put_2 = subst (λ b. outcome b c.put_given-2.new.out c.put_given-2.new.halt ≡ after no_lists c.put_given.new.out (field_places target)) c.if-not-put_given-2.true (c.put_given-2.ensures.put 56 target_lead) in
    fields_off c.put_given.new.out c.put_given-2.new.out c.put_given-2.new.halt target more put_2
    ∙ sym (fields_on c.args.out.now c.put_given.new.out c.put_given.new.halt sender (target ++ more) put)

pub returns-then-not-put_number-clause-put : goal.returns-then-not-put_number-clause-put
returns-then-not-put_number-clause-put c =
    let head = head_of c.args.head.now in
    let sender = given 49 head.sender in
    let target = given 56 head.target in
    let seq = given 34 (option_map decimal head.seq) in
    let time = given 52 head.time in
    let put = subst (λ b. outcome b c.put_given.new.out c.put_given.new.halt ≡ after no_lists c.args.out.now (field_places sender)) c.if-not-put_given.false (c.put_given.ensures.put 49 sender_lead) in
    let put_2 = subst (λ b. outcome b c.put_given-2.new.out c.put_given-2.new.halt ≡ after no_lists c.put_given.new.out (field_places target)) c.if-not-put_given-2.false (c.put_given-2.ensures.put 56 target_lead) in
    let put_3 = subst (λ b. outcome b c.put_number.new.out c.put_number.new.halt ≡ after no_lists c.put_given-2.new.out (field_places seq)) c.if-not-put_number.true (c.put_number.ensures.put 34 number_lead) in
    fields_off c.put_given-2.new.out c.put_number.new.out c.put_number.new.halt seq time put_3
    ∙ sym (fields_on c.put_given.new.out c.put_given-2.new.out c.put_given-2.new.halt target (seq ++ time) put_2)
    ∙ sym (fields_on c.args.out.now c.put_given.new.out c.put_given.new.halt sender (target ++ (seq ++ time)) put)

pub returns-clause-put : goal.returns-clause-put
returns-clause-put c =
    let head = head_of c.args.head.now in
    let sender = given 49 head.sender in
    let target = given 56 head.target in
    let seq = given 34 (option_map decimal head.seq) in
    let time = given 52 head.time in
    let put = subst (λ b. outcome b c.put_given.new.out c.put_given.new.halt ≡ after no_lists c.args.out.now (field_places sender)) c.if-not-put_given.false (c.put_given.ensures.put 49 sender_lead) in
    let put_2 = subst (λ b. outcome b c.put_given-2.new.out c.put_given-2.new.halt ≡ after no_lists c.put_given.new.out (field_places target)) c.if-not-put_given-2.false (c.put_given-2.ensures.put 56 target_lead) in
    let put_3 = subst (λ b. outcome b c.put_number.new.out c.put_number.new.halt ≡ after no_lists c.put_given-2.new.out (field_places seq)) c.if-not-put_number.false (c.put_number.ensures.put 34 number_lead) in
    c.put_given-3.ensures.put 52 time_lead
    ∙ sym (fields_on c.put_given-2.new.out c.put_number.new.out c.put_number.new.halt seq time put_3)
    ∙ sym (fields_on c.put_given.new.out c.put_given-2.new.out c.put_given-2.new.halt target (seq ++ time) put_2)
    ∙ sym (fields_on c.args.out.now c.put_given.new.out c.put_given.new.halt sender (target ++ (seq ++ time)) put)
