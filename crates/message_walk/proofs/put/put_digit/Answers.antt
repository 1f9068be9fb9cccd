use Rattle.std.proofs.Common.{Ok, Some, subst, sym}
use Rattle.std.proofs.lemmas.Fmt.{decimal_digit}
use Rattle.message_walk.specs.States.{IsPut, PutResult}
use Rattle.message_walk.proofs.Values.{digit_value}
use Rattle.message_walk.proofs.put.put_digit.Goals as goal

pub put_text-requires-clause-value : goal.put_text-requires-clause-value
put_text-requires-clause-value c = digit_value c.args.digit c.requires.digit

pub returns-clause-put : goal.returns-clause-put
returns-clause-put c = λ lists unpaired.
    let r : PutResult = record { put = c.put_text.result; draft = c.put_text.new.out; halt = c.put_text.new.halt } in
    subst (λ t. IsPut lists c.args.out.now c.args.lead.now (Ok (Some t)) r) (sym (decimal_digit c.args.digit c.requires.digit)) (c.put_text.ensures.put lists unpaired)
