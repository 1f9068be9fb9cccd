use Rattle.std.proofs.Common.{subst}
use Rattle.fix_values.specs.Values.{text_of}
use Rattle.bridge_rules.specs.Texts.{field_text}
use Rattle.message_walk.specs.States.{IsPut, PutResult}
use Rattle.value_texts.proofs.Leaving.{whole}
use Rattle.value_texts.proofs.spelling.Spelling.put.Goals as goal

pub returns-clause-put : goal.returns-clause-put
returns-clause-put c = λ lists unpaired asked.
    let r : PutResult = record { put = c.put_ruled.result; draft = c.put_ruled.new.out; halt = c.put_ruled.new.halt } in
    subst (λ rule. IsPut lists c.args.out.now c.args.lead.now (field_text (text_of rule c.args.n)) r) c.self.view_is
    (whole (λ n. IsPut lists c.args.out.now c.args.lead.now (field_text (text_of c.self.inside.rule n)) r) c.args.n c.ranges.n (c.put_ruled.ensures.put lists unpaired))
