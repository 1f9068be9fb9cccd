use Rattle.std.proofs.Common.{◌≡◌, ◌∙◌, sym, ap, true, false, rules, arith}
use Rattle.std.specs.Prelude.{Some}
use Rattle.typed_writer.proofs.Unset.{unset_next}
use Rattle.typed_writer.proofs.marks.Marks.unset.Goals as goal

pub returns-then-wants : goal.returns-then-wants
returns-then-wants c =
    let i = c.loop-i.i in
    let yes : c.wants.result ≡ true = search rules in
    sym (unset_next i c.args.fields.now c.args.self.now i c.index-fields-i.result true (omega arith) c.index-fields-i.is (c.wants.ensures ∙ ap Some yes)) ∙ c.loop-i.invariant

pub loop-i-preserved : goal.loop-i-preserved
loop-i-preserved c =
    let i = c.loop-i.i in
    let no : c.wants.result ≡ false = search rules in
    sym (unset_next i c.args.fields.now c.args.self.now i c.index-fields-i.result false (omega arith) c.index-fields-i.is (c.wants.ensures ∙ ap Some no)) ∙ c.loop-i.invariant
