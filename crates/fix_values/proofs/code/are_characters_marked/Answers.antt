use Rattle.std.proofs.Common.{◌∙◌, sym}
use Rattle.fix_values.proofs.NumeralLemmas.{byte_on}
use Rattle.fix_values.proofs.CodeLemmas.{passed_on}
use Rattle.fix_values.proofs.code.are_characters_marked.Goals as goal

pub loop-byte-preserved : goal.loop-byte-preserved
loop-byte-preserved c =
    passed_on c.loop-byte.here c.args.marks.now _ _ _ (byte_on c.args.text.now c.loop-byte.byte-index c.loop-byte-test.true) (sym c.is_passed.ensures ∙ c.if-not-is_passed.false) ∙ c.loop-byte.invariant
