use Rattle.std.proofs.Common.{take}
use Rattle.fix_values.specs.Codes.{codes_in}
use Rattle.set_texts.specs.Parts.{IsPart}
use Rattle.set_texts.proofs.parts.part_text.Given as goal

abbrev pub invariant-loop-code : goal.invariant-loop-code
invariant-loop-code l = IsPart (record { text = l.text; shown = l.shown }) (codes_in (take l.code-index l.codes) l.bits)
