use Rattle.std.proofs.Common.{◌≡◌, length}
use Rattle.value_texts.specs.Coded.{AreCodesOf}
use Rattle.value_texts.proofs.codes.texts_of_bytes.Given as goal

abbrev pub invariant-loop-byte : goal.invariant-loop-byte
invariant-loop-byte l = (length l.codes ≡ l.byte) × AreCodesOf l.spelling l.face l.codes
