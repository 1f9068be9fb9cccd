use Rattle.std.proofs.Common.{◌≡◌, drop}
use Rattle.fix_values.specs.Codes.{code_text}
use Rattle.value_texts.proofs.quick.quick_code.Given as goal

abbrev pub invariant-loop-code : goal.invariant-loop-code
invariant-loop-code l = code_text (drop l.code-index l.codes) l.n ≡ code_text l.codes l.n
