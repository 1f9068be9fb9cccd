use Rattle.std.proofs.Common.{◌≡◌, drop}
use Rattle.fix_values.specs.Codes.{code_number}
use Rattle.fix_values.proofs.code.read_code.Given as goal

abbrev pub invariant-loop-code : goal.invariant-loop-code
invariant-loop-code l = code_number (drop l.code-index l.codes) l.leaf l.text ≡ code_number l.codes l.leaf l.text
