use Rattle.std.proofs.Common.{◌≡◌, drop, true}
use Rattle.std.specs.List.{list_all}
use Rattle.fix_values.specs.Codes.{code_text, has_short_text}
use Rattle.value_texts.proofs.spelling.put_code.Given as goal

abbrev pub invariant-loop-code : goal.invariant-loop-code
invariant-loop-code l = record {
  out : l.out ≡ l.fn.out;
  short : list_all has_short_text (drop l.code-index l.codes) ≡ true;
  same : code_text (drop l.code-index l.codes) l.n ≡ code_text l.codes l.n;
}
