use Rattle.std.proofs.Common.{◌≡◌, [], drop, IsTrue}
use Rattle.std.specs.List.{list_all}
use Rattle.fix_values.specs.Codes.{code_text, has_short_text}
use Rattle.fix_values.proofs.code.show_code.Given as goal

abbrev pub invariant-loop-code : goal.invariant-loop-code
invariant-loop-code l = record {
  empty : l.out ≡ [];
  short : IsTrue (list_all has_short_text (drop l.code-index l.codes));
  same : code_text (drop l.code-index l.codes) l.n ≡ code_text l.codes l.n;
}
