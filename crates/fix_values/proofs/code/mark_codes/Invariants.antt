use Rattle.std.proofs.Common.{◌≡◌, ◌≤◌, ◌+◌, ◌*◌, ◌^◌, drop, IsTrue}
use Rattle.std.specs.List.{list_all}
use Rattle.fix_values.specs.Codes.{bits_of, is_choice}
use Rattle.fix_values.specs.Tables.{marked_codes, with_marks}
use Rattle.fix_values.proofs.code.mark_codes.Given as goal

abbrev pub invariant-loop-code : goal.invariant-loop-code
invariant-loop-code l = record {
  choices : IsTrue (list_all is_choice (drop l.code-index l.codes));
  small : l.n ≤ l.code-index * 2 ^ 63;
  sum : l.n + bits_of (marked_codes l.named (drop l.code-index l.codes)) ≡ bits_of (marked_codes l.named l.codes);
  marks : with_marks l.coded (drop l.code-index l.codes) ≡ with_marks l.fn.coded l.codes;
}
