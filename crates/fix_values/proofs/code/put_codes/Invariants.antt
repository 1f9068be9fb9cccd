use Rattle.std.proofs.Common.{◌≡◌, ◌≤◌, ◌+◌, ◌*◌, ◌^◌, [], length, drop, IsTrue}
use Rattle.std.specs.List.{list_all}
use Rattle.fix_values.specs.declared.short.TheConstants.{ROOM}
use Rattle.fix_values.specs.Codes.{bits_of, codes_in, is_choice}
use Rattle.fix_values.specs.Tables.{with_codes}
use Rattle.fix_values.proofs.code.put_codes.Given as goal

abbrev pub invariant-loop-code : goal.invariant-loop-code
invariant-loop-code l = record {
  choices : IsTrue (list_all is_choice (drop l.code-index l.codes));
  room : length l.out + 2 * length (codes_in (drop l.code-index l.codes) l.bits) ≤ ROOM;
  small : l.shown ≤ l.code-index * 2 ^ 63;
  sum : l.shown + bits_of (codes_in (drop l.code-index l.codes) l.bits) ≡ bits_of (codes_in l.codes l.bits);
  text : with_codes l.out (codes_in (drop l.code-index l.codes) l.bits) ≡ with_codes [] (codes_in l.codes l.bits);
}
