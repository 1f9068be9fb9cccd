use Rattle.std.proofs.Common.{◌≡◌, false, drop}
use Rattle.fix_values.specs.Tables.{goes_on, marks_of}
use Rattle.fix_values.proofs.code.mark_characters.Given as goal

abbrev pub invariant-loop-byte : goal.invariant-loop-byte
invariant-loop-byte l = record {
  spelled : goes_on l.space l.named (drop l.byte-index l.text) ≡ goes_on false l.fn.named l.text;
  marks : marks_of l.space l.named (drop l.byte-index l.text) ≡ marks_of false l.fn.named l.text;
}
