use Rattle.std.proofs.Common.{◌≡◌, drop}
use Rattle.std.specs.Prelude.{find, not}
use Rattle.sbe_types.specs.Shows.{is_text_byte}
use Rattle.field_bytes.proofs.judge.bad_byte.Given as goal

abbrev pub invariant-loop-byte : goal.invariant-loop-byte
invariant-loop-byte l = find (λ b. not (is_text_byte l.leaf b)) (drop l.byte-index l.text) ≡ find (λ b. not (is_text_byte l.leaf b)) l.text
