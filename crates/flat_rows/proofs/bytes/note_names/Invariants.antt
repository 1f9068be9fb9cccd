use Rattle.std.proofs.Common.{◌≡◌, ◌≤◌, length, drop}
use Rattle.flat_rows.specs.Bytes.{AreListedBytes}
use Rattle.flat_rows.proofs.bytes.note_names.Given as goal

abbrev pub invariant-loop-left : goal.invariant-loop-left
invariant-loop-left l = record {
  within : l.left ≤ length l.names;
  size : length l.valid ≡ 256;
  noted : AreListedBytes l.valid (drop l.left l.names);
}

abbrev pub decreases-loop-left : goal.decreases-loop-left
decreases-loop-left l = l.left
