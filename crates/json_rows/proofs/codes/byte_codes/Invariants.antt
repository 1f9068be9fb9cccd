use Rattle.std.proofs.Common.{◌≡◌, ◌≤◌, length, drop}
use Rattle.json_rows.specs.Codes.{AreTexts, IsWhole}
use Rattle.json_rows.proofs.codes.byte_codes.Given as goal

abbrev pub invariant-loop-left : goal.invariant-loop-left
invariant-loop-left l = record {
  within : l.left ≤ length l.names;
  size : length l.index ≡ 256;
  whole : IsWhole l.texts.items;
  texts : AreTexts l.index l.texts.items l.leaf (drop l.left l.names);
}

abbrev pub decreases-loop-left : goal.decreases-loop-left
decreases-loop-left l = l.left
