use Rattle.std.proofs.Common.{◌≡◌, drop}
use Rattle.fix_values.specs.Codes.{truth_number}
use Rattle.fix_values.proofs.number.read_truth.Given as goal

abbrev pub invariant-loop-name : goal.invariant-loop-name
invariant-loop-name l = truth_number (drop l.name-index l.names) l.leaf l.byte ≡ truth_number l.names l.leaf l.byte
