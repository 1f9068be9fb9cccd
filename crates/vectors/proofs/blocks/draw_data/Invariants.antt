use Rattle.std.proofs.Common.{◌≡◌, ◌-◌}
use Rattle.vectors.specs.Drawing.{times, below}
use Rattle.vectors.specs.declared.numbers.TheConstants.{BYTE_VALUES}
use Rattle.vectors.proofs.Gathering.{gathered}
use Rattle.vectors.proofs.blocks.draw_data.Given as goal

abbrev pub invariant-loop : goal.invariant-loop
invariant-loop l = gathered l.bytes (times (l.count - l.counter) (below BYTE_VALUES) l.words) ≡ times l.count (below BYTE_VALUES) l.fn.words
