use Rattle.std.proofs.Common.{◌≡◌, ◌-◌}
use Rattle.vectors.specs.Drawing.{times}
use Rattle.vectors.specs.Values.{octet_drawn}
use Rattle.vectors.proofs.Gathering.{gathered}
use Rattle.vectors.proofs.numbers.draw_octets.Given as goal

abbrev pub invariant-loop : goal.invariant-loop
invariant-loop l = gathered l.elements (times (l.count - l.counter) octet_drawn l.words) ≡ times l.count octet_drawn l.fn.words
