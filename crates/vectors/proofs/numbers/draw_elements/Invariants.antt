use Rattle.std.proofs.Common.{◌≡◌, ◌-◌}
use Rattle.vectors.specs.Drawing.{times}
use Rattle.vectors.specs.Values.{element_drawn}
use Rattle.vectors.proofs.Gathering.{gathered}
use Rattle.vectors.proofs.numbers.draw_elements.Given as goal

abbrev pub invariant-loop : goal.invariant-loop
invariant-loop l = gathered l.elements (times (l.leaf.length - l.counter) (element_drawn l.leaf) l.words) ≡ times l.leaf.length (element_drawn l.leaf) l.fn.words
